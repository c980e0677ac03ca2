-- `given::wrong`: the three that are read of the atom. Assumes nothing.
use Rattle.std.proofs.Common.{◌≡◌, not, arith}
use Rattle.std.proofs.lemmas.Grind.{common_steps}
use Rattle.meaning.specs.Reading.{is_open}
use Rattle.checks.proofs.GivenLaws.{wrong_is}
use Rattle.checks.proofs.given.wrong.Goals as goal

pub returns : goal.returns
returns c =
    let e : c.ne.result ≡ not (is_open c.kind.result) = grind (arith, common_steps) in
    rw (e, c.kind.ensures, c.atom.ensures.is) (wrong_is _ _ _ c.requires.atom c.requires.heads)
