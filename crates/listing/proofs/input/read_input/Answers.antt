-- What was read in this turn stands after what was read before. Assumes nothing.
use Rattle.std.proofs.Common.{rules}
use Rattle.listing.proofs.InputLaws.{read_more}
use Rattle.listing.proofs.input.read_input.Goals as goal

pub loop-done-preserved : goal.loop-done-preserved
loop-done-preserved g c =
    let before = c.loop-done.invariant in
    let now = c.in_ok-more.ensures in
    let all = read_more _ _ _ _ _ before.most now.bound.0 _ _ _ before.bytes now.bytes.0 in
    record { long = search rules; most = search rules; bytes = all }
