-- `records::unlisted`: the table that is left has no codes. Assumes nothing.
use Rattle.std.proofs.Common.{◌≡◌, arith}
use Rattle.checks.specs.Faults.{unlisted_in}
use Rattle.checks.proofs.records.unlisted.Goals as goal

pub returns-in_default : goal.returns-in_default
unfolding unlisted_in
returns-in_default c = let e : c.args.k ≡ 2 = omega arith in rw e
