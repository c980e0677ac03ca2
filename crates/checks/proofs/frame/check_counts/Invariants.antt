-- `frame::check_counts`: the tables passed so far have no count above its limit. Assumes nothing.
use Rattle.laws.proofs.Searches.{NoneTo}
use Rattle.checks.proofs.FrameLaws.{many_at}
use Rattle.checks.proofs.frame.check_counts.Given as goal

abbrev pub invariant-loop-k : goal.invariant-loop-k
invariant-loop-k l = NoneTo (many_at l.bytes) l.k
