-- `mixture::check_mixture`: none of the predicates passed so far is at fault. Assumes nothing.
use Rattle.laws.proofs.Searches.{NoneTo}
use Rattle.checks.proofs.MixtureLaws.{mixed_at}
use Rattle.checks.proofs.mixture.check_mixture.Given as goal

abbrev pub invariant-loop-i : goal.invariant-loop-i
invariant-loop-i l = NoneTo (mixed_at l.frame.bytes.now) l.i
