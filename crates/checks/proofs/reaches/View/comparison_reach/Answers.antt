-- `View::comparison_reach`: past the last element. Assumes nothing.
use Rattle.std.proofs.Common.{arith}
use Rattle.checks.proofs.ReachLaws.{to_end}
use Rattle.checks.proofs.reaches.View.comparison_reach.Goals as goal

pub returns-clause-is : goal.returns-clause-is
returns-clause-is c =
    to_end _ _ _ c.comparison-comparison.ensures.is _ _ _ _ _ (cc) (cc) (omega arith) c.loop-e.invariant.is
