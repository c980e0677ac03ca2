-- `Level::unfounded`: each turn but the last lowers what is left. Assumes nothing.
use Rattle.std.proofs.Common.{◌≡◌}
use Rattle.steps.proofs.level.Level.unfounded.Given as goal

abbrev pub invariant-loop : goal.invariant-loop
invariant-loop l = l.search.level ≡ l.initial.search.level

abbrev pub decreases-loop : goal.decreases-loop
decreases-loop l = l.search.state.left
