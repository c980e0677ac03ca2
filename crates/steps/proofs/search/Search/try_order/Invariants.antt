-- `Search::try_order`: each look leaves as many or fewer. Assumes nothing.
use Rattle.std.proofs.Common.{◌≡◌, ◌+◌, ◌-◌, ◌<◌, ◌≤◌}
use Rattle.steps.proofs.search.Search.try_order.Given as goal

abbrev pub invariant-loop-quiet : goal.invariant-loop-quiet
invariant-loop-quiet l = record {
  level : l.self.level ≡ l.initial.self.level;
  fewer : l.self.state.left ≤ l.initial.self.state.left;
  place : l.p < 2049;
}

abbrev pub decreases-loop-quiet : goal.decreases-loop-quiet
decreases-loop-quiet l = l.self.state.left + (l.rules - l.quiet)
