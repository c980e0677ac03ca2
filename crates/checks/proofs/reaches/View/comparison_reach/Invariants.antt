-- `View::comparison_reach`: the highest use of the elements passed so far. Assumes nothing.
use mathlib.Core.Path.{◌≡◌}
use Prim.Native.Nat.{◌≤◌}
use Rattle.checks.proofs.ReachLaws.{reach_to}
use Rattle.checks.proofs.reaches.View.comparison_reach.Given as goal

abbrev pub invariant-loop-e : goal.invariant-loop-e
invariant-loop-e l = record {
  small : l.reach ≤ 256;
  is : l.reach ≡ reach_to l.self.book.frame.bytes.now l.self.aspect l.plain l.negated l.initial.e l.e;
}
