-- `Reach::rule_fault`: none of the hypotheses passed so far reaches above the limit. Assumes nothing.
use Prim.Native.Nat.{ℕ, ◌<◌, ◌≤◌}
use Rattle.checks.specs.Uses.{hypothesis_reach}
use Rattle.checks.proofs.uses.Reach.rule_fault.Given as goal

abbrev pub invariant-loop-h : goal.invariant-loop-h
invariant-loop-h l =
    (j : ℕ) → l.initial.h ≤ j → j < l.h →
    hypothesis_reach l.self.view.book.frame.bytes.now l.self.view.aspect j ≤ l.limit
