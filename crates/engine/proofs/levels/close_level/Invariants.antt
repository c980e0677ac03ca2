-- `levels::close_level`: the atoms passed so far are closed, and the others as they were. Assumes nothing.
use Rattle.std.proofs.Common.{◌≡◌, ℕ, ◌<◌, ◌≤◌}
use Rattle.meaning.specs.Model.{closing}
use Rattle.judge.specs.Held.{held}
use Rattle.steps.specs.Work.{levels_in, rules_in}
use Rattle.engine.proofs.levels.close_level.Given as goal

abbrev pub invariant-loop-a : goal.invariant-loop-a
invariant-loop-a l = record {
  closed : (k : ℕ) → k < l.a →
      held l.answers k
      ≡ closing (rules_in l.book.frame.bytes.now) (levels_in l.book.frame.bytes.now) l.level k
      (held l.initial.answers k);
  later : (k : ℕ) → l.a ≤ k → held l.answers k ≡ held l.initial.answers k;
}
