-- `Level::due`: the steps due to the atoms passed so far are written down.
use Rattle.std.proofs.Common.{◌≡◌, ◌<◌, length, ℕ, get_or}
use Rattle.steps.specs.Due.{due_in}
use Rattle.steps.proofs.level.Level.due.Given as goal

abbrev pub invariant-loop-a : goal.invariant-loop-a
invariant-loop-a l = (length l.steps ≡ 2048) ×
    ((a : ℕ) → a < l.a → get_or l.steps a 0 ≡ due_in l.self.book.frame.bytes.now l.self.number l.self.answers.now a)
