-- `Level::gather`: what the rules passed so far say of each atom that may be decided.
use Rattle.std.proofs.Common.{◌≡◌}
use Rattle.steps.specs.Round.{Gathered}
use Rattle.steps.proofs.level.Level.gather.Given as goal

abbrev pub invariant-loop-r : goal.invariant-loop-r
invariant-loop-r l = (l.bodies.judge.book ≡ l.self.book) × (l.bodies.judge.answers.now ≡ l.self.answers.now) ×
    Gathered l.self.book.frame.bytes.now l.self.answers.now l.due l.best l.r
