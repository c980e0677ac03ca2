-- `levels::given_answers`: the atoms passed so far have their given answers. Assumes nothing.
use Rattle.std.proofs.Common.{◌≡◌, ℕ, ◌<◌, length}
use Rattle.meaning.specs.Format.{tables}
use Rattle.meaning.specs.Reading.{given_of}
use Rattle.judge.specs.Held.{held}
use Rattle.engine.proofs.levels.given_answers.Given as goal

abbrev pub invariant-loop-a : goal.invariant-loop-a
invariant-loop-a l = record {
  long : length l.answers ≡ 2048;
  given : (k : ℕ) → k < l.a → held l.answers k ≡ held (given_of (tables l.book.frame.bytes.now)) k;
}
