-- `write::write_answers`: the answers passed so far are in the room, and every other byte is as it was. Assumes
-- nothing.
use Rattle.std.proofs.Common.{◌≡◌, ℕ, ◌<◌, ◌≤◌, get_or}
use Rattle.theory.specs.Truth.{code_of}
use Rattle.theory.specs.declared.answer.Truth.{Truth}
use Rattle.engine.proofs.write.write_answers.Given as goal

abbrev pub invariant-loop-a : goal.invariant-loop-a
invariant-loop-a l = record {
  answers : (k : ℕ) → k < l.a → get_or l.room k 0 ≡ code_of (get_or l.answers k Truth.Undefined);
  later : (k : ℕ) → l.a ≤ k → get_or l.room k 0 ≡ get_or l.initial.room k 0;
}
