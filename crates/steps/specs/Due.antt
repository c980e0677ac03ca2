-- What a round may do to each atom. Assumes nothing.
use Rattle.std.specs.Prelude.{◌≡◌, Bool, cond, ◌&&◌, List, ℕ, ◌<◌, eqb, length, get_or}
use Rattle.theory.specs.Truth.{is_undefined}
use Rattle.theory.specs.declared.answer.Truth.{Truth}
use Rattle.meaning.specs.Format.{atom_count}
use Rattle.meaning.specs.declared.codes.Kind.{Kind}
use Rattle.book.specs.Records.{kind_read, level_read}
use Rattle.judge.specs.Held.{held}

-- atom a is undefined, and of level n
unfoldable pub pending_in : List ℕ → ℕ → List Truth → ℕ → Bool
pending_in b n A a = is_undefined (held A a) && eqb (level_read b a) n

-- how many of the steps (a), (b) and (c) are for a kind: (a) for all, (b) for complete and closed, (c) for closed
abbrev pub steps_of : Kind → ℕ
steps_of Kind.Certain = 1
steps_of Kind.Open = 1
steps_of Kind.Complete = 2
steps_of Kind.Closed = 3

-- and for atom a in a round of level n: none if it is decided, or of another level
unfoldable pub due_in : List ℕ → ℕ → List Truth → ℕ → ℕ
due_in b n A a = cond (pending_in b n A a) (steps_of (kind_read b a)) 0

-- D has this for each atom
pub record Due (b : List ℕ) (n : ℕ) (A : List Truth) (D : List ℕ) : Type 0 where
  pub long : length D ≡ 2048
  pub steps : (a : ℕ) → a < atom_count b → get_or D a 0 ≡ due_in b n A a
