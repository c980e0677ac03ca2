-- Marks at the heads of rules, and the test of check 7 at an atom. Assumes nothing.
use Rattle.std.specs.Prelude.{◌≡◌, Bool, false, List, ℕ, ◌<◌, length, get_or}
use Rattle.meaning.specs.Format.{atom_count, tables}
use Rattle.meaning.specs.Reading.{reading}
use Rattle.meaning.specs.Refusal.{concluded, given_wrongly}
use Rattle.book.specs.Records.{atom_in}

-- the mark of each atom: does a rule conclude it?
pub record Marked (b : List ℕ) (marks : List Bool) : Type 0 where
  pub room : length marks ≡ 2048
  pub at : (a : ℕ) → a < atom_count b → get_or marks a false ≡ concluded (reading (tables b)) a

-- check 7 at atom a
unfoldable pub wrong_in : List ℕ → ℕ → Bool
wrong_in b a = given_wrongly (reading (tables b)) a (atom_in b a)
