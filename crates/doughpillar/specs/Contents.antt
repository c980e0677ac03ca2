-- What a book's table of contents says, before any check. Assumes nothing.
use Rattle.std.specs.Prelude.{cond, List, ℕ, ltb, length}
use Rattle.meaning.specs.Format.{atom_count, contents}

-- the count of the second table, and none for a book that is shorter than its table of contents
unfoldable pub atoms_said : List ℕ → ℕ
atoms_said b = cond (ltb (length b) contents) 0 (atom_count b)
