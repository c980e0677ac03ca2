-- Which predicates a level has. Assumes nothing.
use Rattle.std.specs.Prelude.{Bool, List, ℕ, eqb}
use Rattle.book.specs.Records.{predicate_in}

-- predicate p is of level n
abbrev pub level_is : List ℕ → ℕ → ℕ → Bool
level_is b n p = eqb (predicate_in b p).level n
