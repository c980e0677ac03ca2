-- A search of step (c): its book, and what differs after a look at a body. Assumes nothing.
use Rattle.std.specs.Prelude.{◌≡◌, List, ℕ}
use Rattle.steps.specs.declared.search.Assumption.{Assumption}
use Rattle.steps.specs.declared.search.Search.{Search}

-- the bytes of its book, and of the book of what it assumes
abbrev pub book_in : Search → List ℕ
book_in s = s.level.book.frame.bytes.now

abbrev pub book_of : Assumption → List ℕ
book_of s = s.book.frame.bytes.now

-- nothing differs but what is known
pub record Looked (s t : Assumption) : Type 0 where
  pub book : t.book ≡ s.book
  pub assumed : t.assumed ≡ s.assumed
  pub left : t.left ≡ s.left

-- the same of a search
pub record Quiet (s t : Search) : Type 0 where
  pub level : t.level ≡ s.level
  pub looked : Looked s.state t.state
  pub front : t.front ≡ s.front
