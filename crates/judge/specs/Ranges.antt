-- An element of a book as read, and those of a range. Assumes nothing.
use Rattle.std.specs.Prelude.{ℕ, List, map, ℤ}
use Rattle.std.proofs.Math.Seq.{slice}
use Rattle.meaning.specs.Format.{tables}
use Rattle.meaning.specs.Reading.{Element, element_of}
use Rattle.book.specs.Records.{element_in}

abbrev pub element_read : List ℕ → ℕ → Element
element_read b e = element_of (element_in b e)

-- the elements from `first` to before `past`
unfoldable pub elements_read : List ℕ → ℕ → ℕ → List Element
elements_read b first past = map element_of (slice first past (tables b).elements)

-- what an element weighs, by its own weight
abbrev pub weighing : (ℤ → ℤ) → Element → ℤ
weighing weigh e = weigh e.weight
