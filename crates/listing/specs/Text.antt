-- What the listing program prints: document 01, "Examples to build against", its last part. Assumes nothing.
use Rattle.std.specs.Prelude.{ℕ, zero, suc, ◌+◌, ◌/◌, ◌%◌, cond, eqb, ltb}
use Rattle.std.specs.Prelude.{List, [], ◌∷◌, ◌++◌, codes, get_or, replicate}
use Rattle.theory.specs.declared.answer.Truth.{Truth}
use Rattle.meaning.specs.Format.{atom_count}
use Rattle.meaning.specs.Reading.{truth_of}
use Rattle.meaning.specs.Outcome.{Outcome, outcome}

-- a digit's character: that of 0 is 48
abbrev pub digit : ℕ → ℕ
digit d = 48 + d

-- A number below 10 is its digit, any other the text of its tenth and then its last digit; `more` bounds the tenths.
unfoldable pub decimal_in : ℕ → ℕ → List ℕ
decimal_in zero n = digit n ∷ []
decimal_in (suc more) n = cond (ltb n 10) (digit n ∷ []) (decimal_in more (n / 10) ++ digit (n % 10) ∷ [])

-- a number in decimal, with the fewest digits
abbrev pub decimal : ℕ → List ℕ
decimal n = decimal_in n n

-- the words for answers
abbrev pub word_of : Truth → List ℕ
word_of Truth.Undefined = codes "undefined"
word_of Truth.True = codes "true"
word_of Truth.False = codes "false"

-- atom index and answer
unfoldable pub line_of : ℕ → Truth → List ℕ
line_of a x = decimal a ++ codes " " ++ word_of x ++ codes "\n"

-- the lines of the first n atoms, in index order, of a room that holds the answers
unfoldable pub lines_of : List ℕ → ℕ → List ℕ
lines_of room zero = []
lines_of room (suc a) = lines_of room a ++ line_of a (truth_of (get_or room a 0))

-- First the number of atoms; then atom index and answer, in index order.
unfoldable pub answers_text : ℕ → List ℕ → List ℕ
answers_text n room = codes "answers " ++ decimal n ++ codes "\n" ++ lines_of room n

-- a number after a single space
unfoldable pub spaced : ℕ → List ℕ
spaced n = codes " " ++ decimal n

-- a place is a table number and a record
unfoldable pub place_text : ℕ → ℕ → List ℕ
place_text table row = spaced table ++ spaced row

-- A refused book gives one line: `refused`, number, table, record, with single spaces.
unfoldable pub refused_text : ℕ → ℕ → ℕ → List ℕ
refused_text number table row = codes "refused" ++ spaced number ++ place_text table row ++ codes "\n"

-- a packed refusal, number × 10,000,000 + table × 1,000,000 + record, taken apart
abbrev pub packed_text : ℕ → List ℕ
packed_text packed = refused_text (packed / 10000000) (packed / 1000000 % 10) (packed % 1000000)

-- the text of what the entry returns and leaves in the room, for a book of n atoms
unfoldable pub text_of : ℕ → Outcome → List ℕ
text_of n o = cond (eqb o.number 0) (answers_text n o.room) (packed_text o.number)

-- The program's room is always long enough.
abbrev pub room_length : ℕ
room_length = 2048

-- The program reads at most so many bytes: one more than the largest book has.
abbrev pub read_most : ℕ
read_most = 64817

-- what the program prints for a book
unfoldable pub listing_of : List ℕ → List ℕ
listing_of b = text_of (atom_count b) (outcome b (replicate room_length 0))
