-- How many bytes the program's texts take at most, so that its text has room for them. Assumes nothing.
use Rattle.std.specs.Prelude.{ℕ, ◌+◌, ◌≤◌}
use Rattle.arrayvec.specs.ArrayString.{ArrayString, array_string_len}

-- a number of 64 bits
abbrev pub number_most : ℕ
number_most = 20

-- one after a space
abbrev pub spaced_most : ℕ
spaced_most = 1 + number_most

-- a place: table and record
abbrev pub place_most : ℕ
place_most = spaced_most + spaced_most

-- an answer's word
abbrev pub word_most : ℕ
word_most = 9

-- an atom's line
abbrev pub line_most : ℕ
line_most = number_most + 1 + word_most + 1

-- the first line of an accepted book
abbrev pub head_most : ℕ
head_most = 8 + number_most + 1

-- the line of a refused one
abbrev pub refused_most : ℕ
refused_most = 7 + spaced_most + place_most + 1

-- the whole text
abbrev pub text_most : ℕ
text_most = 65536

-- so many bytes more fit into the text
abbrev pub HasRoom : ArrayString → ℕ → Type 0
HasRoom text more = array_string_len text + more ≤ text_most
