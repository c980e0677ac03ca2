-- The examples to build against: document 01's, and our own. One statement gathers them, a second one says how a book
-- is written. Assumes nothing.
use Rattle.std.specs.Prelude.{ℕ, ◌≡◌, List, [], ◌∷◌, ◌++◌, map, drop, length}
use Rattle.meaning.specs.Format.{count_of, offset_of}
use Rattle.meaning.specs.declared.codes.Relation.TheVariants.{Ge}
use Rattle.meaning.specs.Outcome.{outcome}
-- how they are written
pub mod Notation
-- document 01's
pub mod Marked
-- our own: answers
pub mod Models
-- our own: refusals
pub mod Refused
use Notation.{Example, minus}
use Marked.{bounds, edges, empty, kinds, listing, loops, open_atoms, ranges}
use Models.{bodies, extremes, largest, maxima, minima, rounds, smallest, sum_with_negative, sums, unfounded_sets}
use Refused.{bytes, codes, counts, indices, neighbours, order, own_counts, own_maxima, own_minima, own_negated_sums}
use Refused.{own_sums, places, positively, records, rules}

-- the entry returns the number, and the room is as said afterwards
abbrev pub Right : Example → Type 0
Right e = outcome e.book e.room ≡ record { number = e.number; room = e.after }

-- all of them
unfoldable pub examples : List Example
examples =
    -- document 01's
    kinds ++ loops ++ open_atoms ++ bounds ++ edges ++ ranges
    -- our own: comparisons
    ++ sums ++ extremes ++ maxima ++ minima ++ largest ++ smallest
    -- our own: the model
    ++ rounds ++ unfounded_sets ++ bodies
    -- our own: refusals
    ++ bytes ++ counts ++ codes ++ indices ++ records ++ rules
    -- our own: refusal 10
    ++ positively ++ own_counts ++ own_sums ++ own_negated_sums ++ own_minima ++ own_maxima
    -- our own: the order of refusals, and their places
    ++ order ++ neighbours ++ places

-- the six entries of a table of contents, from 0
abbrev pub six : List ℕ
six = 0 ∷ 1 ∷ 2 ∷ 3 ∷ 4 ∷ 5 ∷ []

-- the bodies of a ← b; b ← a; c ← not a
abbrev pub listing_bytes : List ℕ
listing_bytes =
    -- a closed predicate at level 0
    3 ∷ 0
    -- three atoms of predicate 0, not given
    ∷ 0 ∷ 0 ∷ 0
    ∷ 0 ∷ 0 ∷ 0
    ∷ 0 ∷ 0 ∷ 0
    -- three rules: head, first hypothesis, how many
    ∷ 0 ∷ 0 ∷ 0 ∷ 0 ∷ 1 ∷ 0
    ∷ 1 ∷ 0 ∷ 1 ∷ 0 ∷ 1 ∷ 0
    ∷ 2 ∷ 0 ∷ 2 ∷ 0 ∷ 1 ∷ 0
    -- atom 1, atom 0, not atom 0
    ∷ 0 ∷ 1 ∷ 0
    ∷ 0 ∷ 0 ∷ 0
    ∷ 1 ∷ 0 ∷ 0
    ∷ []

-- the bodies of c ← sum{2: x, -3: y} ≥ -1
abbrev pub sum_bytes : List ℕ
sum_bytes =
    -- an open and a complete predicate at level 0
    1 ∷ 0
    ∷ 2 ∷ 0
    -- x given true, y not given, c
    ∷ 0 ∷ 0 ∷ 1
    ∷ 0 ∷ 0 ∷ 0
    ∷ 1 ∷ 0 ∷ 0
    -- one rule, one hypothesis, comparison 0
    ∷ 2 ∷ 0 ∷ 0 ∷ 0 ∷ 1 ∷ 0
    ∷ 2 ∷ 0 ∷ 0
    -- sum, ≥, -1, two elements from 0
    ∷ 1 ∷ 5 ∷ 255 ∷ 255 ∷ 255 ∷ 255 ∷ 0 ∷ 0 ∷ 2 ∷ 0
    -- x with 2, y with -3
    ∷ 0 ∷ 0 ∷ 0 ∷ 2 ∷ 0 ∷ 0 ∷ 0
    ∷ 0 ∷ 1 ∷ 0 ∷ 253 ∷ 255 ∷ 255 ∷ 255
    ∷ []

-- How a book is written, byte by byte: the empty book, the one that the listing program prints, and one with a sum.
pub record Written : Type 0 where
  pub empty_long : length empty ≡ 48
  pub empty_offsets : map (offset_of empty) six ≡ 48 ∷ 48 ∷ 48 ∷ 48 ∷ 48 ∷ 48 ∷ []
  pub empty_counts : map (count_of empty) six ≡ 0 ∷ 0 ∷ 0 ∷ 0 ∷ 0 ∷ 0 ∷ []
  pub long : length listing ≡ 86
  pub offsets : map (offset_of listing) six ≡ 48 ∷ 50 ∷ 59 ∷ 77 ∷ 86 ∷ 86 ∷ []
  pub counts : map (count_of listing) six ≡ 1 ∷ 3 ∷ 3 ∷ 3 ∷ 0 ∷ 0 ∷ []
  pub bodies : drop 48 listing ≡ listing_bytes
  pub sum_bodies : drop 48 (sum_with_negative Ge (minus 1)) ≡ sum_bytes
