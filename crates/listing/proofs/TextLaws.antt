-- Pieces of the text, and the lines of atoms. Assumes nothing.
use mathlib.Core.Path.{◌≡◌, refl, ap₂}
use mathlib.Core.List.{List, [], ◌++◌, append-nil, append_assoc}
use Prim.Native.Nat.{ℕ, zero, suc, ◌+◌, ◌<◌, ◌≤◌}
use native.Mathlib.Numerals.{add-one}
use native.Mathlib.Omega.{arith}
use lib.ListN.{get_or, length, take}
use lib.Seq.{get_or-take, length-take-le}
use Rattle.meaning.specs.Reading.{truth_of}
use Rattle.listing.specs.Text.{answers_text, line_of, lines_of}
use Rattle.listing.proofs.DecimalLaws.{decimal_lem}

-- a number's text, and pieces one after the other
pub ruleset pieces = (decimal_lem, append_assoc)

-- no atom's line, and one more
pub lines_none : (room : List ℕ) → lines_of room 0 ≡ []
unfolding lines_of
lines_none room = refl

pub lines_more : (room : List ℕ) (a : ℕ) →
    lines_of room (a + 1) ≡ lines_of room a ++ line_of a (truth_of (get_or room a 0))
unfolding lines_of
lines_more room a = rw (add-one a) refl

pub ruleset lines = (lines_none, lines_more, append-nil, append_assoc)

-- rooms that agree on the first n bytes have the same lines
lines_same : (room other : List ℕ) (n : ℕ) → ((a : ℕ) → a < n → get_or room a 0 ≡ get_or other a 0) →
    lines_of room n ≡ lines_of other n
unfolding lines_of
lines_same room other zero h = refl
lines_same room other (suc n) h =
    ap₂ (λ (ls : List ℕ) (x : ℕ). ls ++ line_of n (truth_of x))
    (lines_same room other n (λ a l. h a (omega (arith, l)))) (h n (omega arith))

pub answers_same : (n : ℕ) (room other : List ℕ) → ((a : ℕ) → a < n → get_or room a 0 ≡ get_or other a 0) →
    answers_text n room ≡ answers_text n other
unfolding answers_text
answers_same n room other h = rw (lines_same room other n h) refl

-- so the bytes of the first n atoms have the text of the room
pub answers_taken : (n : ℕ) (room : List ℕ) → n ≤ length room →
    answers_text (length (take n room)) (take n room) ≡ answers_text n room
answers_taken n room l =
    rw (length-take-le n room l) (answers_same n (take n room) room (λ a m. get_or-take n room a 0 m))
