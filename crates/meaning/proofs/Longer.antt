-- A longer book has the refusal of its start: none of more than 64,816 bytes passes the checks 1 to 3, and these look
-- at its length and its first 48 bytes alone. Assumes nothing.
use mathlib.Core.Path.{◌≡◌, refl, sym, ap, ◌∙◌, subst}
use mathlib.Core.Bool.{true, false}
use mathlib.Core.List.{List, [], ◌∷◌}
use mathlib.Core.Option.{Option, none, some}
use Prim.Native.Nat.{ℕ, ◌≤◌, ◌<◌}
use native.Mathlib.Nat.{zero-add}
use native.Mathlib.Omega.{arith}
use lib.Dec.{ltb}
use lib.ListN.{length, drop, get_or, take}
use lib.Seq.{get_or-take, length-take-le}
use borrow.Author.Tests.{le-ltb, ltb-false, ltb-true, ne_eqb}
use Rattle.laws.specs.Lists.{seek}
use Rattle.laws.proofs.Searches.{seek_none, seek_same}
use Rattle.meaning.specs.Format.{contents, count_of, end, limits, sizes, start, tables}
use Rattle.meaning.specs.Refusal.{Refusal, astray, at_table, first_of, frame_refusals, refusal, refusal1, refusal2}
use Rattle.meaning.specs.Refusal.{refusal3, refusals, refuse, too_many}
use Rattle.meaning.proofs.Absent.{first_found, none_table}
use Rattle.meaning.proofs.Bytes.{Same, count_same, offset_same, start_same}

-- what the table of contents alone decides: refusal 2, and refusal 3 at an offset
module _ (b b' : List ℕ) (H : Same contents b b') where
  pub counts_same : refusal2 b ≡ refusal2 b'
  unfolding refusal2
  counts_same =
      ap (at_table 2) (seek_same (too_many b) (too_many b') 0 limits (λ k x l. rw (count_same b b' H k l) refl))

  pub offsets_same : at_table 3 (seek (astray b) 0 sizes) ≡ at_table 3 (seek (astray b') 0 sizes)
  offsets_same =
      ap (at_table 3)
      (seek_same (astray b) (astray b') 0 sizes
      (λ k x l. rw (offset_same b b' H k l, start_same b b' H k (omega (arith, l))) refl))

-- the largest book
abbrev most_bytes : ℕ
most_bytes = 64816

-- the checks of the frame, one after the other
abbrev frame : List ℕ → Option Refusal
frame b = first_of (frame_refusals b)

frame_given : (b : List ℕ) (n : ℕ) (r : Refusal) → frame b ≡ some r → refusal b n ≡ some r
unfolding refusal
frame_given b n r e =
    first_found (frame_refusals b) (drop 3 (refusals b (tables b) n)) r e

-- a book with no count above its limit ends by there
end_low : (b : List ℕ) → refusal2 b ≡ none → end b ≤ most_bytes
unfolding refusal2 start
end_low b e = omega (arith, few 0 refl, few 1 refl, few 2 refl, few 3 refl, few 4 refl, few 5 refl)
  where
    few : (k : ℕ) → ltb k 6 ≡ true → count_of b k ≤ get_or limits k 0
    few k t =
        let l : k < 6 = ltb-true k 6 t in
        ltb-false (get_or limits k 0) (count_of b k)
        (subst (λ (m : ℕ). too_many b m (get_or limits k 0) ≡ false) (zero-add k)
        (seek_none (too_many b) 0 0 limits (none_table 2 (seek (too_many b) 0 limits) e) k l))

-- so of a longer one the checks say what the table of contents says, and if that is nothing, that its length is wrong
abbrev headed : List ℕ → List (Option Refusal)
headed b = refusal2 b ∷ at_table 3 (seek (astray b) 0 sizes) ∷ some (refuse 3 0 0) ∷ []

alone : (x : Option Refusal) → first_of (x ∷ []) ≡ x
alone none = refl
alone (some r) = refl

long_frame : (b : List ℕ) → most_bytes < length b → frame b ≡ first_of (headed b)
unfolding refusal1 refusal3
long_frame b l = rw (le-ltb (length b) contents (omega (arith, l))) (go (refusal2 b) refl)
  where
    go : (o : Option Refusal) → refusal2 b ≡ o → first_of (refusal2 b ∷ refusal3 b ∷ []) ≡ first_of (headed b)
    go none e =
        rw (e, ne_eqb (length b) (end b) (λ q. omega (arith, l, q, end_low b e)))
        (alone (first_of (at_table 3 (seek (astray b) 0 sizes) ∷ some (refuse 3 0 0) ∷ [])))
    go (some r) e = rw e refl

-- which is always something
headed_some : (b : List ℕ) → (r : Refusal) × (first_of (headed b) ≡ some r)
headed_some b = go (refusal2 b) (at_table 3 (seek (astray b) 0 sizes))
  where
    go : (x y : Option Refusal) → (r : Refusal) × (first_of (x ∷ y ∷ some (refuse 3 0 0) ∷ []) ≡ some r)
    go (some r) y = (r, refl)
    go none (some r) = (r, refl)
    go none none = (refuse 3 0 0, refl)

-- a longer book has the refusal of its start
pub longer : (b : List ℕ) (n : ℕ) → 64816 < length b → refusal (take 64817 b) n ≡ refusal b n
longer b n l =
    let s : List ℕ = take 64817 b in
    let (r, e) = headed_some b in
    let k : most_bytes < length s = omega (arith, length-take-le 64817 b l) in
    let H : Same contents s b = λ j m. get_or-take 64817 b j 0 (omega (arith, m)) in
    let f : first_of (headed s) ≡ first_of (headed b) = rw (counts_same s b H, offsets_same s b H) refl in
    frame_given s n r (long_frame s k ∙ f ∙ e) ∙ sym (frame_given b n r (long_frame b l ∙ e))
