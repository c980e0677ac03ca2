-- A range of records with one more, of elements too, and a total of it. Assumes nothing.
use mathlib.Core.Path.{◌≡◌, sym, ap, ◌∙◌}
use mathlib.Core.List.{List, [], ◌∷◌, ◌++◌, map}
use Prim.Native.Nat.{ℕ, ◌+◌, ◌<◌, ◌≤◌}
use native.Mathlib.Numerals.{add-one}
use native.Mathlib.Omega.{arith}
use lib.IntN.{ℤ, ◌+ℤ◌, +ℤ_assoc, +ℤ_idl, +ℤ_idr}
use lib.ListN.{get_or, length, take}
use lib.Seq.{drop-append-le, length-take-le, slice, slice_empty, take-suc}
use Rattle.std.proofs.lemmas.List.{map_push}
use Rattle.meaning.specs.Format.{element_count, no_element, tables}
use Rattle.meaning.specs.Reading.{Element, element_of}
use Rattle.meaning.specs.Truth.{total}
use Rattle.book.proofs.Counts.{elements_length}
use Rattle.judge.specs.Ranges.{element_read, elements_read}

pub slice_next : {X : Type 0} (d : X) (xs : List X) (first i : ℕ) → first ≤ i → i < length xs →
    slice first (i + 1) xs ≡ slice first i xs ++ get_or xs i d ∷ []
slice_next d xs first i m l =
    let fits : first ≤ length (take i xs) = omega (arith, m, length-take-le i xs (omega (arith, l))) in
    rw (add-one, take-suc xs i d l) (drop-append-le _ _ _ fits)

pub total_more : (share : Element → ℤ) (es : List Element) (e : Element) →
    total share (es ++ e ∷ []) ≡ total share es +ℤ share e
total_more share [] e = +ℤ_idr (share e) ∙ sym (+ℤ_idl (share e))
total_more share (x ∷ es) e =
    ap (λ z. share x +ℤ z) (total_more share es e) ∙ sym (+ℤ_assoc (share x) (total share es) (share e))

module _ (b : List ℕ) (first : ℕ) where
  pub elements_none : elements_read b first first ≡ []
  unfolding elements_read
  elements_none = ap (map element_of) (slice_empty first (tables b).elements)

  pub elements_more : (e : ℕ) → first ≤ e → e < element_count b →
      elements_read b first (e + 1) ≡ elements_read b first e ++ element_read b e ∷ []
  unfolding elements_read
  elements_more e m l =
      let es = (tables b).elements in
      ap (map element_of) (slice_next no_element es first e m (omega (arith, l, elements_length b))) ∙
      map_push element_of (slice first e es) (get_or es e no_element)
