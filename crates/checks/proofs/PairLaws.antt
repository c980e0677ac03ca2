-- Check 6: the atoms of a comparison's elements by their places, and what the loops over elements and comparisons have
-- passed. Assumes nothing.
use mathlib.Core.Path.{◌≡◌, refl, sym, ap, ◌∙◌}
use mathlib.Core.Bool.{Bool, true, false, So}
use mathlib.Core.List.{List, map}
use mathlib.Core.Option.{some}
use Prim.Native.Nat.{ℕ, ◌+◌, ◌-◌, ◌<◌, ◌≤◌}
use native.Mathlib.Omega.{arith}
use lib.ListN.{length, get_or, length-map}
use lib.Seq.{length-slice, slice}
use Rattle.std.proofs.lemmas.List.{get_or-map}
use Rattle.laws.specs.Lists.{twice}
use Rattle.laws.proofs.Ranges.{slice_at}
use Rattle.laws.proofs.Searches.{NoneTo}
use Rattle.laws.proofs.Twice.{pair_twice, twice_none}
use Rattle.meaning.specs.declared.records.ComparisonRecord.{ComparisonRecord}
use Rattle.meaning.specs.Format.{comparison_count, element_count, no_comparison, no_element, tables}
use Rattle.meaning.specs.Reading.{elements_of}
use Rattle.meaning.specs.Refusal.{element_atom, refusal6, refuse, repeats}
use Rattle.book.specs.Records.{comparison_in, element_in}
use Rattle.book.proofs.Counts.{comparisons_length, elements_length}
use Rattle.checks.proofs.LowestLaws.{Seeks, Through, found, lowest_is, through}

-- check 6 at a comparison
unfoldable pub repeats_at : List ℕ → ℕ → Bool
repeats_at b c = repeats (tables b) c (comparison_in b c)

-- the loop over elements at i: no two of the elements from f up to e have one atom, where the first stands before i
pub record Clear (b : List ℕ) (f e i : ℕ) : Type 0 where
  pub least : f ≤ i
  pub most : i ≤ e
  pub within : e ≤ element_count b
  pub room : e ≤ 4096
  pub other : (x y : ℕ) → f ≤ x → x < i → x < y → y < e → (element_in b x).atom ≡ (element_in b y).atom → ⊥

-- the atoms of the elements from f up to e, by their places
abbrev atoms_in : List ℕ → ℕ → ℕ → List ℕ
atoms_in b f e = map element_atom (slice f e (tables b).elements)

module _ (b : List ℕ) (f e : ℕ) (within : e ≤ element_count b) where
  part_length : length (slice f e (tables b).elements) ≡ e - f
  part_length = length-slice f e (tables b).elements (omega (arith, elements_length b))

  atoms_length : length (atoms_in b f e) ≡ e - f
  atoms_length = length-map (slice f e (tables b).elements) element_atom ∙ part_length

  atoms_at : (k i : ℕ) → f + k ≡ i → i < e → get_or (atoms_in b f e) k 0 ≡ (element_in b i).atom
  atoms_at k i q l =
      let xs = (tables b).elements in
      get_or-map element_atom (slice f e xs) k no_element 0 (omega (arith, part_length)) ∙
      ap element_atom (slice_at no_element xs f e k (omega arith) ∙ ap (λ (j : ℕ). element_in b j) q)

  atoms_clear : ((x y : ℕ) → f ≤ x → x < y → y < e → (element_in b x).atom ≡ (element_in b y).atom → ⊥) →
      twice (atoms_in b f e) ≡ false
  atoms_clear h =
      twice_none (atoms_in b f e) (λ x y l m q.
      let n : y < e - f = omega (arith, m, atoms_length) in
      h (f + x) (f + y) (omega arith) (omega arith) (omega arith)
      (sym (atoms_at x (f + x) refl (omega arith)) ∙ q ∙ atoms_at y (f + y) refl (omega arith)))

  atoms_pair : (i j : ℕ) → f ≤ i → i < j → j < e → (element_in b i).atom ≡ (element_in b j).atom →
      So (twice (atoms_in b f e))
  atoms_pair i j k l m q =
      pair_twice (atoms_in b f e) (i - f) (j - f) (omega arith) (omega (arith, atoms_length))
      (atoms_at (i - f) i (omega arith) (omega arith) ∙ q ∙ sym (atoms_at (j - f) j (omega arith) m))

-- comparison c, as it was read
module _ (b : List ℕ) (c : ℕ) (x : ComparisonRecord) (p : x ≡ comparison_in b c) where
  pub comparison_clear : (i : ℕ) → Clear b x.first (x.first + x.many) i → x.first + x.many ≤ i → repeats_at b c ≡ false
  unfolding repeats_at elements_of
  comparison_clear i h g =
      rw (← p)
      (atoms_clear b x.first (x.first + x.many) h.within (λ y z k l o e. h.other y z k (omega (arith, l, o)) l o e))

  pub comparison_pair : (i j : ℕ) → Clear b x.first (x.first + x.many) i → i < j → j < x.first + x.many →
      (element_in b i).atom ≡ (element_in b j).atom → true ≡ repeats_at b c
  unfolding repeats_at elements_of
  comparison_pair i j h k g e =
      rw (← p) (sym (atoms_pair b x.first (x.first + x.many) h.within i j h.least k g e))

-- the search through the comparisons
pairs_seek : (b : List ℕ) → Seeks (refusal6 (tables b)) 6 5 (repeats_at b) (comparison_count b)
unfolding refusal6 repeats_at
pairs_seek b =
    lowest_is 6 5 (repeats (tables b)) (repeats_at b) no_comparison (tables b).comparisons (comparisons_length b)
    (λ i l. refl)

pub pairs_found : (b : List ℕ) (n c : ℕ) → n ≡ comparison_count b → NoneTo (repeats_at b) c → c < n →
    true ≡ repeats_at b c → some (refuse 6 5 c) ≡ refusal6 (tables b)
pairs_found b n c e clear l p = found (pairs_seek b) n c true (refuse 6 5 c) e clear l p refl refl

pub pairs_through : (b : List ℕ) → Through (refusal6 (tables b)) (repeats_at b) (comparison_count b)
pairs_through b = through (pairs_seek b)
