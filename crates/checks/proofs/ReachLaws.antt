-- Checks 9 to 11: how high a use reaches, the highest use of a comparison, and those of all, step by step.
-- Assumes nothing.
use mathlib.Core.Path.{◌≡◌, refl, sym, ap, ap₂, ◌∙◌}
use mathlib.Core.Bool.{Bool}
use mathlib.Core.List.{List, [], ◌∷◌, ◌++◌, map}
use Prim.Native.Nat.{ℕ, zero, suc, ◌+◌, ◌<◌, ◌≤◌, ◌-◌, max}
use native.Mathlib.Nat.{max_comm}
use native.Mathlib.Omega.{arith}
use lib.Dec.{eqb-suc-zero}
use lib.IntN.{ℤ}
use lib.ListN.{get_or}
use lib.Seq.{slice}
use Rattle.std.proofs.lemmas.List.{map_push}
use Rattle.laws.proofs.Lasts.{slice_more, slice_start}
use Rattle.meaning.specs.Format.{element_count, no_element, tables}
use Rattle.meaning.specs.declared.records.ComparisonRecord.{ComparisonRecord}
use Rattle.meaning.specs.declared.records.ElementRecord.{ElementRecord}
use Rattle.meaning.specs.Reading.{aggregate_of, comparison_of, element_of, elements_of, literal_of, relation_of}
use Rattle.meaning.specs.Refusal.{Use, element_use, grows, positive_in, shrinks, uses_of}
use Rattle.book.specs.Records.{comparison_in, comparison_read, element_in}
use Rattle.book.proofs.Counts.{elements_length}
use Rattle.checks.specs.Uses.{comparison_reach, highest, reach_of, used_as}
use Rattle.checks.specs.declared.reaches.Aspect.{Aspect}

-- in comparison c the codes of aggregate and relation say so
module _ (b : List ℕ) (c : ℕ) where
  abbrev used_by : ElementRecord → Use
  used_by =
      let g = aggregate_of (comparison_in b c).aggregate in
      let x = relation_of (comparison_in b c).relation in
      used_as (grows g x) (shrinks g x)

  used_literal : (sign a : ℕ) (w : ℤ) →
      used_by (record { sign = sign; atom = a; weight = w }) ≡
      element_use (comparison_read b c) (record { literal = literal_of sign a; weight = w })
  unfolding positive_in comparison_of
  used_literal zero a w = refl
  used_literal (suc sign) a w = rw (eqb-suc-zero sign)

  used_is : (xs : List ElementRecord) →
      map used_by xs ≡ map (element_use (comparison_read b c)) (map element_of xs)
  unfolding element_of
  used_is [] = refl
  used_is (x ∷ xs) = ap₂ {C = List Use} ◌∷◌ (used_literal x.sign x.atom x.weight) (used_is xs)

-- one more use
highest_more : (b : List ℕ) (aspect : Aspect) (us : List Use) (u : Use) →
    highest b aspect (us ++ u ∷ []) ≡ max (highest b aspect us) (reach_of b aspect u)
unfolding highest
highest_more b aspect [] u = max_comm (reach_of b aspect u) 0
highest_more b aspect (v ∷ us) u =
    let e : highest b aspect (us ++ u ∷ []) ≡ max (highest b aspect us) (reach_of b aspect u) =
    highest_more b aspect us u in
    omega arith

-- the highest of the elements from `first` on and before e
unfoldable pub reach_to : List ℕ → Aspect → Bool → Bool → ℕ → ℕ → ℕ
reach_to b aspect plain negated first e =
    highest b aspect (map (used_as plain negated) (slice first e (tables b).elements))

module _ (b : List ℕ) (aspect : Aspect) (plain negated : Bool) (first : ℕ) where
  pub to_first : 0 ≡ reach_to b aspect plain negated first first
  unfolding reach_to highest
  to_first =
      let z : first ≡ first + 0 = omega arith in
      sym (ap (λ (i : ℕ). highest b aspect (map (used_as plain negated) (slice first i (tables b).elements))) z ∙
      ap (λ xs. highest b aspect (map (used_as plain negated) xs)) (slice_start first (tables b).elements))

  step : (i : ℕ) → first + i < element_count b →
      reach_to b aspect plain negated first (first + (i + 1)) ≡
      max (reach_to b aspect plain negated first (first + i))
      (reach_of b aspect (used_as plain negated (element_in b (first + i))))
  unfolding reach_to
  step i l =
      let xs = (tables b).elements in
      ap (λ ys. highest b aspect (map (used_as plain negated) ys))
      (slice_more no_element first i xs (omega (arith, l, elements_length b))) ∙
      ap (highest b aspect)
      (map_push (used_as plain negated) (slice first (first + i) xs) (get_or xs (first + i) no_element)) ∙
      highest_more b aspect _ _

  pub to_more : (e m v n : ℕ) → first ≤ e → e < element_count b → m ≡ reach_to b aspect plain negated first e →
      v ≡ reach_of b aspect (used_as plain negated (element_in b e)) → n ≡ max m v →
      n ≡ reach_to b aspect plain negated first (e + 1)
  to_more e m v n l k p q r =
      let i : ℕ = e - first in
      let f : first + i ≡ e = omega arith in
      let s : first + (i + 1) ≡ e + 1 = omega arith in
      r ∙ rw (p, q, ← s) (sym (rw f at (step i (omega arith))))

-- comparison c, as it was read
module _ (b : List ℕ) (c : ℕ) (x : ComparisonRecord) (p : x ≡ comparison_in b c) where
  pub to_end : (aspect : Aspect) (plain negated : Bool) (e m : ℕ) →
      plain ≡ grows (aggregate_of x.aggregate) (relation_of x.relation) →
      negated ≡ shrinks (aggregate_of x.aggregate) (relation_of x.relation) → e ≡ x.first + x.many →
      m ≡ reach_to b aspect plain negated x.first e → m ≡ comparison_reach b aspect c
  unfolding comparison_reach reach_to uses_of comparison_of elements_of
  to_end aspect plain negated e m ep en z r =
      let y = comparison_in b c in
      r ∙ rw (ep, en, z, p) (ap (highest b aspect) (used_is b c (slice y.first (y.first + y.many) (tables b).elements)))

pub ruleset elements = (to_first, to_more)
