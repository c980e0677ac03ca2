-- Checks 4 and 5: the search through one body, that through all, and that the two are document 01's. Assumes nothing.
use mathlib.Core.Path.{◌≡◌, refl, sym, ap, ◌∙◌}
use mathlib.Core.Bool.{Bool, true, false}
use mathlib.Core.List.{List, [], ◌∷◌, ◌++◌, map}
use mathlib.Core.Option.{Option, none, some}
use Prim.Native.Nat.{ℕ, suc, ◌+◌, ◌<◌, ◌≤◌}
use native.Mathlib.Numerals.{add-one}
use native.Mathlib.Omega.{arith}
use lib.Dec.{eqb}
use lib.ListN.{get_or}
use borrow.Author.Tests.{eqb-true}
use Rattle.std.proofs.lemmas.List.{get_or-map}
use Rattle.laws.proofs.Searches.{NoneTo, numbers_first, numbers_none, table_rule}
use Rattle.meaning.specs.Format.{atom_at, atom_count, body, comparison_at, comparison_count, count_of, element_at}
use Rattle.meaning.specs.Format.{element_count, hypothesis_at, hypothesis_count, no_atom, no_comparison, no_element}
use Rattle.meaning.specs.Format.{no_hypothesis, no_predicate, no_rule, predicate_at, predicate_count, rule_at, tables}
use Rattle.meaning.specs.Refusal.{Refusal, at_record, code_refusals, first_of, lowest, refusal4, refusal5, refuse}
use Rattle.meaning.specs.Refusal.{stray_atom}
use Rattle.meaning.specs.Refusal.{stray_comparison, stray_element, stray_hypothesis, stray_rule, unlisted_atom}
use Rattle.meaning.specs.Refusal.{unlisted_comparison, unlisted_element, unlisted_hypothesis, unlisted_predicate}
use Rattle.meaning.proofs.Bytes.{atoms_length, body_length}
use Rattle.checks.specs.Faults.{Answering, bodies, bodies_refusal, body_refusal, stray_in, unlisted_in}
use Rattle.book.proofs.Counts.{comparisons_length, elements_length, hypotheses_length, predicates_length}
use Rattle.checks.proofs.LowestLaws.{lowest_is}
use Rattle.checks.proofs.ChainLaws.{first_at, first_none}

-- the search through all bodies, by what the calls say of their records
module _ (b : List ℕ) (says : ℕ → ℕ → Bool → Type 0) where
  -- up to the k-th body, no record is at fault
  pub record ClearTo (k : ℕ) : Type 0 where
    pub at : (j i : ℕ) → j < k → i < count_of b j → says j i false

  -- and in the k-th, up to the i-th record
  pub record ClearIn (k i : ℕ) : Type 0 where
    pub before : ClearTo k
    pub at : (h : ℕ) → h < i → says k h false

  module _ (number : ℕ) (test : ℕ → ℕ → Bool) (answers : Answering says test) where
    body_at : (k : ℕ) → k < 6 → get_or (map (body_refusal b number test) bodies) k none ≡ body_refusal b number test k
    body_at k l =
        get_or-map (body_refusal b number test) bodies k 0 none l ∙
        ap (body_refusal b number test) (eqb-true (get_or bodies k 0) k (table_rule (λ k x. eqb x k) bodies refl k l))

    body_clear : (k : ℕ) → ClearTo k → (j : ℕ) → j < k → body_refusal b number test j ≡ none
    unfolding body_refusal NoneTo
    body_clear k c j l =
        ap (at_record number (suc j))
        (numbers_none (test j) (count_of b j) (count_of b j)
        (λ i m. sym (answers j i false (c.at j i l m))) (omega arith))

    pub place_none : (k : ℕ) → 6 ≤ k → ClearTo k → none ≡ bodies_refusal b number test
    unfolding bodies_refusal
    place_none k l c =
        sym (first_none (map (body_refusal b number test) bodies)
        (λ j m. body_at j m ∙ body_clear k c j (omega (arith, l, m))))

    pub place_found : (k i n : ℕ) → k < 6 → ClearIn k i → n ≡ count_of b k → i < n → says k i true →
        some (refuse number (k + 1) i) ≡ bodies_refusal b number test
    unfolding body_refusal bodies_refusal NoneTo
    place_found k i n l c e m s =
        let q : body_refusal b number test k ≡ some (refuse number (suc k) i) =
        ap (at_record number (suc k))
        (numbers_first (test k) i (count_of b k) (λ h o. sym (answers k h false (c.at h o))) (omega (arith, m, e))
        (sym (answers k i true s))) in
        rw add-one
        (sym (first_at (map (body_refusal b number test) bodies) k (refuse number (suc k) i) l
        (λ j o. body_at j (omega (arith, l, o)) ∙ body_clear k c.before j o) (body_at k l ∙ q)))

-- the tables' refusals are those of document 01
module _ {X : Type 0} (b : List ℕ) (number : ℕ) (f : ℕ → ℕ → Bool) (k : ℕ) (read : List ℕ → X) (d : X)
    (test : ℕ → X → Bool) where
  body_is : ((i : ℕ) → i < count_of b k → test i (get_or (body read b k) i d) ≡ f k i) →
      body_refusal b number f k ≡ lowest number (suc k) test (body read b k)
  unfolding body_refusal
  body_is same = sym (lowest_is number (suc k) test (f k) d (body read b k) (body_length read b k) same).is

-- a table with nothing to check
nothing : (b : List ℕ) (number : ℕ) (f : ℕ → ℕ → Bool) (k : ℕ) → ((i : ℕ) → f k i ≡ false) →
    body_refusal b number f k ≡ none
unfolding body_refusal NoneTo
nothing b number f k h =
    let n = count_of b k in ap (at_record number (suc k)) (numbers_none (f k) n n (λ j _. h j) (omega arith))

skip : (rs ss : List (Option Refusal)) (o : Option Refusal) → o ≡ none → first_of (rs ++ o ∷ ss) ≡ first_of (rs ++ ss)
skip [] ss o e = rw e
skip (none ∷ rs) ss o e = skip rs ss o e
skip (some r ∷ rs) ss o e = refl

pub codes_are : (b : List ℕ) → bodies_refusal b 4 (unlisted_in b) ≡ refusal4 (tables b)
unfolding bodies_refusal refusal4 tables unlisted_in
codes_are b =
    rw (
      body_is b 4 (unlisted_in b) 0 predicate_at no_predicate unlisted_predicate (λ i l. refl),
      body_is b 4 (unlisted_in b) 1 atom_at no_atom unlisted_atom (λ i l. refl),
      body_is b 4 (unlisted_in b) 3 hypothesis_at no_hypothesis unlisted_hypothesis (λ i l. refl),
      body_is b 4 (unlisted_in b) 4 comparison_at no_comparison unlisted_comparison (λ i l. refl),
      body_is b 4 (unlisted_in b) 5 element_at no_element unlisted_element (λ i l. refl),
    )
    (skip (lowest 4 1 unlisted_predicate (body predicate_at b 0) ∷ lowest 4 2 unlisted_atom (body atom_at b 1) ∷ [])
    (lowest 4 4 unlisted_hypothesis (body hypothesis_at b 3)
    ∷ lowest 4 5 unlisted_comparison (body comparison_at b 4)
    ∷ lowest 4 6 unlisted_element (body element_at b 5)
    ∷ [])
    (body_refusal b 4 (unlisted_in b) 2) (nothing b 4 (unlisted_in b) 2 (λ i. refl)))

pub indices_are : (b : List ℕ) → bodies_refusal b 5 (stray_in b) ≡ refusal5 (tables b)
unfolding bodies_refusal refusal5 tables stray_in
indices_are b =
    rw (
      nothing b 5 (stray_in b) 0 (λ i. refl),
      predicates_length b,
      atoms_length b,
      hypotheses_length b,
      comparisons_length b,
      elements_length b,
      body_is b 5 (stray_in b) 1 atom_at no_atom (stray_atom (predicate_count b)) (λ i l. refl),
      body_is b 5 (stray_in b) 2 rule_at no_rule (stray_rule (atom_count b) (hypothesis_count b)) (λ i l. refl),
      body_is b 5 (stray_in b) 3 hypothesis_at no_hypothesis (stray_hypothesis (atom_count b) (comparison_count b))
          (λ i l. refl),
      body_is b 5 (stray_in b) 4 comparison_at no_comparison (stray_comparison (element_count b)) (λ i l. refl),
      body_is b 5 (stray_in b) 5 element_at no_element (stray_element (atom_count b)) (λ i l. refl),
    )

-- what checks 4 and 5 answer is their refusal
module _ (b : List ℕ) (o : Option Refusal) where
  pub codes_found : o ≡ bodies_refusal b 4 (unlisted_in b) → o ≡ first_of (code_refusals (tables b))
  codes_found p = by o (p ∙ codes_are b)
    where
      by : (o : Option Refusal) → o ≡ refusal4 (tables b) → o ≡ first_of (code_refusals (tables b))
      by none e = rw (← e) refl
      by (some r) e = rw (← e) refl

  pub indices_found : o ≡ bodies_refusal b 5 (stray_in b) → o ≡ refusal5 (tables b)
  indices_found p = p ∙ indices_are b
