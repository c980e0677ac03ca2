-- A hypothesis keeps its truth if the atoms that it reads keep theirs, and stays true if atoms that it uses positively
-- no longer count as false. Assumes nothing.
use Prim.Native.Nat.{ℕ}
use mathlib.Core.Path.{◌≡◌, refl, ap}
use mathlib.Core.Logic.{inl}
use mathlib.Core.Bool.{Bool, true, false, not, So, false≢true}
use mathlib.Core.List.{List}
use Rattle.std.proofs.lemmas.Bool.{both_ways}
use Rattle.laws.specs.Lists.{In}
use Rattle.laws.proofs.Tests.{by-test, not_map}
use Rattle.laws.proofs.Entries.{in_map}
use Rattle.theory.specs.Truth.{is_true, is_false, ◌≼◌}
use Rattle.theory.specs.declared.answer.Truth.{Truth}
use Rattle.theory.specs.Answers.{Answers, Atoms, wipe}
use Rattle.meaning.specs.Reading.{Comparison, Element, Hypothesis, atom_of}
use Rattle.meaning.specs.declared.codes.Literal.{Literal}
use Rattle.meaning.specs.declared.codes.Relation.{Relation}
use Rattle.meaning.specs.Truth.{comparison_truth, decided, element_truth, holds, hypothesis_truth, literal_truth}
use Rattle.meaning.specs.Truth.{opposite}
use Rattle.meaning.specs.Refusal.{Use, element_use, grows, positive_in, shrinks, uses_of}
use Rattle.theory.proofs.Truth.{clash, undefined_true, undefined_false, true_of, false_of, flip-≼}
use Rattle.meaning.proofs.Relations.{grows_alone}
use Rattle.meaning.proofs.Local.{Definite, Possible, holds_local, holds_grows, holds_shrinks, holds_clash}

-- atom a is the literal's, or that of an element
abbrev pub Reads : Hypothesis → ℕ → Type 0
Reads (Hypothesis.literal l) a = atom_of l ≡ a
Reads (Hypothesis.comparison c) a = (e : Element) × In e c.elements × (atom_of e.literal ≡ a)

-- what it reads it uses
pub uses_reads : (h : Hypothesis) (a : ℕ) → Reads h a → (u : Use) × In u (uses_of h) × (u.atom ≡ a)
unfolding uses_of
uses_reads (Hypothesis.literal (Literal.Plain b)) a q = (_, inl refl, q)
uses_reads (Hypothesis.literal (Literal.Negated b)) a q = (_, inl refl, q)
uses_reads (Hypothesis.comparison c) a (e, i, q) = (element_use c e, in_map (element_use c) c.elements e i, q)

-- a literal keeps its truth if its atom does
literal_local : (A B : Answers) (l : Literal) → A (atom_of l) ≼ B (atom_of l) → literal_truth A l ≼ literal_truth B l
unfolding literal_truth
literal_local A B (Literal.Plain a) p = p
literal_local A B (Literal.Negated a) p = flip-≼ (A a) (B a) p

-- elements whose literals keep their truth
module _ (A B : Answers) (es : List Element)
    (keeps : (e : Element) → In e es → element_truth A e ≼ element_truth B e) where
  more_definite : Definite A B es
  more_definite e i t = ap is_true ((keeps e i).0 (true_of (element_truth A e) t))

  fewer_possible : Possible A B es
  fewer_possible e i =
      not_map (is_false (element_truth B e)) (is_false (element_truth A e))
      (λ f. ap is_false ((keeps e i).1 (false_of (element_truth A e) f)))

-- what a decision says, and what makes it false
decided_true : (t f : Bool) → decided t f ≡ Truth.True → So t
decided_true true f e = refl
decided_true false true e = absurd (clash e refl)
decided_true false false e = absurd (undefined_true refl e)

decided_false : (t f : Bool) → decided t f ≡ Truth.False → So f
decided_false true f e = absurd (clash refl e)
decided_false false true e = refl
decided_false false false e = absurd (undefined_false refl e)

false_decided : (t f : Bool) → (So t → So f → ⊥) → So f → decided t f ≡ Truth.False
false_decided true f n p = absurd (n refl p)
false_decided false f n p = rw p

-- a relation of a comparison's aggregate, elements and bound
abbrev pub holds_of : Answers → Comparison → Relation → Bool
holds_of A c r = holds c.aggregate r A c.elements c.bound

-- A comparison is true exactly if its relation holds, and false exactly if the opposite one does; never do both.
module _ (A : Answers) (c : Comparison) where
  pub comparison_clash : So (holds_of A c c.relation) → So (holds_of A c (opposite c.relation)) → ⊥
  comparison_clash = holds_clash A c.aggregate c.relation c.elements c.bound

  pub comparison_true→ : comparison_truth A c ≡ Truth.True → So (holds_of A c c.relation)
  unfolding comparison_truth
  comparison_true→ = decided_true (holds_of A c c.relation) (holds_of A c (opposite c.relation))

  pub →comparison_true : So (holds_of A c c.relation) → comparison_truth A c ≡ Truth.True
  unfolding comparison_truth
  →comparison_true t = rw t

  pub comparison_false→ : comparison_truth A c ≡ Truth.False → So (holds_of A c (opposite c.relation))
  unfolding comparison_truth
  comparison_false→ = decided_false (holds_of A c c.relation) (holds_of A c (opposite c.relation))

  pub →comparison_false : So (holds_of A c (opposite c.relation)) → comparison_truth A c ≡ Truth.False
  unfolding comparison_truth
  →comparison_false = false_decided _ _ comparison_clash

module _ (A B : Answers) where
  -- Where every atom that is read keeps its truth, so does the comparison, and so does any hypothesis.
  pub comparison_local : (c : Comparison) → ((a : ℕ) → Reads (Hypothesis.comparison c) a → A a ≼ B a) →
      comparison_truth A c ≼ comparison_truth B c
  comparison_local c p = (
    λ e. →comparison_true B c (keeps c.relation (comparison_true→ A c e)),
    λ e. →comparison_false B c (keeps (opposite c.relation) (comparison_false→ A c e)),
  )
    where
      same : (e : Element) → In e c.elements → element_truth A e ≼ element_truth B e
      same e i = literal_local A B e.literal (p (atom_of e.literal) (e, i, refl))

      keeps : (r : Relation) → So (holds_of A c r) → So (holds_of B c r)
      keeps r =
          holds_local A B c.elements (more_definite A B c.elements same) (fewer_possible A B c.elements same)
          c.aggregate r c.bound

  pub hypothesis_local : (h : Hypothesis) → ((a : ℕ) → Reads h a → A a ≼ B a) →
      hypothesis_truth A h ≼ hypothesis_truth B h
  unfolding hypothesis_truth
  hypothesis_local (Hypothesis.literal l) p = literal_local A B l (p (atom_of l) refl)
  hypothesis_local (Hypothesis.comparison c) p = comparison_local c p

-- Atoms of U count as false. A plain literal in U is then false and a negated one true.
module _ (U : Atoms) (A : Answers) (c : Comparison) where
  abbrev Positive : Literal → Type 0
  Positive l = So (U (atom_of l)) → So (positive_in c l)

  -- a literal of sign 1 that would become definite is non-positive, and so not in U
  definite_kept : (l : Literal) → Positive l → shrinks c.aggregate c.relation ≡ false →
      So (is_true (literal_truth (wipe U A) l)) → So (is_true (literal_truth A l))
  unfolding literal_truth positive_in
  definite_kept (Literal.Plain a) p n t = by-test (U a) (λ u. absurd (false≢true (rw u at t))) (λ f. rw f at t)
  definite_kept (Literal.Negated a) p n t = by-test (U a) (λ u. absurd (both_ways _ n (p u))) (λ f. rw f at t)

  -- and so is one of sign 0 that would stop being possible
  possible_kept : (l : Literal) → Positive l → grows c.aggregate c.relation ≡ false →
      So (not (is_false (literal_truth A l))) → So (not (is_false (literal_truth (wipe U A) l)))
  unfolding literal_truth positive_in
  possible_kept (Literal.Plain a) p n t = by-test (U a) (λ u. absurd (both_ways _ n (p u))) (λ f. rw f t)
  possible_kept (Literal.Negated a) p n t = by-test (U a) (λ u. rw u) (λ f. rw f t)

  -- so a comparison that holds with the atoms of U counted as false holds without
  positive_comparison : ((e : Element) → In e c.elements → Positive e.literal) →
      So (holds_of (wipe U A) c c.relation) → So (holds_of A c c.relation)
  positive_comparison p =
      let g = c.aggregate in
      let r = c.relation in
      by-test (grows g r)
      (λ s. holds_grows (wipe U A) A c.elements g r c.bound s (definites (grows_alone g r s)))
      (λ n. by-test (shrinks g r)
      (λ s. holds_shrinks (wipe U A) A c.elements g r c.bound s (possibles n))
      (λ m. holds_local (wipe U A) A c.elements (definites m) (possibles n) g r c.bound))
    where
      definites : shrinks c.aggregate c.relation ≡ false → Definite (wipe U A) A c.elements
      definites n e i = definite_kept e.literal (p e i) n

      possibles : grows c.aggregate c.relation ≡ false → Possible (wipe U A) A c.elements
      possibles n e i = possible_kept e.literal (p e i) n

-- What is true with the atoms of U counted as false is true without, if each use of such an atom is positive.
pub positive_use : (U : Atoms) (A : Answers) (h : Hypothesis) →
    ((u : Use) → In u (uses_of h) → So (U u.atom) → So u.positive) →
    hypothesis_truth (wipe U A) h ≡ Truth.True → hypothesis_truth A h ≡ Truth.True
unfolding hypothesis_truth literal_truth uses_of
positive_use U A (Hypothesis.literal (Literal.Plain a)) p t =
    by-test (U a) (λ u. absurd (clash (rw u at t) refl)) (λ f. rw f at t)
positive_use U A (Hypothesis.literal (Literal.Negated a)) p t =
    by-test (U a) (λ u. absurd (false≢true (p _ (inl refl) u))) (λ f. rw f at t)
positive_use U A (Hypothesis.comparison c) p t =
    →comparison_true A c
    (positive_comparison U A c (λ e i. p (element_use c e) (in_map (element_use c) c.elements e i))
    (comparison_true→ (wipe U A) c t))
