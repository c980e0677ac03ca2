-- The set that step (c) finds is unfounded and holds every unfounded set; the union of two unfounded sets is one.
-- Assumes nothing.
use mathlib.Core.Path.{◌≡◌, refl, sym, ap, ◌∙◌}
use mathlib.Core.Logic.{◌⊎◌, inl, inr, ⊎_elim, by_cases}
use mathlib.Core.Bool.{Bool, true, false, ◌&&◌, ◌||◌, So, false≢true}
use mathlib.Core.List.{List}
use Prim.Native.Nat.{ℕ, ◌<◌, ◌≤◌}
use native.Mathlib.Omega.{arith}
use native.Mathlib.Decide.{dec_lt}
use lib.Dec.{eqb}
use lib.ListN.{length, get_or}
use borrow.Author.Tests.{eqb-true, eq-eqb}
use Rattle.std.proofs.lemmas.Bool.{and_from, and_parts, both_ways, or_cases, or_left, or_right}
use Rattle.laws.specs.Lists.{In, map_at}
use Rattle.laws.proofs.Tests.{by-test, not_of, of_not}
use Rattle.laws.proofs.Places.{map_at_at, map_at_length, map_at_out, place_in}
use Rattle.laws.proofs.Repeats.{times_ends, times_keeps}
use Rattle.laws.proofs.Counting.{Clears, clears_falls, number, number_most_lem}
use Rattle.theory.specs.Truth.{is_true}
use Rattle.theory.specs.declared.answer.Truth.{Truth}
use Rattle.theory.specs.Answers.{Answers, Atoms, NoneTrue, wipe}
use Rattle.theory.proofs.Truth.{clash, true_of, ≼_refl}
use Rattle.theory.proofs.Answers.{⊑_refl, wipe_in, wipe_over, wipe-≼}
use Rattle.meaning.specs.Reading.{Hypothesis, Reading, Rule, is_closed, kind_at, level_at}
use Rattle.meaning.specs.declared.codes.Literal.{Literal}
use Rattle.meaning.specs.declared.codes.Kind.{Kind}
use Rattle.meaning.specs.Truth.{hypothesis_truth, literal_truth}
use Rattle.meaning.specs.Model.{answers_of, candidate, candidates, members_of, refuted, stays, strike, unfounded}
use Rattle.meaning.specs.Founded.{Fails, Unfounded, already, counted, inside}
use Rattle.meaning.proofs.Hypotheses.{hypothesis_local}
use Rattle.meaning.proofs.KindLaws.{closed_of, closed_in}
use Rattle.meaning.proofs.Steps.{refuted→, →refuted}

-- The three cases are one: the hypothesis is false once the set counts as false.
module _ (U : Atoms) (A : Answers) (none : NoneTrue U A) where
  pub fails→false : (h : Hypothesis) → Fails U A h → hypothesis_truth (wipe U A) h ≡ Truth.False
  unfolding hypothesis_truth literal_truth
  fails→false h (already e) = (hypothesis_local A (wipe U A) h (λ a _. wipe_over U none (⊑_refl A) a)).1 e
  fails→false (Hypothesis.literal (Literal.Plain a)) (inside m) = wipe_in U A a m
  fails→false (Hypothesis.comparison c) (counted e) = e

  pub false→fails : (h : Hypothesis) → hypothesis_truth (wipe U A) h ≡ Truth.False → Fails U A h
  unfolding hypothesis_truth literal_truth
  false→fails (Hypothesis.literal (Literal.Plain a)) e = by-test (U a) inside (λ n. already (rw n at e))
  false→fails (Hypothesis.literal (Literal.Negated a)) e =
      by-test (U a) (λ m. absurd (clash refl (rw m at e))) (λ n. already (rw n at e))
  false→fails (Hypothesis.comparison c) e = counted e

-- a member of a list of tests by place and entry passed its test
passed : {X : Type 0} (f : ℕ → X → Bool) (d : X) (xs : List X) (a : ℕ) → So (members_of (map_at f 0 xs) a) →
    So (f a (get_or xs a d))
passed f d xs a m =
    by_cases (dec_lt a (length xs)) (λ l. sym (map_at_at f d false xs a l) ∙ m)
    (λ out. absurd (both_ways _ (map_at_out f false 0 xs a (omega (arith, out))) m))

-- each atom of U is one of W
abbrev pub ◌⊆◌ : Atoms → Atoms → Type 0
U ⊆ W = (a : ℕ) → So (U a) → So (W a)

infix 40 ◌⊆◌
-- what a set keeps from coming true, a larger one with none true does
pub wider : (U W : Atoms) (A : Answers) → U ⊆ W → NoneTrue W A → (h : Hypothesis) → Fails U A h →
    hypothesis_truth (wipe W A) h ≡ Truth.False
wider U W A sub none h f =
    (hypothesis_local (wipe U A) (wipe W A) h
    (λ a _. wipe-≼ U W A A a (λ m. inl (sub a m)) (λ m. inr (none a m)) (≼_refl (A a)))
    ).1 (fails→false U A (λ a m. none a (sub a m)) h f)

module _ (R : Reading) (levels : List ℕ) (n : ℕ) where
  -- the union of two unfounded sets is unfounded
  abbrev pub union : Atoms → Atoms → Atoms
  union U W a = U a || W a

  pub union_unfounded : (U W : Atoms) (A : Answers) → Unfounded R levels n U A → Unfounded R levels n W A →
      Unfounded R levels n (union U W) A
  union_unfounded U W A u w = record {
    closed = λ a m. ⊎_elim (u.closed a) (w.closed a) (or_cases (U a) (W a) m);
    none_true = none;
    fails = λ r i m.
        ⊎_elim (grown U (λ a. or_left (U a) (W a)) u r i) (grown W (λ a. or_right (U a) (W a)) w r i)
        (or_cases (U r.head) (W r.head) m);
  }
    where
      none : NoneTrue (union U W) A
      none a m = ⊎_elim (u.none_true a) (w.none_true a) (or_cases (U a) (W a) m)

      grown : (S : Atoms) → S ⊆ union U W → Unfounded R levels n S A → (r : Rule) → In r R.rules → So (S r.head) →
          (h : Hypothesis) × In h r.body × Fails (union U W) A h
      grown S sub s r i m =
          let (h, j, f) = s.fails r i m in
          (h, j, false→fails (union U W) A none h (wider S (union U W) A sub none h f))

  -- the executable search, over a list of answers with a kind for each
  module _ (A : List Truth) (long : length A ≡ length R.kinds) where
    -- the candidates, from which the search starts
    abbrev chosen : List Bool
    chosen = candidates R levels n A

    -- a closed atom of the level
    abbrev here : ℕ → Bool
    here a = is_closed (kind_at R.kinds a) && eqb (level_at levels a) n

    -- candidates are closed atoms of the level that are not true
    candidates_of : (a : ℕ) → So (members_of chosen a) →
        (kind_at R.kinds a ≡ Kind.Closed) × (level_at levels a ≡ n) × (answers_of A a ≡ Truth.True → ⊥)
    unfolding candidates
    candidates_of a m =
        let c = passed (candidate R levels n) Truth.Undefined A a m in
        let k = (and_parts (here a) _ c).0 in (
          closed_of (kind_at R.kinds a) (and_parts (is_closed (kind_at R.kinds a)) _ k).0,
          eqb-true (level_at levels a) n (and_parts (is_closed (kind_at R.kinds a)) _ k).1,
          λ t. not_of (is_true (answers_of A a)) (and_parts (here a) _ c).1 (ap is_true t),
        )

    of_candidates : (a : ℕ) → kind_at R.kinds a ≡ Kind.Closed → level_at levels a ≡ n →
        (answers_of A a ≡ Truth.True → ⊥) → So (members_of chosen a)
    unfolding candidates
    of_candidates a k l t =
        map_at_at (candidate R levels n) Truth.Undefined false A a (omega (arith, closed_in R.kinds a k, long)) ∙
        and_from _ _ (and_from _ _ (ap is_closed k) (eq-eqb (level_at levels a) n l))
        (of_not (is_true (answers_of A a)) (λ e. t (true_of _ e)))

    -- a strike keeps what it keeps, and only lets go
    strike_of : (U : List Bool) (a : ℕ) → So (members_of (strike R A U) a) →
        So (members_of U a) × So (refuted R (wipe (members_of U) (answers_of A)) a)
    unfolding strike
    strike_of U a m = and_parts (members_of U a) _ (passed (stays R A U) false U a m)

    of_strike : (U : List Bool) (a : ℕ) → So (members_of U a) → So (refuted R (wipe (members_of U) (answers_of A)) a) →
        So (members_of (strike R A U) a)
    unfolding strike
    of_strike U a m f =
        map_at_at (stays R A U) false false U a (place_in false U a (λ o. false≢true (sym o ∙ m))) ∙ and_from _ _ m f

    -- the sets that are struck: candidates all, and none of an unfounded set is struck out
    abbrev Within : List Bool → Type 0
    Within U = members_of U ⊆ members_of (candidates R levels n A)

    -- no candidate is true
    within_none : (U : List Bool) → Within U → NoneTrue (members_of U) (answers_of A)
    within_none U w a m = (candidates_of a (w a m)).2

    strike_within : (U : List Bool) → Within U → Within (strike R A U)
    strike_within U w a m = w a (strike_of U a m).0

    -- what is found is a candidate
    pub found_within : Within (unfounded R levels n A)
    unfolding unfounded
    found_within = times_keeps (strike R A) Within strike_within (length A) chosen (λ a m. m)

    -- nothing is left to strike: each strike takes an atom out or changes nothing
    abbrev found : List Bool
    found = unfounded R levels n A

    abbrev self : Bool → Bool
    self b = b

    stays_clears : (U : List Bool) (a : ℕ) (u : Bool) → Clears self (stays R A U) a u
    stays_clears U a true =
        by-test (refuted R (wipe (members_of U) (answers_of A)) a) (λ t. inl t) (λ f. inr (refl, f))
    stays_clears U a false = inl refl

    found_ends : strike R A found ≡ found
    unfolding unfounded strike candidates
    found_ends =
        times_ends (strike R A) (λ U. Unit {0}) (number self) (λ U _. tt) (λ U _. falls U) (length A) chosen tt few
      where
        falls : (U : List Bool) → (number self (strike R A U) < number self U) ⊎ (strike R A U ≡ U)
        falls U = ⊎_elim inr inl (clears_falls self (stays R A U) (stays_clears U) 0 U)

        few : number self chosen ≤ length A
        few = omega (arith, number_most_lem self chosen, map_at_length (candidate R levels n) 0 A)

    -- what step (c) finds is unfounded
    pub is_unfounded : Unfounded R levels n (members_of (unfounded R levels n A)) (answers_of A)
    is_unfounded = record {
      closed = λ a m. let (k, l, _) = candidates_of a (found_within a m) in (k, l);
      none_true = within_none found found_within;
      fails = λ r i m.
          let U : Atoms = members_of found in
          let s : So (members_of (strike R A found) r.head) = rw found_ends m in
          let (h, j, f) = refuted→ R (wipe U (answers_of A)) r.head (strike_of found r.head s).1 r i refl in
          (h, j, false→fails U (answers_of A) (within_none found found_within) h f);
    }

    -- and it holds every unfounded set
    pub greatest : (U : Atoms) → Unfounded R levels n U (answers_of A) → U ⊆ members_of (unfounded R levels n A)
    unfolding unfounded
    greatest U u =
        (times_keeps (strike R A) (λ W. Within W × (U ⊆ members_of W)) kept (length A) chosen
        (λ a m. m, λ a m. let (k, l) = u.closed a m in of_candidates a k l (u.none_true a m))).1
      where
        kept : (W : List Bool) → Within W × (U ⊆ members_of W) → Within (strike R A W) × (U ⊆ members_of (strike R A W))
        kept W (w, sub) = (
          strike_within W w,
          λ a m. of_strike W a (sub a m)
              (→refuted R (wipe (members_of W) (answers_of A)) a
              (λ r i e.
              let (h, j, f) = u.fails r i (rw e m) in
              (h, j, wider U (members_of W) (answers_of A) sub (within_none W w) h f))),
        )
