-- The executable model is founded: rounds are a run, they come to their end, and a level is closed if it is certain.
-- Assumes nothing.
use mathlib.Core.Path.{◌≡◌, refl, sym, ap, ◌∙◌, subst, fun_ext}
use mathlib.Core.Logic.{◌⊎◌, inl, inr, ⊎_elim}
use mathlib.Core.Bool.{Bool, true, false, cond, ◌&&◌, So}
use mathlib.Core.List.{List}
use Prim.Native.Nat.{ℕ, zero, suc, ◌<◌, ◌≤◌}
use native.Mathlib.Omega.{arith}
use lib.Dec.{eqb}
use lib.ListN.{length}
use borrow.Author.Tests.{eqb-true, eq-eqb}
use Rattle.std.proofs.lemmas.Bool.{and_from, and_parts, both_ways}
use Rattle.laws.specs.Lists.{any_to, times}
use Rattle.laws.proofs.Tests.{by-test}
use Rattle.laws.proofs.Searches.{NoneTo}
use Rattle.laws.proofs.Numbers.{any_none, any_number}
use Rattle.laws.proofs.Places.{map_at_length, place_in}
use Rattle.laws.proofs.Repeats.{times_keeps}
use Rattle.theory.specs.Truth.{is_undefined}
use Rattle.theory.specs.declared.answer.Truth.{Truth}
use Rattle.theory.specs.Answers.{Answers}
use Rattle.meaning.specs.Reading.{Reading, is_certain, kind_at, level_at, level_count}
use Rattle.meaning.specs.declared.codes.Kind.{Kind}
use Rattle.meaning.specs.Model.{answers_of, close, closing, level, levels_below, model, round}
use Rattle.meaning.specs.Founded.{AllCertain, CertainStep, Founded, Levels, NoneCertain, Run, Step, certain}
use Rattle.meaning.specs.Founded.{closed, none, uncertain}
use Rattle.meaning.specs.Founded as Founded
use Rattle.meaning.proofs.KindLaws.{certain_of}
use Rattle.meaning.proofs.Rounds.{Fit, round_length, rounds_rest, each_at, round_certain, round_certain_ended}
use Rattle.meaning.proofs.Rounds.{round_ended, round_step}

-- of finitely many numbers one passes a test, or none does
below : (m : ℕ) (f : ℕ → Bool) → ((a : ℕ) × So (f a)) ⊎ ((a : ℕ) → a < m → f a ≡ false)
unfolding NoneTo
below m f =
    by-test (any_to f m) (λ t. let (a, _, u) = any_number f m t in inl (a, u)) (λ n. inr (any_none f m n))

module _ (R : Reading) (levels : List ℕ) (long : length R.kinds ≡ length levels) where
  module _ (n : ℕ) (low : n < level_count) (A : List Truth) (size : length A ≡ length levels) where
    -- a list as long as A fits the level
    fit : (B : List Truth) → length B ≡ length A → Fit R levels n B
    fit B l = record { low = low; of_kinds = omega (arith, l, size, long); of_levels = l ∙ size }

    -- rounds, one after the other
    rounds : ℕ → List Truth
    rounds m = times m (round R levels n) A

    -- they are a run, of steps of either sort
    rounds_run : (m : ℕ) (S : Answers → Answers → Type 0) →
        ((B : List Truth) → Fit R levels n B → S (answers_of B) (answers_of (round R levels n B))) →
        (length (rounds m) ≡ length A) × Run S (answers_of A) (answers_of (rounds m))
    unfolding rounds
    rounds_run m S step =
        times_keeps (round R levels n) (λ B. (length B ≡ length A) × Run S (answers_of A) (answers_of B))
        (λ B (l, r). (round_length R levels n B ∙ l, Founded.next r (step B (fit B l)))) m A
        (refl, Founded.start)

    -- whether an atom is at the level, and whether it is certain
    abbrev at : ℕ → Bool
    at a = eqb (level_at levels a) n

    abbrev sure : ℕ → Bool
    sure a = is_certain (kind_at R.kinds a)

    -- to close a level makes its undefined certain atoms false
    close_is : (B : List Truth) → length B ≡ length A → (f : ℕ → Bool) →
        ((a : ℕ) → (is_undefined (answers_of B a) && at a && sure a) ≡ f a) →
        answers_of (close R levels n B) ≡ (λ a. cond (f a) Truth.False (answers_of B a))
    unfolding close closing
    close_is B l f h = fun_ext (λ a.
        each_at R levels n B (fit B l) (closing R levels n) (λ a e. rw e) a ∙
        ap (λ (b : Bool). cond b Truth.False (answers_of B a)) (h a))

    -- of a certain level that is all undefined atoms, of another none
    close_certain : AllCertain R levels n → (B : List Truth) → length B ≡ length A →
        answers_of (close R levels n B) ≡ closed R levels n (answers_of B)
    close_certain all B l =
        close_is B l (λ a. at a && is_undefined (answers_of B a))
        (λ a. turned (is_undefined (answers_of B a)) (at a) (sure a)
        (λ e. ap is_certain (all a (eqb-true (level_at levels a) n e))))
      where
        turned : (u e c : Bool) → (So e → So c) → (u && e && c) ≡ (e && u)
        turned true true c f = f refl
        turned true false c f = refl
        turned false true c f = refl
        turned false false c f = refl

    close_uncertain : NoneCertain R levels n → (B : List Truth) → length B ≡ length A →
        answers_of (close R levels n B) ≡ answers_of B
    close_uncertain f B l =
        close_is B l (λ _. false)
        (λ a. shut (is_undefined (answers_of B a)) (at a) (sure a)
        (λ e c. f a (eqb-true (level_at levels a) n e) (certain_of (kind_at R.kinds a) c)))
      where
        shut : (u e c : Bool) → (So e → So c → ⊥) → (u && e && c) ≡ false
        shut true true true f = absurd (f refl refl)
        shut true true false f = refl
        shut true false c f = refl
        shut false e c f = refl

    close_length : (B : List Truth) → length (close R levels n B) ≡ length B
    unfolding close
    close_length B = map_at_length (closing R levels n) 0 B

    -- a level keeps the number of answers
    level_length : length (level R levels n A) ≡ length A
    unfolding level rounds
    level_length = close_length (rounds _) ∙ (rounds_run _ (λ _ _. Unit {0}) (λ _ _. tt)).0

    -- after as many rounds as there are atoms nothing changes
    abbrev last : List Truth
    last = rounds (length A)

    -- one level more
    level_worked : {G : Answers} → AllCertain R levels n ⊎ NoneCertain R levels n → Levels R levels G n (answers_of A) →
        Levels R levels G (suc n) (answers_of (level R levels n A))
    unfolding level rounds
    level_worked {G} (inl all) before =
        let (l, run) = rounds_run (length A) (CertainStep R levels n) (λ B f. round_certain R levels n B f all) in
        subst (Levels R levels G (suc n)) (sym (close_certain all last l))
        (certain before all run (round_certain_ended R levels n last (fit last l) (rounds_rest R levels n A)))
    level_worked {G} (inr f) before =
        let (l, run) = rounds_run (length A) (Step R levels n) (round_step R levels n) in
        subst (Levels R levels G (suc n)) (sym (close_uncertain f last l))
        (uncertain before f run (round_ended R levels n last (fit last l) (rounds_rest R levels n A)))

  -- no level mixes certain atoms with others
  abbrev pub Pure : Type 0
  Pure = (a b : ℕ) → a < length levels → b < length levels → level_at levels a ≡ level_at levels b →
      kind_at R.kinds a ≡ Kind.Certain → kind_at R.kinds b ≡ Kind.Certain

  module _ (pure : Pure) where
    -- an atom at a level is in the table
    at_in : (n a : ℕ) → n < level_count → level_at levels a ≡ n → a < length levels
    at_in n a low e = place_in level_count levels a (λ o. omega (arith, low, e, o))

    -- whether an atom is at the level and certain
    abbrev certain_at : ℕ → ℕ → Bool
    certain_at n a = eqb (level_at levels a) n && is_certain (kind_at R.kinds a)

    -- so a level is certain or has no certain atom
    either : (n : ℕ) → n < level_count → AllCertain R levels n ⊎ NoneCertain R levels n
    either n low =
        ⊎_elim
        (λ (a, t).
        let e : level_at levels a ≡ n = eqb-true (level_at levels a) n (and_parts (eqb (level_at levels a) n) _ t).0 in
        let c : kind_at R.kinds a ≡ Kind.Certain = certain_of _ (and_parts (eqb (level_at levels a) n) _ t).1 in
        inl (λ b e'. pure a b (at_in n a low e) (at_in n b low e') (e ∙ sym e') c))
        (λ none. inr (λ a e c.
        let t : So (certain_at n a) = and_from _ _ (eq-eqb (level_at levels a) n e) (ap is_certain c) in
        absurd (both_ways _ (none a (at_in n a low e)) t)))
        (below (length levels) (certain_at n))

    -- the levels below n, worked through
    worked_below : (given : List Truth) → length given ≡ length levels → (n : ℕ) → n ≤ level_count →
        (length (levels_below R levels n given) ≡ length levels)
        × Levels R levels (answers_of given) n (answers_of (levels_below R levels n given))
    unfolding levels_below
    worked_below given size zero low = (size, none)
    worked_below given size (suc n) low =
        let (l, w) = worked_below given size n (omega (arith, low)) in
        let A : List Truth = levels_below R levels n given in
        (level_length n low A l ∙ l, level_worked n low A l (either n low) w)

    -- the model of demand 2
    pub model_founded : (given : List Truth) → length given ≡ length levels →
        Founded R levels given (model R levels given)
    unfolding model
    model_founded given size =
        let (l, w) = worked_below given size level_count (omega arith) in
        record { long = l ∙ sym size; worked = w }
