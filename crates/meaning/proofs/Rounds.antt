-- One executable round is a step of document 01 at every atom of its level, and where a round changes nothing no step
-- adds anything. Assumes nothing.
use mathlib.Core.Path.{◌≡◌, refl, sym, ap, ◌∙◌}
use mathlib.Core.Logic.{◌⊎◌, inl, inr, ⊎_elim, by_cases}
use mathlib.Core.Bool.{Bool, true, false, cond, ◌&&◌, So, false≢true}
use mathlib.Core.List.{List}
use Prim.Native.Nat.{ℕ, ◌<◌, ◌≤◌}
use native.Mathlib.Omega.{arith}
use native.Mathlib.Decide.{dec_lt}
use lib.Dec.{eqb}
use lib.ListN.{length}
use borrow.Author.Tests.{eqb-true, eq-eqb, ne_eqb}
use Rattle.std.proofs.lemmas.Bool.{and_from, and_parts, or_cases, or_left, or_right}
use Rattle.std.proofs.lemmas.List.{get_or_past}
use Rattle.laws.specs.Lists.{map_at, times}
use Rattle.laws.proofs.Tests.{by-test}
use Rattle.laws.proofs.Places.{map_at_at, map_at_length, map_at_out}
use Rattle.laws.proofs.Repeats.{times_ends}
use Rattle.laws.proofs.Counting.{Clears, clears_falls, number, number_most_lem}
use Rattle.theory.specs.Truth.{is_undefined, ◌≼◌}
use Rattle.theory.specs.declared.answer.Truth.{Truth}
use Rattle.theory.specs.Answers.{Answers, ◌⊑◌}
use Rattle.theory.proofs.Truth.{by_answer, clash, undefined_false, undefined_true, ≼_refl}
use Rattle.meaning.specs.Reading.{Reading, is_complete, kind_at, level_at, level_count}
use Rattle.meaning.specs.declared.codes.Kind.{Kind}
use Rattle.meaning.specs.Model.{answers_of, decide, derived, falls, members_of, next, refuted, round, unfounded}
use Rattle.meaning.specs.Founded.{AllCertain, CertainEnded, CertainStep, Complete, Derived, Ended, Refuted, Step}
use Rattle.meaning.specs.Founded.{Unsupported}
use Rattle.meaning.proofs.KindLaws.{certain≢closed, complete_of, not_complete, of_complete}
use Rattle.meaning.proofs.Steps.{derived→, →derived, refuted→, →refuted}
use Rattle.meaning.proofs.Unfounded.{greatest, is_unfounded}

-- A new answer: `on` says that the atom is to be decided, `t` that some body is true, `f` that it falls.
abbrev verdict : Bool → Bool → Bool → Truth → Truth
verdict on t f x = cond on (cond t Truth.True (cond f Truth.False Truth.Undefined)) x

-- what it comes from: true, false, undefined
new_true_of : (on t f : Bool) (x : Truth) → verdict on t f x ≡ Truth.True →
    (x ≡ Truth.True) ⊎ (So on × So t)
new_true_of true true f x e = inr (refl, refl)
new_true_of true false true x e = absurd (clash e refl)
new_true_of true false false x e = absurd (undefined_true refl e)
new_true_of false t f x e = inl e

new_false_of : (on t f : Bool) (x : Truth) → verdict on t f x ≡ Truth.False →
    (x ≡ Truth.False) ⊎ (So on × So f)
new_false_of true true f x e = absurd (clash refl e)
new_false_of true false true x e = inr (refl, refl)
new_false_of true false false x e = absurd (undefined_false refl e)
new_false_of false t f x e = inl e

none_new_of : (on t f : Bool) (x : Truth) → So on → verdict on t f x ≡ Truth.Undefined → (So t → ⊥) × (So f → ⊥)
none_new_of true true f x o e = absurd (undefined_true e refl)
none_new_of true false true x o e = absurd (undefined_false e refl)
none_new_of true false false x o e = (false≢true, false≢true)
none_new_of false t f x o e = absurd (false≢true o)

-- a level, and a list of answers with a kind and a level for each
pub record Fit (R : Reading) (levels : List ℕ) (n : ℕ) (A : List Truth) : Type 0 where
  pub low : n < level_count
  pub of_kinds : length A ≡ length R.kinds
  pub of_levels : length A ≡ length levels

module _ (R : Reading) (levels : List ℕ) (n : ℕ) (A : List Truth) (fit : Fit R levels n A) where
  -- a list that is mapped by place, read at any atom: an atom past the table is at no level, and stays undefined
  pub each_at : (f : ℕ → Truth → Truth) →
      ((a : ℕ) → eqb (level_at levels a) n ≡ false → f a Truth.Undefined ≡ Truth.Undefined) →
      (a : ℕ) → answers_of (map_at f 0 A) a ≡ f a (answers_of A a)
  each_at f stays a =
      by_cases (dec_lt a (length A)) (map_at_at f Truth.Undefined Truth.Undefined A a)
      (λ out.
      let o : length A ≤ a = omega (arith, out) in
      let z : level_at levels a ≡ level_count = get_or_past levels a level_count (omega (arith, o, fit.of_levels)) in
      map_at_out f Truth.Undefined 0 A a o ∙
      sym (stays a (ne_eqb (level_at levels a) n (λ e. omega (arith, z, e, fit.low)))) ∙
      ap (f a) (sym (get_or_past A a Truth.Undefined o)))

  -- the answers before and after the round, and the set that step (c) finds
  abbrev before : Answers
  before = answers_of A

  abbrev after : Answers
  after = answers_of (round R levels n A)

  abbrev found : List Bool
  found = unfounded R levels n A

  abbrev kind : ℕ → Kind
  kind a = kind_at R.kinds a

  -- a round, read at any atom
  pub round_at : (a : ℕ) →
      answers_of (round R levels n A) a ≡ next R levels n A (unfounded R levels n A) a (answers_of A a)
  unfolding round next
  round_at = each_at (next R levels n A found) (λ a e. rw e)

  -- where `a` is to be decided, and what it then gets
  abbrev on : ℕ → Bool
  on a = is_undefined (before a) && eqb (level_at levels a) n

  abbrev rises : ℕ → Bool
  rises a = derived R before a

  abbrev sinks : ℕ → Bool
  sinks a = falls R A found a

  -- the answer after the round is that verdict
  round_is : (a : ℕ) → after a ≡ verdict (on a) (rises a) (sinks a) (before a)
  unfolding next decide
  round_is a = round_at a

  -- what is decided is at the level
  at_level : (a : ℕ) → So (on a) → level_at levels a ≡ n
  at_level a o = eqb-true (level_at levels a) n (and_parts (is_undefined (before a)) _ o).1

  -- a decided answer stays
  pub round_keeps : answers_of A ⊑ answers_of (round R levels n A)
  round_keeps a = rw (round_is a) (kept (before a) (eqb (level_at levels a) n) _)
    where
      kept : (x : Truth) (e : Bool) (y : Truth) → x ≼ cond (is_undefined x && e) y x
      kept Truth.Undefined e y = (λ t. absurd (undefined_true refl t), λ t. absurd (undefined_false refl t))
      kept Truth.True e y = ≼_refl Truth.True
      kept Truth.False e y = ≼_refl Truth.False

  -- step (a) alone makes true
  new_true : (a : ℕ) → after a ≡ Truth.True → (before a ≡ Truth.True) ⊎ ((level_at levels a ≡ n) × Derived R before a)
  new_true a e =
      ⊎_elim inl (λ (o, t). inr (at_level a o, derived→ R before a t))
      (new_true_of (on a) (rises a) (sinks a) (before a) (sym (round_is a) ∙ e))

  -- what steps (b) and (c) ask for, beside the level
  abbrev Falls : ℕ → Type 0
  Falls a = (Complete (kind a) × Refuted R before a) ⊎ Unsupported R levels n before a

  falls→ : (a : ℕ) → So (sinks a) → Falls a
  unfolding falls
  falls→ a f =
      ⊎_elim
      (λ b. inl (
        complete_of (kind a) (and_parts (is_complete (kind a)) _ b).0,
        refuted→ R before a (and_parts (is_complete (kind a)) _ b).1,
      ))
      (λ m. inr (members_of found, is_unfounded R levels n A fit.of_kinds, m))
      (or_cases (is_complete (kind a) && refuted R before a) (members_of found a) f)

  -- steps (b) and (c) alone make false
  new_false : (a : ℕ) → after a ≡ Truth.False → (before a ≡ Truth.False) ⊎ ((level_at levels a ≡ n) × Falls a)
  new_false a e =
      ⊎_elim inl (λ (o, f). inr (at_level a o, falls→ a f))
      (new_false_of (on a) (rises a) (sinks a) (before a) (sym (round_is a) ∙ e))

  -- an uncertain level: all three steps
  pub round_step : Step R levels n (answers_of A) (answers_of (round R levels n A))
  round_step = record {
    keeps = round_keeps;
    new_true = new_true;
    new_false = λ a e. ⊎_elim inl (λ (l, w). inr (⊎_elim (λ (c, f). inl (l, c, f)) inr w)) (new_false a e);
  }

  -- a certain level: its atoms are neither complete nor closed, so step (a) alone
  pub round_certain : AllCertain R levels n → CertainStep R levels n (answers_of A) (answers_of (round R levels n A))
  round_certain all = record {
    keeps = round_keeps;
    new_true = new_true;
    no_false = λ a e. ⊎_elim (λ f. f) (λ (l, w). absurd (never a l w)) (new_false a e);
  }
    where
      never : (a : ℕ) → level_at levels a ≡ n → Falls a → ⊥
      never a l (inl (c, _)) = not_complete (all a l) c
      never a l (inr (U, u, m)) = certain≢closed (all a l) (u.closed a m).0

  -- the end
  module _ (end : round R levels n A ≡ A) where
    -- what is still undefined neither rises nor sinks
    none_new : (a : ℕ) → before a ≡ Truth.Undefined → level_at levels a ≡ n → (So (rises a) → ⊥) × (So (sinks a) → ⊥)
    none_new a u l =
        none_new_of (on a) (rises a) (sinks a) (before a)
        (and_from (is_undefined (before a)) _ (ap is_undefined u) (eq-eqb (level_at levels a) n l))
        (sym (round_is a) ∙ ap (λ (B : List Truth). answers_of B a) end ∙ u)

    -- so no step adds anything
    pub round_ended : Ended R levels n (answers_of A)
    unfolding falls
    round_ended = record {
      no_true = λ a u l d. (none_new a u l).0 (→derived R before a d);
      no_false = λ a u l c f. (none_new a u l).1
          (or_left _ (members_of found a) (and_from _ _ (of_complete (kind a) c) (→refuted R before a f)));
      no_unfounded = λ a u (U, w, m). (none_new a u (w.closed a m).1).1
          (or_right (is_complete (kind a) && refuted R before a) _ (greatest R levels n A fit.of_kinds U w a m));
    }

    pub round_certain_ended : CertainEnded R levels n (answers_of A)
    round_certain_ended = record { no_true = round_ended.no_true }

-- Rounds come to rest, whatever the book: each decides something or changes nothing.
module _ (R : Reading) (levels : List ℕ) (n : ℕ) where
  pub round_length : (A : List Truth) → length (round R levels n A) ≡ length A
  unfolding round
  round_length A = map_at_length (next R levels n A (unfounded R levels n A)) 0 A

  -- an answer stays as it is, or was undefined and is decided
  next_clears : (A : List Truth) (U : List Bool) (a : ℕ) (x : Truth) → Clears is_undefined (next R levels n A U) a x
  unfolding next
  next_clears A U a Truth.Undefined =
      by-test (eqb (level_at levels a) n)
      (λ t. rw t
      (by_answer (decide R A U a) inl (λ e. inr (refl, ap is_undefined e)) (λ e. inr (refl, ap is_undefined e))))
      (λ f. rw f (inl refl))
  next_clears A U a Truth.True = inl refl
  next_clears A U a Truth.False = inl refl

  pub round_falls : (A : List Truth) →
      (round R levels n A ≡ A) ⊎ (number is_undefined (round R levels n A) < number is_undefined A)
  unfolding round
  round_falls A =
      let U = unfounded R levels n A in
      clears_falls is_undefined (next R levels n A U) (next_clears A U) 0 A

  -- as many rounds as there are atoms, and one more changes nothing
  pub rounds_rest : (A : List Truth) →
      round R levels n (times (length A) (round R levels n) A) ≡ times (length A) (round R levels n) A
  rounds_rest A =
      times_ends (round R levels n) (λ B. Unit {0}) (number is_undefined) (λ B _. tt)
      (λ B _. ⊎_elim inr inl (round_falls B)) (length A) A tt (number_most_lem is_undefined A)
