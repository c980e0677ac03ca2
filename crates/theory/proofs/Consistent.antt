-- A run never contradicts itself: what it decided is not overturned by a step judged later. So a run that can decide
-- no undefined atom is final. Assumes nothing.
use mathlib.Core.Path.{◌≡◌}
use mathlib.Core.Logic.{◌⊎◌, inl, inr, ⊎_elim}
use mathlib.Core.Bool.{So}
use Prim.Native.Nat.{ℕ}
use Rattle.theory.specs.declared.answer.Truth.{Truth}
use Rattle.theory.specs.Answers.{Answers, ◌⊑◌, Atoms, NoneTrue}
use Rattle.theory.specs.Rules.{Rules, Part, Derived, Refuted}
use Rattle.theory.specs.Steps.{Unfounded, Step, Run, start, next, Final, Ended, Fresh}
use Rattle.theory.proofs.Truth.{by_answer}
use Rattle.theory.proofs.Answers.{⊑_refl, ⊑_trans}
use Rattle.theory.proofs.Steps.{body_clash, derived_mono, refuted_mono, key, free_run}

module _ (R : Rules) (P : Part R) where
  -- a set with `a` in it that was unfounded when the run passed, and of which nothing is true now
  abbrev WasUnfounded : Answers → ℕ → Type 0
  WasUnfounded A a = (U : Atoms) × (C : Answers) × Unfounded R P U C × (C ⊑ A) × NoneTrue U A × So (U a)

  -- why `a` is false in `A`, judged at `A` itself
  abbrev WhyFalse : Answers → Answers → ℕ → Type 0
  WhyFalse A₀ A a = (A₀ a ≡ Truth.False) ⊎ Refuted R P A a ⊎ WasUnfounded A a

  -- no atom is both: a body would be
  derived_refuted : (A : Answers) (a : ℕ) → Derived R P A a → Refuted R P A a → ⊥
  derived_refuted A a (r, has, e, b) f = body_clash R A r b (f r has e)

module _ {R : Rules} {P : Part R} where
  -- why `a` is true in `A`, judged at `A` itself
  true_from : {A₀ A : Answers} → Run R P A₀ A → (a : ℕ) → A a ≡ Truth.True → (A₀ a ≡ Truth.True) ⊎ Derived R P A a
  true_from start a e = inl e
  true_from (next {B = A} {C = A'} r s) a e =
      let up : Derived R P A a → Derived R P A' a = derived_mono R P s.keeps a in
      ⊎_elim (λ t. ⊎_elim inl (λ d. inr (up d)) (true_from r a t)) (λ d. inr (up d)) (s.new_true a e)

  -- a later step leaves the reason in place
  why_step : (A₀ : Answers) {A A' : Answers} → Step R P A A' → (a : ℕ) → WhyFalse R P A₀ A a → WhyFalse R P A₀ A' a
  why_step A₀ s a (inl e) = inl e
  why_step A₀ s a (inr (inl f)) = inr (inl (refuted_mono R P s.keeps a f))
  why_step A₀ {A' = A'} s a (inr (inr (U, C, u, p, f, m))) =
      let p' = ⊑_trans p s.keeps in
      inr (inr (U, C, u, p', free_run u p' f (next start s) (⊑_refl A'), m))

  false_from : {A₀ A : Answers} → Run R P A₀ A → (a : ℕ) → A a ≡ Truth.False → WhyFalse R P A₀ A a
  false_from start a e = inl e
  false_from {A₀} (next {B = A} r s) a e =
      why_step A₀ s a
      (⊎_elim (false_from r a)
      (⊎_elim (λ (c, f). inr (inl f)) (λ (U, u, m). inr (inr (U, A, u, ⊑_refl A, u.none_true, m)))) (s.new_false a e))

  module _ {A₀ A : Answers} (fresh : Fresh R P A₀) (run : Run R P A₀ A) where
    -- no step overturns an answer
    false_stays : (a : ℕ) → A a ≡ Truth.False → Derived R P A a → ⊥
    false_stays a e d =
        ⊎_elim (λ z. fresh.heads d.0 d.1 (rw d.2 z))
        (⊎_elim (derived_refuted R P A a d) (λ (U, C, u, p, f, m). key u p (⊑_refl A) f a m d)) (false_from run a e)

    true_stays : (a : ℕ) → P.Complete a → A a ≡ Truth.True → Refuted R P A a → ⊥
    true_stays a c e f = ⊎_elim (fresh.completes a c) (λ d. derived_refuted R P A a d f) (true_from run a e)

    -- an engine that looks at undefined atoms only, and stops when none can be decided, has reached the end
    pub settled : Ended R P A → Final R P A
    settled end = record {
      has_true = λ a d. by_answer (A a) (λ e. absurd (end.no_true a e d)) (λ e. e) (λ e. absurd (false_stays a e d));
      has_false = λ a c f.
          by_answer (A a) (λ e. absurd (end.no_false a e c f)) (λ e. absurd (true_stays a c e f)) (λ e. e);
      has_unfounded = λ a (U, u, m).
          by_answer (A a) (λ e. absurd (end.no_unfounded a e (U, u, m))) (λ e. absurd (u.none_true a m e)) (λ e. e);
    }
