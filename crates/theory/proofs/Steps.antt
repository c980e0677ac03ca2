-- What a run decides stays, and a run stays below a final end, whatever steps it takes. Assumes nothing.
use mathlib.Core.Path.{◌≡◌}
use mathlib.Core.Logic.{⊎_elim}
use mathlib.Core.Bool.{So}
use Prim.Native.Nat.{ℕ}
use Rattle.theory.specs.Truth.{◌≼◌}
use Rattle.theory.specs.declared.answer.Truth.{Truth}
use Rattle.theory.specs.Answers.{Answers, ◌⊑◌, Atoms, NoneTrue}
use Rattle.theory.specs.Rules.{Rules, Part, BodyTrue, BodyFalse, Derived, Refuted}
use Rattle.theory.specs.Steps.{Never, Blocks, wiped, never, Unfounded, Unsupported, Step, Run, start, next, Final}
use Rattle.theory.proofs.Truth.{clash}
use Rattle.theory.proofs.Answers.{⊑_refl, ⊑_trans, wipe_mono, wipe_over}

module _ (R : Rules) where
  -- knowing more of all atoms takes no truth back
  pub truth_mono : {A B : Answers} → A ⊑ B → (h : R.Hypothesis) → R.truth A h ≼ R.truth B h
  truth_mono {A} {B} p h = R.truth_local A B h (λ a _. p a)

  pub body_true_mono : {A B : Answers} → A ⊑ B → (r : R.Rule) → BodyTrue R A r → BodyTrue R B r
  body_true_mono p r b h uses = (truth_mono p h).0 (b h uses)

  pub body_false_mono : {A B : Answers} → A ⊑ B → (r : R.Rule) → BodyFalse R A r → BodyFalse R B r
  body_false_mono p r (h, uses, e) = (h, uses, (truth_mono p h).1 e)

  -- no body is both
  pub body_clash : (A : Answers) (r : R.Rule) → BodyTrue R A r → BodyFalse R A r → ⊥
  body_clash A r b (h, uses, e) = clash (b h uses) e

module _ {R : Rules} where
  -- what blocks a rule comes true at no later answers, and goes on blocking it
  pub blocks_never : {U : Atoms} {A : Answers} {r : R.Rule} {h : R.Hypothesis} → Blocks R U A r h → Never R U A h
  blocks_never {U} {h = h} (wiped e) M p t = clash t ((truth_mono R (wipe_mono U p) h).1 e)
  blocks_never (never c n) M p t = n M p t

  pub blocks_mono : {U : Atoms} {A B : Answers} {r : R.Rule} {h : R.Hypothesis} → A ⊑ B → Blocks R U A r h →
      Blocks R U B r h
  blocks_mono {U} {h = h} p (wiped e) = wiped ((truth_mono R (wipe_mono U p) h).1 e)
  blocks_mono p (never c n) = never c (λ M q. n M (⊑_trans p q))

module _ (R : Rules) (P : Part R) where
  pub derived_mono : {A B : Answers} → A ⊑ B → (a : ℕ) → Derived R P A a → Derived R P B a
  derived_mono p a (r, has, e, b) = (r, has, e, body_true_mono R p r b)

  pub refuted_mono : {A B : Answers} → A ⊑ B → (a : ℕ) → Refuted R P A a → Refuted R P B a
  refuted_mono p a f r has e = body_false_mono R p r (f r has e)

module _ {R : Rules} {P : Part R} where
  pub run_keeps : {A B : Answers} → Run R P A B → A ⊑ B
  run_keeps {A} start = ⊑_refl A
  run_keeps (next r s) = ⊑_trans (run_keeps r) s.keeps

  pub run_append : {A B C : Answers} → Run R P A B → Run R P B C → Run R P A C
  run_append r start = r
  run_append r (next q s) = next (run_append r q) s

  -- THE KEY. `U` is unfounded at `A`, no member of `U` is true in `B`, and both lie below `M`. Then no rule for a
  -- member has a true body at `B`: `B` lies below `M` with `U` made false too, and there the rule is blocked.
  pub key : {U : Atoms} {A B M : Answers} → Unfounded R P U A → A ⊑ M → B ⊑ M → NoneTrue U B → (a : ℕ) → So (U a) →
      Derived R P B a → ⊥
  key {U} {M = M} u p q f a m (r, has, e, b) =
      let (h, uses, blocks) = u.blocked r has (rw e m) in
      blocks_never blocks M p ((truth_mono R (wipe_over U f q) h).0 (b h uses))

  -- so no member of `U` comes true along a run below `M` that starts with none true
  pub free_run : {U : Atoms} {A M : Answers} → Unfounded R P U A → A ⊑ M → {B C : Answers} → NoneTrue U B →
      Run R P B C → C ⊑ M → NoneTrue U C
  free_run u p f start q a m t = f a m t
  free_run u p f (next r s) q a m t =
      let q' = ⊑_trans s.keeps q in
      let f' = free_run u p f r q' in
      ⊎_elim (f' a m) (key u p q' f' a m) (s.new_true a t)

  -- an unfounded set stays one as long as nothing of it comes true
  pub unfounded_mono : {U : Atoms} {A B : Answers} → A ⊑ B → NoneTrue U B → Unfounded R P U A → Unfounded R P U B
  unfounded_mono p f u = record {
    closed = u.closed;
    none_true = f;
    blocked = λ r has m. let (h, uses, blocks) = u.blocked r has m in (h, uses, blocks_mono p blocks);
  }

  -- a run from `B₀`, where no closed atom is true, to a final `B`
  module _ {B₀ B : Answers} (none_true : (a : ℕ) → P.Closed a → B₀ a ≡ Truth.True → ⊥) (run : Run R P B₀ B)
      (final : Final R P B) where
    -- what was unfounded on the way is still so at the end, and false there
    unsupported_final : {A : Answers} → A ⊑ B → (a : ℕ) → Unsupported R P A a → B a ≡ Truth.False
    unsupported_final p a (U, u, m) =
        let f = free_run u p (λ b i. none_true b (u.closed b i)) run (⊑_refl B) in
        final.has_unfounded a (U, unfounded_mono p f u, m)

    pub step_below : {A A' : Answers} → A ⊑ B → Step R P A A' → A' ⊑ B
    step_below p s a = (
      λ t. ⊎_elim (p a).0 (λ d. final.has_true a (derived_mono R P p a d)) (s.new_true a t),
      λ t. ⊎_elim (p a).1 (⊎_elim (λ (c, f). final.has_false a c (refuted_mono R P p a f)) (unsupported_final p a))
          (s.new_false a t),
    )

    -- a run from below `B₀` stays below `B`, whatever its steps
    pub below : {A₀ A : Answers} → A₀ ⊑ B₀ → Run R P A₀ A → A ⊑ B
    below p start = ⊑_trans p (run_keeps run)
    below p (next r s) = step_below (below p r) s
