-- A function repeated: what it keeps, and that it comes to rest where a number falls. Assumes nothing.
use mathlib.Core.Path.{◌≡◌, refl, sym, ap, ◌∙◌}
use mathlib.Core.Logic.{◌⊎◌, ⊎_elim}
use Prim.Native.Nat.{ℕ, zero, suc, ◌<◌, ◌≤◌}
use native.Mathlib.Omega.{arith}
use Rattle.laws.specs.Lists.{times}

module _ {X : Type 0} (f : X → X) where
  -- what a function leaves as it is, its repetition does
  pub times_fixed : (k : ℕ) (x : X) → f x ≡ x → times k f x ≡ x
  unfolding times
  times_fixed zero x e = refl
  times_fixed (suc k) x e = ap (times k f) e ∙ times_fixed k x e

  -- what a function keeps, its repetition keeps
  pub times_keeps : (Q : X → Type 0) → ((x : X) → Q x → Q (f x)) → (k : ℕ) (x : X) → Q x → Q (times k f x)
  unfolding times
  times_keeps Q h zero x q = q
  times_keeps Q h (suc k) x q = times_keeps Q h k (f x) (h x q)

  -- a number falls as long as something changes: repeated as often as the number says, the function changes nothing
  -- more
  pub times_ends : (Q : X → Type 0) (μ : X → ℕ) → ((x : X) → Q x → Q (f x)) →
      ((x : X) → Q x → (μ (f x) < μ x) ⊎ (f x ≡ x)) → (k : ℕ) (x : X) → Q x → μ x ≤ k → f (times k f x) ≡ times k f x
  unfolding times
  times_ends Q μ keep fall zero x q l = ⊎_elim (λ g. absurd (omega (arith, l, g))) (λ e. e) (fall x q)
  times_ends Q μ keep fall (suc k) x q l =
      ⊎_elim (λ g. times_ends Q μ keep fall k (f x) (keep x q) (omega (arith, l, g)))
      (λ e. let p : times k f (f x) ≡ x = ap (times k f) e ∙ times_fixed k x e in ap f p ∙ (e ∙ sym p)) (fall x q)

-- once more at the start is once more at the end
pub times_more : {X : Type 0} (f : X → X) (k : ℕ) (x : X) → times k f (f x) ≡ f (times k f x)
unfolding times
times_more f zero x = refl
times_more f (suc k) x = times_more f k (f x)
