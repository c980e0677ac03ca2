-- The three answers told apart, and the laws of keeping an answer. Assumes nothing.
use mathlib.Core.Path.{◌≡◌, refl, sym, ◌∙◌, ap}
use mathlib.Core.Bool.{So, false≢true}
use Rattle.theory.specs.Truth.{flip, is_true, is_false, is_undefined, ◌≼◌}
use Rattle.theory.specs.declared.answer.Truth.{Truth}

-- no answer is both
pub clash : {x : Truth} → x ≡ Truth.True → x ≡ Truth.False → ⊥
clash p q = false≢true (ap is_true (sym q ∙ p))

pub undefined_true : {x : Truth} → x ≡ Truth.Undefined → x ≡ Truth.True → ⊥
undefined_true p q = false≢true (ap is_true (sym p ∙ q))

pub undefined_false : {x : Truth} → x ≡ Truth.Undefined → x ≡ Truth.False → ⊥
undefined_false p q = false≢true (ap is_false (sym p ∙ q))

-- a split on an answer
pub by_answer {ℓ} : {X : Type ℓ} (x : Truth) →
    (x ≡ Truth.Undefined → X) → (x ≡ Truth.True → X) → (x ≡ Truth.False → X) → X
by_answer Truth.Undefined u t f = u refl
by_answer Truth.True u t f = t refl
by_answer Truth.False u t f = f refl

-- what a test that passes says
pub true_of : (x : Truth) → So (is_true x) → x ≡ Truth.True
true_of Truth.Undefined e = absurd (false≢true e)
true_of Truth.True e = refl
true_of Truth.False e = absurd (false≢true e)

pub false_of : (x : Truth) → So (is_false x) → x ≡ Truth.False
false_of Truth.Undefined e = absurd (false≢true e)
false_of Truth.True e = absurd (false≢true e)
false_of Truth.False e = refl

pub undefined_of : (x : Truth) → So (is_undefined x) → x ≡ Truth.Undefined
undefined_of Truth.Undefined e = refl
undefined_of Truth.True e = absurd (false≢true e)
undefined_of Truth.False e = absurd (false≢true e)

pub ≼_refl : (x : Truth) → x ≼ x
≼_refl x = (λ e. e, λ e. e)

pub ≼_trans : {x y z : Truth} → x ≼ y → y ≼ z → x ≼ z
≼_trans p q = (λ e. q.0 (p.0 e), λ e. q.1 (p.1 e))

pub ≼_antisym : (x y : Truth) → x ≼ y → y ≼ x → x ≡ y
≼_antisym Truth.Undefined y p q =
    by_answer y (λ e. sym e) (λ e. absurd (undefined_true refl (q.0 e))) (λ e. absurd (undefined_false refl (q.1 e)))
≼_antisym Truth.True y p q = sym (p.0 refl)
≼_antisym Truth.False y p q = sym (p.1 refl)

pub flip-≼ : (x y : Truth) → x ≼ y → flip x ≼ flip y
flip-≼ Truth.Undefined y p = (λ e. absurd (undefined_true refl e), λ e. absurd (undefined_false refl e))
flip-≼ Truth.True y p = (λ e. absurd (clash e refl), λ _. ap flip (p.0 refl))
flip-≼ Truth.False y p = (λ _. ap flip (p.1 refl), λ e. absurd (clash refl e))

-- what is decided is kept as it is
pub known-≼ : (x y : Truth) → x ≼ y → (x ≡ Truth.Undefined → ⊥) → y ≼ x
known-≼ Truth.Undefined y p k = absurd (k refl)
known-≼ Truth.True y p k = (λ _. refl, λ e. absurd (clash (p.0 refl) e))
known-≼ Truth.False y p k = (λ e. absurd (clash e (p.1 refl)), λ _. refl)

-- what is undefined later was so before
pub undefined-≼ : (x y : Truth) → x ≼ y → y ≡ Truth.Undefined → x ≡ Truth.Undefined
undefined-≼ x y p z =
    by_answer x (λ e. e) (λ e. absurd (undefined_true z (p.0 e))) (λ e. absurd (undefined_false z (p.1 e)))
