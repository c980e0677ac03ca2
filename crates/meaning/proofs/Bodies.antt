-- A rule body is true exactly if each hypothesis is true, and false exactly if one is false. Assumes nothing.
use mathlib.Core.Path.{◌≡◌, refl}
use mathlib.Core.Logic.{◌⊎◌, inl, inr, ⊎_elim}
use mathlib.Core.List.{List, [], ◌∷◌}
use Rattle.laws.specs.Lists.{In}
use Rattle.laws.proofs.Tests.{by-test}
use Rattle.theory.specs.Truth.{is_false}
use Rattle.theory.specs.declared.answer.Truth.{Truth}
use Rattle.theory.specs.Answers.{Answers}
use Rattle.meaning.specs.Reading.{Hypothesis}
use Rattle.meaning.specs.Truth.{body_truth, hypothesis_truth, meet}
use Rattle.theory.proofs.Truth.{clash, undefined_true, undefined_false, false_of}

-- what a meet says of its parts, and what makes it false
meet_true : (x y : Truth) → meet x y ≡ Truth.True → (x ≡ Truth.True) × (y ≡ Truth.True)
meet_true Truth.Undefined y e =
    by-test (is_false y) (λ t. absurd (clash (rw t at e) refl)) (λ f. absurd (undefined_true refl (rw f at e)))
meet_true Truth.True y e = (refl, e)
meet_true Truth.False y e = absurd (clash e refl)

meet_false : (x y : Truth) → meet x y ≡ Truth.False → (x ≡ Truth.False) ⊎ (y ≡ Truth.False)
meet_false Truth.Undefined y e =
    by-test (is_false y) (λ t. inr (false_of y t)) (λ f. absurd (undefined_false refl (rw f at e)))
meet_false Truth.True y e = inr e
meet_false Truth.False y e = inl refl

false_meet : (x y : Truth) → y ≡ Truth.False → meet x y ≡ Truth.False
false_meet Truth.Undefined y e = rw e
false_meet Truth.True y e = e
false_meet Truth.False y e = refl

module _ (A : Answers) where
  -- a body is true: what it says, and when it is
  pub body_true→ : (hs : List Hypothesis) → body_truth A hs ≡ Truth.True → (h : Hypothesis) → In h hs →
      hypothesis_truth A h ≡ Truth.True
  unfolding body_truth
  body_true→ [] e h i = elim i [ ]
  body_true→ (x ∷ hs) e h (inl q) = rw (← q) (meet_true (hypothesis_truth A x) (body_truth A hs) e).0
  body_true→ (x ∷ hs) e h (inr i) = body_true→ hs (meet_true (hypothesis_truth A x) (body_truth A hs) e).1 h i

  pub →body_true : (hs : List Hypothesis) → ((h : Hypothesis) → In h hs → hypothesis_truth A h ≡ Truth.True) →
      body_truth A hs ≡ Truth.True
  unfolding body_truth
  →body_true [] t = refl
  →body_true (x ∷ hs) t = rw (t x (inl refl)) (→body_true hs (λ h i. t h (inr i)))

  -- a body is false: what it says, and when it is
  pub body_false→ : (hs : List Hypothesis) → body_truth A hs ≡ Truth.False →
      (h : Hypothesis) × In h hs × (hypothesis_truth A h ≡ Truth.False)
  unfolding body_truth
  body_false→ [] e = absurd (clash refl e)
  body_false→ (x ∷ hs) e =
      ⊎_elim (λ f. (x, inl refl, f)) (λ f. let (h, i, g) = body_false→ hs f in (h, inr i, g))
      (meet_false (hypothesis_truth A x) (body_truth A hs) e)

  pub →body_false : (hs : List Hypothesis) (h : Hypothesis) → In h hs → hypothesis_truth A h ≡ Truth.False →
      body_truth A hs ≡ Truth.False
  unfolding body_truth
  →body_false [] h i f = elim i [ ]
  →body_false (x ∷ hs) h (inl q) f = rw (q, f)
  →body_false (x ∷ hs) h (inr i) f = false_meet (hypothesis_truth A x) (body_truth A hs) (→body_false hs h i f)
