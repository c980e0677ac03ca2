-- Count is sum with weights of 1, by definition. Its least is then the number of definite elements, and its most the
-- number of possible ones, as document 01 says. Assumes nothing.
use mathlib.Core.Path.{◌≡◌, refl, sym, ap, ap₂, ◌∙◌}
use mathlib.Core.Bool.{Bool, cond, not}
use mathlib.Core.List.{List, [], ◌∷◌}
use lib.IntN.{ℤ, pos, ◌+ℤ◌}
use Rattle.laws.proofs.Counting.{number, number_more}
use Rattle.theory.specs.Truth.{is_false, is_true}
use Rattle.theory.specs.declared.answer.Truth.{Truth}
use Rattle.theory.specs.Answers.{Answers}
use Rattle.meaning.specs.Reading.{Element}
use Rattle.meaning.specs.Truth.{definite, element_truth, least, least_share, most, most_share, one, possible, total}

module _ (A : Answers) where
  -- shares of 1 where a test is passed, and of 0 elsewhere, come to the number of those that pass
  shares_number : (share : Truth → ℤ) (passes : Truth → Bool) → ((x : Truth) → share x ≡ pos (cond (passes x) 1 0)) →
      (es : List Element) →
      total (λ e. share (element_truth A e)) es ≡ pos (number (λ e. passes (element_truth A e)) es)
  shares_number share passes alike [] = refl
  shares_number share passes alike (e ∷ es) =
      ap₂ ◌+ℤ◌ (alike (element_truth A e)) (shares_number share passes alike es) ∙
      ap pos (sym (number_more (λ e. passes (element_truth A e)) e es))

  pub count_least : (es : List Element) → least one A es ≡ pos (number (definite A) es)
  unfolding least
  count_least = shares_number (λ x. least_share x (pos 1)) is_true alike
    where
      alike : (x : Truth) → least_share x (pos 1) ≡ pos (cond (is_true x) 1 0)
      alike Truth.Undefined = refl
      alike Truth.True = refl
      alike Truth.False = refl

  pub count_most : (es : List Element) → most one A es ≡ pos (number (possible A) es)
  unfolding most
  count_most = shares_number (λ x. most_share x (pos 1)) (λ x. not (is_false x)) alike
    where
      alike : (x : Truth) → most_share x (pos 1) ≡ pos (cond (not (is_false x)) 1 0)
      alike Truth.Undefined = refl
      alike Truth.True = refl
      alike Truth.False = refl
