-- How two answers may differ at the elements of a comparison. Assumes nothing.
use mathlib.Core.Path.{refl}
use mathlib.Core.Bool.{So, not, false≢true}
use mathlib.Core.List.{List}
use Rattle.laws.specs.Lists.{In}
use Rattle.laws.proofs.Tests.{not_of}
use Rattle.theory.specs.Truth.{is_true, is_false}
use Rattle.theory.specs.declared.answer.Truth.{Truth}
use Rattle.theory.specs.Answers.{Answers}
use Rattle.meaning.specs.Reading.{Element}
use Rattle.meaning.specs.Truth.{definite, element_truth, possible}

-- what is definite in A is definite in B; what is possible in B is possible in A
abbrev pub Definite : Answers → Answers → List Element → Type 0
Definite A B es = (e : Element) → In e es → So (definite A e) → So (definite B e)

abbrev pub Possible : Answers → Answers → List Element → Type 0
Possible A B es = (e : Element) → In e es → So (possible B e) → So (possible A e)

-- what is definite is possible
pub definite_possible : (A : Answers) (e : Element) → So (definite A e) → So (possible A e)
definite_possible A e = go (element_truth A e)
  where
    go : (x : Truth) → So (is_true x) → So (not (is_false x))
    go Truth.Undefined t = refl
    go Truth.True t = refl
    go Truth.False t = absurd (false≢true t)

module _ (A B : Answers) (es : List Element) where
  -- P holds of each element that stops being true; of each that stops being false
  abbrev pub FromTrue : (Element → Type 0) → Type 0
  FromTrue P = (e : Element) → In e es → So (definite A e) → So (not (definite B e)) → P e

  abbrev pub FromFalse : (Element → Type 0) → Type 0
  FromFalse P = (e : Element) → In e es → So (is_false (element_truth A e)) → So (possible B e) → P e

  -- if none does
  pub stays_true : (P : Element → Type 0) → Definite A B es → FromTrue P
  stays_true P d e i t n = absurd (not_of (definite B e) n (d e i t))

  pub stays_false : (P : Element → Type 0) → Possible A B es → FromFalse P
  stays_false P p e i t n = absurd (not_of (is_false (element_truth A e)) (p e i n) t)
