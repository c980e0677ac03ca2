-- What the loop over the atoms has written so far. Assumes nothing.
use mathlib.Core.Path.{◌≡◌, refl, sym, ◌∙◌}
use mathlib.Core.Logic.{⊎_elim}
use mathlib.Core.Bool.{Bool, true, false, not, ◌||◌}
use mathlib.Core.List.{List}
use Prim.Native.Nat.{ℕ, ◌+◌, ◌<◌}
use native.Mathlib.Omega.{arith}
use lib.ListN.{length, get_or, length-set, set}
use denote.Enum.Bare.{differs_false, differs_true, sameb}
use borrow.Author.Count.{below_more}
use Rattle.std.specs.Prelude.{Option, Some, None, is_some}
use Rattle.std.proofs.lemmas.Bool.{or_cases, or_parts}
use Rattle.theory.specs.declared.answer.Truth.{Truth}
use Rattle.theory.specs.contracts.answer.Truth.{the_type}
use Rattle.judge.specs.Held.{held}
use Rattle.steps.specs.Round.{Settled, next_of, next_truth}
use Rattle.steps.proofs.WorkLaws.{held_other, held_same}

-- the next answers of the first i atoms, and whether one of them differs from before
pub record Passed (A : List Truth) (D : List ℕ) (best W now : List Truth) (changed : Bool) (i : ℕ) : Type 0 where
  pub long : length now ≡ 2048
  pub answers : (a : ℕ) → a < i → held now a ≡ next_of A D best W a
  pub same : changed ≡ false → (a : ℕ) → a < i → next_of A D best W a ≡ held A a
  pub differs : changed ≡ true → (a : ℕ) × (a < i) × (next_of A D best W a ≡ held A a → ⊥)

-- one atom more
module _ (A : List Truth) (D : List ℕ) (best W now : List Truth) (c : Bool) (a : ℕ) (P : Passed A D best W now c a)
    (x s v : Truth) (was : x ≡ held A a) (counts : s ≡ held W a)
    (next : v ≡ next_truth (get_or D a 0) x (get_or best a Truth.Undefined) s) (l : a < length now) where
  is : v ≡ next_of A D best W a
  is = next ∙ rw (was, counts)

  pub passed_more : (X : List Truth) (e : Bool) → X ≡ set now a v → e ≡ not (sameb the_type v x) →
      Passed A D best W X (c || e) (a + 1)
  passed_more X e eX ee = rw (eX, ee) (record {
    long = length-set now a v ∙ P.long;
    answers = below_more (λ j. held (set now a v) j ≡ next_of A D best W j) a
        (λ j m. held_other now a v j (λ z. omega (arith, m, z)) ∙ P.answers j m) (held_same now a v l ∙ is);
    same = λ f. let (fc, fn) = or_parts c _ f in
        below_more (λ j. next_of A D best W j ≡ held A j) a (P.same fc)
        (sym is ∙ differs_false the_type tt v x fn ∙ was);
    differs = λ t. ⊎_elim (λ tc. let (j, m, f) = P.differs tc in (j, omega (arith, m), f))
        (λ tn. (a, omega arith, λ z. differs_true the_type v x tn (is ∙ z ∙ sym was))) (or_cases c _ t);
  })

-- whether an answer differs is fixed by what they are
pub settled_unique : (A : List Truth) (D : List ℕ) (best W : List Truth) (x y : Option (List Truth)) →
    Settled A D best W x → Settled A D best W y → is_some x ≡ is_some y
settled_unique A D best W None None S T = refl
settled_unique A D best W None (Some y) S T = let (a, l, f) = T.differs in absurd (f (S a l))
settled_unique A D best W (Some x) None S T = let (a, l, f) = S.differs in absurd (f (T a l))
settled_unique A D best W (Some x) (Some y) S T = refl
