-- A round of the code is a round of the model. Assumes nothing.
use mathlib.Core.Path.{◌≡◌, refl, sym, ap, ◌∙◌}
use mathlib.Core.List.{List}
use Prim.Native.Nat.{ℕ, ◌<◌}
use native.Mathlib.Omega.{arith}
use lib.ListN.{length}
use lib.Seq.{ext_get_or}
use Rattle.std.specs.Prelude.{Option, Some, None, is_some}
use Rattle.laws.proofs.Places.{map_at_at, map_at_length}
use Rattle.theory.specs.Truth.{is_false, is_true}
use Rattle.theory.specs.declared.answer.Truth.{Truth}
use Rattle.meaning.specs.Format.{atom_count, rule_count}
use Rattle.meaning.specs.Model.{next, round, unfounded}
use Rattle.book.specs.Framed.{Framed}
use Rattle.judge.specs.Held.{held}
use Rattle.steps.specs.Work.{Exact, levels_in, rules_in}
use Rattle.steps.specs.Due.{Due}
use Rattle.steps.specs.Round.{Gathered, Judged, Settled, Turn, next_of}
use Rattle.steps.proofs.WorkLaws.{few, taken}
use Rattle.steps.proofs.HeadLaws.{head_derived, head_refuted}
use Rattle.steps.proofs.NextLaws.{next_is}

-- what has been gathered from all rules is what steps (a) and (b) ask
gathered_judged : (b : List ℕ) (A : List Truth) (D : List ℕ) (best : List Truth) → Gathered b A D best (rule_count b) →
    Judged b A D best
gathered_judged b A D best G = record {
  rises = λ a l p. ap is_true (G.truths a l p) ∙ head_derived b A a;
  sinks = λ a l p. ap is_false (G.truths a l p) ∙ head_refuted b A a;
}

-- what has been settled is the model's round
module _ (b : List ℕ) (n : ℕ) (A : List Truth) (D : List ℕ) (best W : List Truth) (F : Framed b)
    (s : length A ≡ atom_count b) (d : Due b n A D) (G : Gathered b A D best (rule_count b)) (E : Exact b n A W) where
  abbrev after : List Truth
  after = round (rules_in b) (levels_in b) n A

  abbrev step : ℕ → Truth → Truth
  step = next (rules_in b) (levels_in b) n A (unfounded (rules_in b) (levels_in b) n A)

  many : length after ≡ length A
  unfolding round
  many = map_at_length step 0 A

  each : (a : ℕ) → a < length A → next_of A D best W a ≡ held after a
  unfolding round held
  each a l =
      next_is b n A D best W d (gathered_judged b A D best G) E a (omega (arith, l, s)) ∙
      sym (map_at_at step Truth.Undefined Truth.Undefined A a l)

  pub turned : (r : Option (List Truth)) → Settled A D best W r → Turn b n A r
  unfolding held
  turned None h =
      ext_get_or Truth.Undefined after A many
      (λ a m. let l : a < length A = omega (arith, m, many) in sym (each a l) ∙ h a l)
  turned (Some now) M = record {
    long = M.long;
    is = taken now after (atom_count b) (many ∙ s) (omega (arith, few b F, M.long))
        (λ a m. let l : a < length A = omega (arith, m, s) in M.answers a l ∙ each a l);
    moves = λ q. let (a, l, f) = M.differs in f (each a l ∙ ap (λ (X : List Truth). held X a) q);
  }

-- whether a round changes anything is fixed by the answers before it
pub turn_unique : (b : List ℕ) (n : ℕ) (A : List Truth) (x y : Option (List Truth)) → Turn b n A x → Turn b n A y →
    is_some x ≡ is_some y
turn_unique b n A None None S T = refl
turn_unique b n A None (Some y) S T = absurd (T.moves S)
turn_unique b n A (Some x) None S T = absurd (S.moves T)
turn_unique b n A (Some x) (Some y) S T = refl
