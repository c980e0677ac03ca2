-- What a round gathers is what steps (a) and (b) ask. Assumes nothing.
use mathlib.Core.Path.{◌≡◌, refl, sym, ap, ◌∙◌}
use mathlib.Core.Bool.{Bool, not, ◌&&◌, ◌||◌}
use mathlib.Core.List.{List}
use Prim.Native.Nat.{ℕ, zero, suc}
use lib.Dec.{eqb}
use Rattle.std.proofs.Math.Bool.{and-true, or-false}
use Rattle.std.proofs.lemmas.List.Folds.{list_all-map}
use Rattle.laws.specs.Lists.{all_to, any_to}
use Rattle.laws.proofs.Tests.{by-test}
use Rattle.laws.proofs.Numbers.{all_to_lem, any_to_lem}
use Rattle.laws.proofs.Ranges.{any_map}
use Rattle.theory.specs.Truth.{is_false, is_true}
use Rattle.theory.specs.declared.answer.Truth.{Truth}
use Rattle.meaning.specs.Format.{no_rule, rule_count, tables}
use Rattle.meaning.specs.Reading.{reading, rule_of}
use Rattle.meaning.specs.Truth.{body_truth}
use Rattle.meaning.specs.Model.{answers_of, derived, refuted}
use Rattle.book.proofs.Counts.{rules_length}
use Rattle.book.specs.Records.{rule_in}
use Rattle.steps.specs.Work.{rules_in}
use Rattle.steps.specs.Round.{body_in, head_truth, join}
use Rattle.judge.specs.Held.{held}

-- a join is true if one is, false if both are
join_true : (x y : Truth) → is_true (join x y) ≡ (is_true x || is_true y)
join_true Truth.Undefined Truth.Undefined = refl
join_true Truth.Undefined Truth.True = refl
join_true Truth.Undefined Truth.False = refl
join_true Truth.True y = refl
join_true Truth.False y = refl

join_false : (x y : Truth) → is_false (join x y) ≡ (is_false x && is_false y)
join_false Truth.Undefined Truth.Undefined = refl
join_false Truth.Undefined Truth.True = refl
join_false Truth.Undefined Truth.False = refl
join_false Truth.True y = refl
join_false Truth.False y = refl

module _ (b : List ℕ) (A : List Truth) (a : ℕ) where
  supports : ℕ → Bool
  supports j = eqb (rule_in b j).head a && is_true (body_in b A j)

  spares : ℕ → Bool
  spares j = not (eqb (rule_in b j).head a) || is_false (body_in b A j)

  head_true : (k : ℕ) → is_true (head_truth b A a k) ≡ any_to supports k
  unfolding head_truth supports any_to
  head_true zero = refl
  head_true (suc k) =
      by-test (eqb (rule_in b k).head a) (λ t. rw (t, join_true (head_truth b A a k) (body_in b A k), head_true k))
      (λ f. rw (f, head_true k) (sym (or-false (any_to supports k))))

  head_false : (k : ℕ) → is_false (head_truth b A a k) ≡ all_to spares k
  unfolding head_truth spares all_to
  head_false zero = refl
  head_false (suc k) =
      by-test (eqb (rule_in b k).head a) (λ t. rw (t, join_false (head_truth b A a k) (body_in b A k), head_false k))
      (λ f. rw (f, head_false k) (sym (and-true (all_to spares k))))

  -- steps (a) and (b)
  pub head_derived : is_true (head_truth b A a (rule_count b)) ≡ derived (rules_in b) (answers_of A) a
  unfolding derived reading supports rule_of held
  head_derived =
      head_true (rule_count b) ∙
      sym (any_map (λ r. eqb r.head a && is_true (body_truth (answers_of A) r.body)) (rule_of (tables b))
      (tables b).rules ∙
      any_to_lem no_rule (λ x. eqb x.head a && is_true (body_truth (answers_of A) (rule_of (tables b) x).body)) supports
      (tables b).rules (λ k l. refl) ∙ ap (any_to supports) (rules_length b))

  pub head_refuted : is_false (head_truth b A a (rule_count b)) ≡ refuted (rules_in b) (answers_of A) a
  unfolding refuted reading spares rule_of held
  head_refuted =
      head_false (rule_count b) ∙
      sym (list_all-map (λ r. not (eqb r.head a) || is_false (body_truth (answers_of A) r.body)) (rule_of (tables b))
      (tables b).rules ∙
      all_to_lem no_rule (λ x. not (eqb x.head a) || is_false (body_truth (answers_of A) (rule_of (tables b) x).body))
      spares (tables b).rules (λ k l. refl) ∙ ap (all_to spares) (rules_length b))
