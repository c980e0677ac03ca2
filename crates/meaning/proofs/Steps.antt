-- The tests of steps (a) and (b) say what a person reads. Assumes nothing.
use mathlib.Core.Path.{◌≡◌, ap}
use mathlib.Core.Logic.{⊎_elim}
use mathlib.Core.Bool.{Bool, not, ◌&&◌, ◌||◌, So}
use Prim.Native.Nat.{ℕ}
use lib.Dec.{eqb}
use borrow.Author.Tests.{eqb-true, eq-eqb}
use Rattle.std.proofs.lemmas.Bool.{and_from, and_parts, or_cases, or_left, or_right}
use Rattle.laws.proofs.Tests.{by-test, not_of}
use Rattle.laws.proofs.Entries.{any_entry, entry_any, all_entry, entry_all}
use Rattle.theory.specs.Truth.{is_true, is_false}
use Rattle.theory.specs.declared.answer.Truth.{Truth}
use Rattle.theory.specs.Answers.{Answers}
use Rattle.meaning.specs.Reading.{Reading, Rule}
use Rattle.meaning.specs.Truth.{body_truth}
use Rattle.meaning.specs.Model.{derived, refuted}
use Rattle.meaning.specs.Founded.{Derived, Refuted}
use Rattle.theory.proofs.Truth.{true_of, false_of}
use Rattle.meaning.proofs.Bodies.{body_true→, →body_true, body_false→, →body_false}

module _ (R : Reading) (A : Answers) (a : ℕ) where
  -- a rule makes `a` true; a rule does not keep `a` from being false
  supports : Rule → Bool
  supports r = eqb r.head a && is_true (body_truth A r.body)

  spares : Rule → Bool
  spares r = not (eqb r.head a) || is_false (body_truth A r.body)

  -- step (a), both ways
  pub derived→ : So (derived R A a) → Derived R A a
  unfolding derived supports
  derived→ t =
      let (r, i, s) = any_entry supports R.rules t in
      let truth : body_truth A r.body ≡ Truth.True = true_of _ (and_parts (eqb r.head a) _ s).1 in
      (r, i, eqb-true r.head a (and_parts (eqb r.head a) _ s).0, body_true→ A r.body truth)

  pub →derived : Derived R A a → So (derived R A a)
  unfolding derived supports
  →derived (r, i, e, b) =
      entry_any supports R.rules r i
      (and_from (eqb r.head a) _ (eq-eqb r.head a e) (ap is_true (→body_true A r.body b)))

  -- step (b), both ways
  pub refuted→ : So (refuted R A a) → Refuted R A a
  unfolding refuted spares
  refuted→ t r i e =
      let false_body : So (is_false (body_truth A r.body)) =
      ⊎_elim (λ n. absurd (not_of (eqb r.head a) n (eq-eqb r.head a e))) (λ f. f)
      (or_cases (not (eqb r.head a)) (is_false (body_truth A r.body)) (all_entry spares R.rules t r i)) in
      body_false→ A r.body (false_of _ false_body)

  pub →refuted : Refuted R A a → So (refuted R A a)
  unfolding refuted spares
  →refuted f =
      entry_all spares R.rules
      (λ r i. by-test (eqb r.head a)
      (λ e. let (h, j, v) = f r i (eqb-true r.head a e) in
      or_right (not (eqb r.head a)) _ (ap is_false (→body_false A r.body h j v)))
      (λ n. or_left _ (is_false (body_truth A r.body)) (ap not n)))
