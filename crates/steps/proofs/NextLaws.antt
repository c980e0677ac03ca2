-- With all rules gathered and the unfounded set counted false, what a round writes is the model's next answer. Assumes
-- nothing.
use mathlib.Core.Path.{◌≡◌, refl, sym, ap, ◌∙◌}
use mathlib.Core.Bool.{Bool, true, false, cond, ◌&&◌, false≢true}
use mathlib.Core.List.{List}
use Prim.Native.Nat.{ℕ, ◌<◌}
use lib.Dec.{eqb}
use lib.ListN.{get_or}
use Rattle.std.proofs.lemmas.Bool.{and_parts}
use Rattle.laws.proofs.Tests.{by-test}
use Rattle.theory.specs.Truth.{is_false, is_undefined}
use Rattle.theory.specs.declared.answer.Truth.{Truth}
use Rattle.theory.proofs.Truth.{undefined_of}
use Rattle.meaning.specs.Format.{atom_count}
use Rattle.meaning.specs.Model.{decide, falls, members_of, next, unfounded}
use Rattle.book.specs.Records.{kind_read, level_read}
use Rattle.judge.specs.Held.{held}
use Rattle.steps.specs.Work.{Exact, levels_in, rules_in}
use Rattle.steps.specs.Due.{Due, due_in, pending_in, steps_of}
use Rattle.steps.specs.Round.{Judged, next_of, next_truth}
use Rattle.steps.proofs.DueLaws.{steps_some, steps_two}

module _ (b : List ℕ) (n : ℕ) (A : List Truth) (D : List ℕ) (best W : List Truth) (d : Due b n A D)
    (J : Judged b A D best) (E : Exact b n A W) where
  abbrev U : List Bool
  U = unfounded (rules_in b) (levels_in b) n A

  false_wiped : (u : Bool) (x : Truth) → x ≡ Truth.Undefined → is_false (cond u Truth.False x) ≡ u
  false_wiped true x e = refl
  false_wiped false x e = rw e

  pub next_is : (a : ℕ) → a < atom_count b →
      next_of A D best W a ≡ next (rules_in b) (levels_in b) n A U a (held A a)
  unfolding pending_in due_in next_truth next decide falls
  next_is a l =
      by-test (is_undefined (held A a) && eqb (level_read b a) n)
      (λ t.
      let k = kind_read b a in
      let e : get_or D a 0 ≡ steps_of k = d.steps a l ∙ rw t in
      let some : get_or D a 0 ≡ 0 → ⊥ = λ z. false≢true (sym (steps_some k) ∙ ap (λ (i : ℕ). eqb i 0) (sym e ∙ z)) in
      let u : held A a ≡ Truth.Undefined = undefined_of (held A a) (and_parts (is_undefined (held A a)) _ t).0 in
      let f : is_false (held W a) ≡ members_of U a =
      ap is_false (E.counted a) ∙ false_wiped (members_of U a) (held A a) u in
      rw (J.rises a l some, J.sinks a l some, f, e, steps_some k, steps_two k, t))
      (λ f. rw (d.steps a l, f))
