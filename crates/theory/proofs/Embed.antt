-- A part that has all the rules for its own complete and closed atoms, inside a larger part: its runs are runs of the
-- larger part. Assumes nothing.
use mathlib.Core.Logic.{inl, inr, ⊎_elim}
use Prim.Native.Nat.{ℕ}
use Rattle.theory.specs.Answers.{Answers, Atoms}
use Rattle.theory.specs.Rules.{Rules, Part, Derived, Refuted}
use Rattle.theory.specs.Steps.{Unfounded, Step, Run, start, next, Final, Fresh}

-- `P` lies inside `Q` and has all its rules for the atoms that `P` may make false
pub record Embeds {R : Rules} (P Q : Part R) : Type 0 where
  pub has : (r : R.Rule) → P.Has r → Q.Has r
  pub complete : (a : ℕ) → P.Complete a → Q.Complete a
  pub closed : (a : ℕ) → P.Closed a → Q.Closed a
  pub own_complete : (r : R.Rule) → Q.Has r → P.Complete (R.head r) → P.Has r
  pub own_closed : (r : R.Rule) → Q.Has r → P.Closed (R.head r) → P.Has r

module _ {R : Rules} {P Q : Part R} (E : Embeds P Q) where
  derived_embeds : (A : Answers) (a : ℕ) → Derived R P A a → Derived R Q A a
  derived_embeds A a (r, has, e, b) = (r, E.has r has, e, b)

  refuted_embeds : (A : Answers) (a : ℕ) → P.Complete a → Refuted R P A a → Refuted R Q A a
  refuted_embeds A a c f r has e = f r (E.own_complete r has (rw e c)) e

  unfounded_embeds : {U : Atoms} {A : Answers} → Unfounded R P U A → Unfounded R Q U A
  unfounded_embeds u = record {
    closed = λ a m. E.closed a (u.closed a m);
    none_true = u.none_true;
    blocked = λ r has m. u.blocked r (E.own_closed r has (u.closed (R.head r) m)) m;
  }

  step_embeds : {A B : Answers} → Step R P A B → Step R Q A B
  step_embeds {A} s = record {
    keeps = s.keeps;
    new_true = λ a e. ⊎_elim inl (λ d. inr (derived_embeds A a d)) (s.new_true a e);
    new_false = λ a e.
        ⊎_elim inl
        (⊎_elim (λ (c, f). inr (inl (E.complete a c, refuted_embeds A a c f)))
        (λ (U, u, m). inr (inr (U, unfounded_embeds u, m))))
        (s.new_false a e);
  }

  pub run_embeds : {A B : Answers} → Run R P A B → Run R Q A B
  run_embeds start = start
  run_embeds (next r s) = next (run_embeds r) (step_embeds s)

  -- the other way round: what is final or fresh for the larger part is so for the smaller
  pub final_embeds : {A : Answers} → Final R Q A → Final R P A
  final_embeds {A} f = record {
    has_true = λ a d. f.has_true a (derived_embeds A a d);
    has_false = λ a c x. f.has_false a (E.complete a c) (refuted_embeds A a c x);
    has_unfounded = λ a (U, u, m). f.has_unfounded a (U, unfounded_embeds u, m);
  }

  pub fresh_embeds : {A : Answers} → Fresh R Q A → Fresh R P A
  fresh_embeds f = record {
    heads = λ r has. f.heads r (E.has r has);
    completes = λ a c. f.completes a (E.complete a c);
    closeds = λ a c. f.closeds a (E.closed a c);
  }
