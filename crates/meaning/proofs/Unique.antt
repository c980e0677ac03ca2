-- Sound rules as read are rules of the theory: founded answers are its model, so there is one, and more given answers
-- take none back. Assumes nothing.
use mathlib.Core.Path.{◌≡◌, refl, sym, ap, ◌∙◌}
use mathlib.Core.Logic.{◌⊎◌, inl, inr, ⊎_elim}
use mathlib.Core.Bool.{Bool, So}
use mathlib.Core.List.{List}
use Prim.Native.Nat.{ℕ}
use native.Mathlib.Omega.{arith}
use lib.Seq.{ext_get_or}
use Rattle.std.proofs.lemmas.Bool.{both_ways}
use Rattle.laws.specs.Lists.{In, all}
use Rattle.laws.proofs.Tests.{by-test}
use Rattle.laws.proofs.Entries.{all_entry, in_gather, not_all}
use Rattle.theory.specs.Truth.{is_true}
use Rattle.theory.specs.declared.answer.Truth.{Truth}
use Rattle.theory.specs.Answers.{Answers, Atoms, ◌⊑◌, wipe}
use Rattle.theory.specs.Rules.{Part, Rules}
use Rattle.theory.specs.Rules as Theory
use Rattle.theory.specs.Steps.{Blocks, Fresh, wiped, never}
use Rattle.theory.specs.Steps as TheorySteps
use Rattle.theory.specs.Levels.{Book, Layers, Model, Under, at_level, certain_level, whole}
use Rattle.theory.specs.Levels as TheoryLevels
use Rattle.theory.proofs.Truth.{true_of, undefined_false, undefined_true}
use Rattle.theory.proofs.Model.{grows, one_model}
use Rattle.meaning.specs.Reading.{Hypothesis, Reading, Rule, kind_at, level_at, level_count}
use Rattle.meaning.specs.declared.codes.Kind.{Kind}
use Rattle.meaning.specs.Refusal.{Use, uses, uses_of}
use Rattle.meaning.specs.Truth.{hypothesis_truth}
use Rattle.meaning.specs.Model.{answers_of}
use Rattle.meaning.specs.Founded.{BodyTrue, CertainEnded, CertainStep, Complete, Derived, Ended, Fails, Founded}
use Rattle.meaning.specs.Founded.{Levels, Run, Step, Unfounded, certain, next, none, start, uncertain}
use Rattle.meaning.proofs.Hypotheses.{Reads, hypothesis_local, positive_use, uses_reads}
use Rattle.meaning.proofs.KindLaws.{certain_in, certain≢closed, closed_in, complete_in, not_complete}
use Rattle.meaning.proofs.KindLaws.{open_not_certain, open_not_closed, open_not_complete}
use Rattle.meaning.proofs.Sound.{Sound}
use Rattle.meaning.proofs.Unfounded.{fails→false, false→fails}

-- rules as read, as rules of the theory
abbrev pub rules : Reading → Rules
rules R = record {
  Rule = Rule;
  Hypothesis = Hypothesis;
  truth = hypothesis_truth;
  Reads = Reads;
  truth_local = hypothesis_local;
  head = λ r. r.head;
  Uses = λ r h. In h r.body;
  Certain = λ a. kind_at R.kinds a ≡ Kind.Certain;
}

-- a body is true, or some hypothesis is not
pub body_or : (A : Answers) (r : Rule) →
    BodyTrue A r ⊎ ((h : Hypothesis) × In h r.body × (hypothesis_truth A h ≡ Truth.True → ⊥))
body_or A r =
    let holds : Hypothesis → Bool = λ h. is_true (hypothesis_truth A h) in
    by-test (all holds r.body) (λ t. inl (λ h i. true_of (hypothesis_truth A h) (all_entry holds r.body t h i)))
    (λ f. let (h, i, n) = not_all holds r.body f in inr (h, i, λ e. both_ways _ n (ap is_true e)))

-- the rules as a book of the theory
abbrev pub book : Reading → Book
book R = record {
  rules = rules R;
  Has = λ r. In r R.rules;
  Complete = λ a. Complete (kind_at R.kinds a);
  Closed = λ a. kind_at R.kinds a ≡ Kind.Closed;
  complete_uncertain = λ a c e. not_complete e c;
  body_or = λ A r _. body_or A r;
}

module _ (R : Reading) (levels : List ℕ) (given : List Truth) (S : Sound R levels given) where
  -- what a hypothesis of a rule reads, the rule uses
  pub reads_use : (r : Rule) (h : Hypothesis) → In h r.body → (a : ℕ) → Reads h a →
      (u : Use) × In u (uses r) × (u.atom ≡ a)
  unfolding uses
  reads_use r h i a m = let (u, j, e) = uses_reads h a m in (u, in_gather uses_of r.body h u i j, e)

  -- in a rule for a certain atom, counting undefined atoms of the level as false makes nothing true
  pub positive : (r : Rule) → In r R.rules → kind_at R.kinds r.head ≡ Kind.Certain →
      (h : Hypothesis) → In h r.body → (U : Atoms) (A : Answers) →
      ((a : ℕ) → So (U a) → (level_at levels a ≡ level_at levels r.head) × (A a ≡ Truth.Undefined)) →
      hypothesis_truth (wipe U A) h ≡ Truth.True → hypothesis_truth A h ≡ Truth.True
  unfolding uses
  positive r i c h j U A f =
      positive_use U A h (λ u k m. S.positive r i c u (in_gather uses_of r.body h u j k) (sym (f u.atom m).0))

  -- its levels, with what 9 to 11 say of them
  abbrev pub layers : Layers (book R)
  layers = record {
    level = level_at levels;
    lower = λ r i h j a m. let (u, k, e) = reads_use r h j a m in rw (← e) (S.lower r i u k);
    positive = positive;
    certain_only = λ r i c h j a m. let (u, k, e) = reads_use r h j a m in rw (← e) (S.certain_only r i c u k);
  }

  -- heads of rules and atoms that are not open are below level 128
  covers : Under (book R) layers level_count
  covers = record {
    rules = λ r i. S.low r.head (S.head_in r i);
    completes = λ a c. S.low a (omega (arith, complete_in R.kinds a c, S.of_kinds));
    closeds = λ a. ⊎_elim (λ e. S.low a (omega (arith, closed_in R.kinds a e, S.of_kinds)))
        (λ e. S.low a (omega (arith, certain_in R.kinds a e, S.of_kinds)));
  }

  -- one level's steps, and those of a certain level
  module _ (n : ℕ) where
    abbrev there : Part (rules R)
    there = at_level (book R) layers n

    abbrev there_certain : Part (rules R)
    there_certain = certain_level (book R) layers n

    -- step (a) is the same in both
    derived_there : (A : Answers) (a : ℕ) → level_at levels a ≡ n → Derived R A a → Theory.Derived (rules R) there A a
    derived_there A a l (r, i, q, b) = (r, (i, ap (level_at levels) q ∙ l), q, b)

    derived_here : (A : Answers) (a : ℕ) → Theory.Derived (rules R) there A a → (level_at levels a ≡ n) × Derived R A a
    derived_here A a (r, (i, l), q, b) = (ap (level_at levels) (sym q) ∙ l, (r, i, q, b))

    -- an unfounded set is one of the theory, and one of the theory is unfounded
    unfounded_there : {U : Atoms} {A : Answers} → Unfounded R levels n U A → TheorySteps.Unfounded (rules R) there U A
    unfounded_there {U} {A} u = record {
      closed = u.closed;
      none_true = u.none_true;
      blocked = λ r (i, _) m. let (h, j, f) = u.fails r i m in (h, j, wiped (fails→false U A u.none_true h f));
    }

    unfounded_here : {U : Atoms} {A : Answers} → TheorySteps.Unfounded (rules R) there U A → Unfounded R levels n U A
    unfounded_here {U} {A} u = record {
      closed = u.closed;
      none_true = u.none_true;
      fails = λ r i m. let (h, j, b) = u.blocked r (i, (u.closed r.head m).1) m in (h, j, unblock r m h b);
    }
      where
        unblock : (r : Rule) → So (U r.head) → (h : Hypothesis) → Blocks (rules R) U A r h → Fails U A h
        unblock r m h (wiped e) = false→fails U A u.none_true h e
        unblock r m h (never c _) = absurd (certain≢closed c (u.closed r.head m).0)

    -- a step is one of the theory, and so is the end
    step_there : {A B : Answers} → Step R levels n A B → TheorySteps.Step (rules R) there A B
    step_there {A} s = record {
      keeps = s.keeps;
      new_true = λ a e. ⊎_elim inl (λ (l, d). inr (derived_there A a l d)) (s.new_true a e);
      new_false = λ a e.
          ⊎_elim inl
          (λ w. inr (⊎_elim (λ (l, c, f). inl ((c, l), λ r (i, _) q. f r i q))
          (λ (U, u, m). inr (U, unfounded_there u, m)) w))
          (s.new_false a e);
    }

    ended_there : {A : Answers} → Ended R levels n A → TheorySteps.Ended (rules R) there A
    ended_there {A} x = record {
      no_true = λ a u d. let (l, d') = derived_here A a d in x.no_true a u l d';
      no_false = λ a u (c, l) f. x.no_false a u l c (λ r i q. f r (i, ap (level_at levels) q ∙ l) q);
      no_unfounded = λ a u (U, w, m). x.no_unfounded a u (U, unfounded_here w, m);
    }

    -- the same of a certain level
    certain_step_there : {A B : Answers} → CertainStep R levels n A B → TheorySteps.Step (rules R) there_certain A B
    certain_step_there {A} s = record {
      keeps = s.keeps;
      new_true = λ a e. ⊎_elim inl (λ (l, d). inr (derived_there A a l d)) (s.new_true a e);
      new_false = λ a e. inl (s.no_false a e);
    }

    certain_ended_there : {A : Answers} → CertainEnded R levels n A → TheorySteps.Ended (rules R) there_certain A
    certain_ended_there {A} x = record {
      no_true = λ a u d. let (l, d') = derived_here A a d in x.no_true a u l d';
      no_false = λ a u c f. c;
      no_unfounded = λ a u (U, w, m). w.closed a m;
    }

  -- runs of steps that the theory has
  run_there : {S : Answers → Answers → Type 0} (P : Part (rules R)) →
      ((B C : Answers) → S B C → TheorySteps.Step (rules R) P B C) → {A B : Answers} → Run S A B →
      TheorySteps.Run (rules R) P A B
  run_there P f start = TheorySteps.start
  run_there P f (next r s) = TheorySteps.next (run_there P f r) (f _ _ s)

  -- so the levels are worked through there as here
  levels_there : {G : Answers} {n : ℕ} {A : Answers} → Levels R levels G n A → TheoryLevels.Levels (book R) layers G n A
  levels_there none = TheoryLevels.none
  levels_there (certain {n = n} before all run end) =
      TheoryLevels.certain (levels_there before) all (run_there (there_certain n) (λ _ _. certain_step_there n) run)
      (certain_ended_there n end)
  levels_there (uncertain {n = n} before f run end) =
      TheoryLevels.uncertain (levels_there before) f (run_there (there n) (λ _ _. step_there n) run) (ended_there n end)

  -- founded answers are the theory's model
  pub model_there : {A : List Truth} → Founded R levels given A →
      Model (book R) layers (answers_of given) (answers_of A)
  model_there f = record { most = level_count; covers = covers; levels = levels_there f.worked }

  -- what is given is given to open atoms that no rule concludes
  pub fresh : Fresh (rules R) (whole (book R)) (answers_of given)
  fresh = record {
    heads = λ r i e. S.given_free r.head (λ u. undefined_false u e) r i refl;
    completes = λ a c e. open_not_complete (S.given_open a (λ u. undefined_true u e)) c;
    closeds = λ a w e.
        let o = S.given_open a (λ u. undefined_true u e) in ⊎_elim (open_not_closed o) (open_not_certain o) w;
  }

  -- ONE MODEL: any order and grouping of the steps comes to the same end
  pub founded_unique : (A B : List Truth) → Founded R levels given A → Founded R levels given B → A ≡ B
  founded_unique A B f g =
      let same : answers_of A ≡ answers_of B = one_model fresh (model_there f) (model_there g) in
      ext_get_or Truth.Undefined A B (f.long ∙ sym g.long) (λ a _. ap (λ (X : Answers). X a) same)

-- more given answers take none back
pub founded_grows : (R : Reading) (levels : List ℕ) (given more : List Truth) → Sound R levels given →
    Sound R levels more → answers_of given ⊑ answers_of more → (A B : List Truth) → Founded R levels given A →
    Founded R levels more B → answers_of A ⊑ answers_of B
founded_grows R levels given more S S' p A B f g =
    grows (fresh R levels given S) (fresh R levels more S') p (model_there R levels given S f)
    (model_there R levels more S' g)
