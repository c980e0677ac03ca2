-- Steps (a), (b), (c) over a part of the rules, runs of steps, and their end. Assumes nothing.
use Rattle.std.specs.Prelude.{◌≡◌, ◌⊎◌, ℕ}
use Rattle.std.proofs.Math.Bool.{So}
use Rattle.theory.specs.declared.answer.Truth.{Truth}
use Rattle.theory.specs.Answers.{Answers, ◌⊑◌, Atoms, wipe, NoneTrue}
use Rattle.theory.specs.Rules.{Rules, Part, Derived, Refuted}

module _ (R : Rules) where
  -- `h` cannot come true as long as the members of `U` are false
  abbrev pub Never : Atoms → Answers → R.Hypothesis → Type 0
  Never U A h = (M : Answers) → A ⊑ M → R.truth (wipe U M) h ≡ Truth.True → ⊥

  -- `h` keeps rule `r` from founding a member of `U`: it is false once `U` counts as false. For certain heads it is
  -- enough that it never comes true: max of no elements is undefined, and a certain atom over it false all the same.
  pub data Blocks (U : Atoms) (A : Answers) (r : R.Rule) (h : R.Hypothesis) : Type 0 where
    wiped : R.truth (wipe U A) h ≡ Truth.False → Blocks U A r h
    never : R.Certain (R.head r) → Never U A h → Blocks U A r h

module _ (R : Rules) (P : Part R) where
  pub record Unfounded (U : Atoms) (A : Answers) : Type 0 where
    pub closed : (a : ℕ) → So (U a) → P.Closed a
    pub none_true : NoneTrue U A
    pub blocked : (r : R.Rule) → P.Has r → So (U (R.head r)) → (h : R.Hypothesis) × R.Uses r h × Blocks R U A r h

  -- a member of some unfounded set, and so of the greatest
  abbrev pub Unsupported : Answers → ℕ → Type 0
  Unsupported A a = (U : Atoms) × Unfounded U A × So (U a)

  -- `B` comes from `A` by any number of (a), (b), (c) at once, each judged at `A`
  pub record Step (A B : Answers) : Type 0 where
    pub keeps : A ⊑ B
    pub new_true : (a : ℕ) → B a ≡ Truth.True → (A a ≡ Truth.True) ⊎ Derived R P A a
    pub new_false : (a : ℕ) → B a ≡ Truth.False →
        (A a ≡ Truth.False) ⊎ (P.Complete a × Refuted R P A a) ⊎ Unsupported A a

  pub data Run (A : Answers) : Answers → Type 0 where
    start : Run A A
    next : {B C : Answers} → Run A B → Step B C → Run A C

  -- what a step could add is there already
  pub record Final (A : Answers) : Type 0 where
    pub has_true : (a : ℕ) → Derived R P A a → A a ≡ Truth.True
    pub has_false : (a : ℕ) → P.Complete a → Refuted R P A a → A a ≡ Truth.False
    pub has_unfounded : (a : ℕ) → Unsupported A a → A a ≡ Truth.False

  -- no step can decide an undefined atom
  pub record Ended (A : Answers) : Type 0 where
    pub no_true : (a : ℕ) → A a ≡ Truth.Undefined → Derived R P A a → ⊥
    pub no_false : (a : ℕ) → A a ≡ Truth.Undefined → P.Complete a → Refuted R P A a → ⊥
    pub no_unfounded : (a : ℕ) → A a ≡ Truth.Undefined → Unsupported A a → ⊥

  -- the heads, the complete and the closed atoms of the part are not yet decided the other way
  pub record Fresh (A : Answers) : Type 0 where
    pub heads : (r : R.Rule) → P.Has r → A (R.head r) ≡ Truth.False → ⊥
    pub completes : (a : ℕ) → P.Complete a → A a ≡ Truth.True → ⊥
    pub closeds : (a : ℕ) → P.Closed a → A a ≡ Truth.True → ⊥
