-- A book without its levels, a level table that fits it, and the levels worked through one after the other. Assumes
-- nothing.
use Rattle.std.specs.Prelude.{◌≡◌, ◌⊎◌, ◌&&◌, ℕ, suc, ◌<◌, ◌≤◌, eqb}
use Rattle.std.proofs.Math.Bool.{So}
use Rattle.theory.specs.Truth.{is_undefined}
use Rattle.theory.specs.declared.answer.Truth.{Truth}
use Rattle.theory.specs.Answers.{Answers, Atoms, wipe}
use Rattle.theory.specs.Rules.{Rules, Part, BodyTrue}
use Rattle.theory.specs.Steps.{Run, Ended}

pub record Book : Type 1 where
  pub rules : Rules
  pub Has : rules.Rule → Type 0
  pub Complete : ℕ → Type 0
  pub Closed : ℕ → Type 0
  pub complete_uncertain : (a : ℕ) → Complete a → rules.Certain a → ⊥
  -- bodies are finite
  pub body_or : (A : Answers) (r : rules.Rule) → Has r →
      BodyTrue rules A r ⊎ ((h : rules.Hypothesis) × rules.Uses r h × (rules.truth A h ≡ Truth.True → ⊥))

-- a level for each atom that passes refusals 9 to 11
pub record Layers (B : Book) : Type 0 where
  pub level : ℕ → ℕ
  -- 9
  pub lower : (r : B.rules.Rule) → B.Has r → (h : B.rules.Hypothesis) → B.rules.Uses r h → (a : ℕ) →
      B.rules.Reads h a → level a ≤ level (B.rules.head r)
  -- 10: to make undefined atoms of the head's own level false makes no hypothesis true
  pub positive : (r : B.rules.Rule) → B.Has r → B.rules.Certain (B.rules.head r) → (h : B.rules.Hypothesis) →
      B.rules.Uses r h → (U : Atoms) (A : Answers) →
      ((a : ℕ) → So (U a) → (level a ≡ level (B.rules.head r)) × (A a ≡ Truth.Undefined)) →
      B.rules.truth (wipe U A) h ≡ Truth.True → B.rules.truth A h ≡ Truth.True
  -- 11
  pub certain_only : (r : B.rules.Rule) → B.Has r → B.rules.Certain (B.rules.head r) →
      (h : B.rules.Hypothesis) → B.rules.Uses r h → (a : ℕ) → B.rules.Reads h a → B.rules.Certain a

-- the whole book as one part, certain atoms read as closed; no level is mentioned
abbrev pub whole : (B : Book) → Part B.rules
whole B = record { Has = B.Has; Complete = B.Complete; Closed = λ a. B.Closed a ⊎ B.rules.Certain a }

module _ (B : Book) (L : Layers B) where
  -- an uncertain level
  abbrev pub at_level : ℕ → Part B.rules
  at_level n = record {
    Has = λ r. B.Has r × (L.level (B.rules.head r) ≡ n);
    Complete = λ a. B.Complete a × (L.level a ≡ n);
    Closed = λ a. B.Closed a × (L.level a ≡ n);
  }

  -- a certain level, before it is closed: step (a) alone
  abbrev pub certain_level : ℕ → Part B.rules
  certain_level n = record {
    Has = λ r. B.Has r × (L.level (B.rules.head r) ≡ n);
    Complete = λ a. ⊥;
    Closed = λ a. ⊥;
  }

  -- the undefined atoms of level `n`, and the answers once they are false
  abbrev pub rest : ℕ → Answers → Atoms
  rest n A a = eqb (L.level a) n && is_undefined (A a)

  abbrev pub close : ℕ → Answers → Answers
  close n A = wipe (rest n A) A

  -- the answers after the levels below `n`, from the given ones
  pub data Levels (G : Answers) : ℕ → Answers → Type 0 where
    none : Levels G 0 G
    uncertain : {n : ℕ} {J K : Answers} → Levels G n J → ((a : ℕ) → L.level a ≡ n → B.rules.Certain a → ⊥) →
        Run B.rules (at_level n) J K → Ended B.rules (at_level n) K → Levels G (suc n) K
    certain : {n : ℕ} {J K : Answers} → Levels G n J → ((a : ℕ) → L.level a ≡ n → B.rules.Certain a) →
        Run B.rules (certain_level n) J K → Ended B.rules (certain_level n) K → Levels G (suc n) (close n K)

  -- the levels below `n` as one part
  abbrev pub under : ℕ → Part B.rules
  under n = record {
    Has = λ r. B.Has r × (L.level (B.rules.head r) < n);
    Complete = λ a. B.Complete a × (L.level a < n);
    Closed = λ a. (B.Closed a ⊎ B.rules.Certain a) × (L.level a < n);
  }

  -- every rule and every atom that a step may make false lies below level `n`
  pub record Under (n : ℕ) : Type 0 where
    pub rules : (r : B.rules.Rule) → B.Has r → L.level (B.rules.head r) < n
    pub completes : (a : ℕ) → B.Complete a → L.level a < n
    pub closeds : (a : ℕ) → B.Closed a ⊎ B.rules.Certain a → L.level a < n

  -- all levels worked through, from given answers, to these
  pub record Model (G J : Answers) : Type 0 where
    pub most : ℕ
    pub covers : Under most
    pub levels : Levels G most J
