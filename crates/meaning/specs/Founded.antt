-- The model as a person reads document 01, "The model": runs of steps (a), (b), (c) in any order and grouping until
-- none adds anything, levels upward, certain levels closed at their end. Nothing here is worked out. Assumes nothing.
use Rattle.std.specs.Prelude.{ℕ, suc, ◌≡◌, ◌⊎◌, ◌&&◌, List, eqb, length}
use Rattle.std.proofs.Math.Bool.{So}
use Rattle.laws.specs.Lists.{In}
use Rattle.theory.specs.Truth.{is_undefined}
use Rattle.theory.specs.declared.answer.Truth.{Truth}
use Rattle.theory.specs.Answers.{Answers, Atoms, ◌⊑◌, wipe}
use Rattle.meaning.specs.Reading.{Comparison, Hypothesis, Reading, Rule, kind_at, level_at}
use Rattle.meaning.specs.declared.codes.Literal.{Literal}
use Rattle.meaning.specs.declared.codes.Kind.{Kind}
use Rattle.meaning.specs.Reading.{level_count}
use Rattle.meaning.specs.Truth.{comparison_truth, hypothesis_truth}
use Rattle.meaning.specs.Model.{answers_of}

-- A rule body is true when all hypotheses are true and false when one is false.
abbrev pub BodyTrue : Answers → Rule → Type 0
BodyTrue A r = (h : Hypothesis) → In h r.body → hypothesis_truth A h ≡ Truth.True

abbrev pub BodyFalse : Answers → Rule → Type 0
BodyFalse A r = (h : Hypothesis) × In h r.body × (hypothesis_truth A h ≡ Truth.False)

-- a hypothesis that is already false, or is a plain atom in U, or is a comparison that is false once U's atoms count
-- as false
pub data Fails (U : Atoms) (A : Answers) : Hypothesis → Type 0 where
  already : {h : Hypothesis} → hypothesis_truth A h ≡ Truth.False → Fails U A h
  inside : {a : ℕ} → So (U a) → Fails U A (Hypothesis.literal (Literal.Plain a))
  counted : {c : Comparison} → comparison_truth (wipe U A) c ≡ Truth.False → Fails U A (Hypothesis.comparison c)

-- runs of steps of some sort
pub data Run (Step : Answers → Answers → Type 0) (A : Answers) : Answers → Type 0 where
  start : Run Step A A
  next : {B C : Answers} → Run Step A B → Step B C → Run Step A C

-- complete or closed
abbrev pub Complete : Kind → Type 0
Complete k = (k ≡ Kind.Complete) ⊎ (k ≡ Kind.Closed)

module _ (R : Reading) where
  -- (a) heads of true bodies
  abbrev pub Derived : Answers → ℕ → Type 0
  Derived A a = (r : Rule) × In r R.rules × (r.head ≡ a) × BodyTrue A r

  -- (b) each rule concluding the atom has a false body; it may have no rule at all
  abbrev pub Refuted : Answers → ℕ → Type 0
  Refuted A a = (r : Rule) → In r R.rules → r.head ≡ a → BodyFalse A r

module _ (R : Reading) (levels : List ℕ) (n : ℕ) where
  -- a set of closed atoms of the level, none true, each rule concluding a member with a hypothesis that fails
  pub record Unfounded (U : Atoms) (A : Answers) : Type 0 where
    pub closed : (a : ℕ) → So (U a) → (kind_at R.kinds a ≡ Kind.Closed) × (level_at levels a ≡ n)
    pub none_true : (a : ℕ) → So (U a) → A a ≡ Truth.True → ⊥
    pub fails : (r : Rule) → In r R.rules → So (U r.head) → (h : Hypothesis) × In h r.body × Fails U A h

  -- (c) a member of the greatest unfounded set, which is the union of all
  abbrev pub Unsupported : Answers → ℕ → Type 0
  Unsupported A a = (U : Atoms) × Unfounded U A × So (U a)

  -- any of (a), (b), (c), at any atoms of the level at once
  pub record Step (A B : Answers) : Type 0 where
    pub keeps : A ⊑ B
    pub new_true : (a : ℕ) → B a ≡ Truth.True → (A a ≡ Truth.True) ⊎ ((level_at levels a ≡ n) × Derived R A a)
    pub new_false : (a : ℕ) → B a ≡ Truth.False → (A a ≡ Truth.False)
        ⊎ ((level_at levels a ≡ n) × Complete (kind_at R.kinds a) × Refuted R A a)
        ⊎ Unsupported A a

  -- none of the three adds anything
  pub record Ended (A : Answers) : Type 0 where
    pub no_true : (a : ℕ) → A a ≡ Truth.Undefined → level_at levels a ≡ n → Derived R A a → ⊥
    pub no_false : (a : ℕ) → A a ≡ Truth.Undefined → level_at levels a ≡ n → Complete (kind_at R.kinds a) →
        Refuted R A a → ⊥
    pub no_unfounded : (a : ℕ) → A a ≡ Truth.Undefined → Unsupported A a → ⊥

  -- a certain level: (a) alone
  pub record CertainStep (A B : Answers) : Type 0 where
    pub keeps : A ⊑ B
    pub new_true : (a : ℕ) → B a ≡ Truth.True → (A a ≡ Truth.True) ⊎ ((level_at levels a ≡ n) × Derived R A a)
    pub no_false : (a : ℕ) → B a ≡ Truth.False → A a ≡ Truth.False

  pub record CertainEnded (A : Answers) : Type 0 where
    pub no_true : (a : ℕ) → A a ≡ Truth.Undefined → level_at levels a ≡ n → Derived R A a → ⊥

  -- all its other atoms become false
  abbrev pub closed : Answers → Answers
  closed A = wipe (λ a. eqb (level_at levels a) n && is_undefined (A a)) A

  abbrev pub AllCertain : Type 0
  AllCertain = (a : ℕ) → level_at levels a ≡ n → kind_at R.kinds a ≡ Kind.Certain

  abbrev pub NoneCertain : Type 0
  NoneCertain = (a : ℕ) → level_at levels a ≡ n → kind_at R.kinds a ≡ Kind.Certain → ⊥

module _ (R : Reading) (levels : List ℕ) where
  -- the answers after the levels below n, from the given ones
  pub data Levels (G : Answers) : ℕ → Answers → Type 0 where
    none : Levels G 0 G
    certain : {n : ℕ} {A B : Answers} → Levels G n A → AllCertain R levels n → Run (CertainStep R levels n) A B →
        CertainEnded R levels n B → Levels G (suc n) (closed R levels n B)
    uncertain : {n : ℕ} {A B : Answers} → Levels G n A → NoneCertain R levels n → Run (Step R levels n) A B →
        Ended R levels n B → Levels G (suc n) B

  -- an answer for each atom, all levels worked through
  pub record Founded (given answers : List Truth) : Type 0 where
    pub long : length answers ≡ length given
    pub worked : Levels (answers_of given) level_count (answers_of answers)
