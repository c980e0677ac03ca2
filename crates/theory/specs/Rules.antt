-- Rules without their content: a hypothesis has a truth at answers and reads some atoms, and knowing more of those
-- never takes its truth back. A part of the rules is what is worked on at one time. Assumes nothing.
use Rattle.std.specs.Prelude.{◌≡◌, ℕ}
use Rattle.theory.specs.Truth.{◌≼◌}
use Rattle.theory.specs.declared.answer.Truth.{Truth}
use Rattle.theory.specs.Answers.{Answers}

pub record Rules : Type 1 where
  pub Rule : Type 0
  pub Hypothesis : Type 0
  pub truth : Answers → Hypothesis → Truth
  pub Reads : Hypothesis → ℕ → Type 0
  pub truth_local : (A B : Answers) (h : Hypothesis) → ((a : ℕ) → Reads h a → A a ≼ B a) → truth A h ≼ truth B h
  pub head : Rule → ℕ
  pub Uses : Rule → Hypothesis → Type 0
  pub Certain : ℕ → Type 0

-- the rules of a part, the atoms that step (b) may make false, and those that step (c) may
pub record Part (R : Rules) : Type 1 where
  pub Has : R.Rule → Type 0
  pub Complete : ℕ → Type 0
  pub Closed : ℕ → Type 0

module _ (R : Rules) where
  abbrev pub BodyTrue : Answers → R.Rule → Type 0
  BodyTrue A r = (h : R.Hypothesis) → R.Uses r h → R.truth A h ≡ Truth.True

  abbrev pub BodyFalse : Answers → R.Rule → Type 0
  BodyFalse A r = (h : R.Hypothesis) × R.Uses r h × (R.truth A h ≡ Truth.False)

  -- a true body of the part concludes `a`
  abbrev pub Derived : Part R → Answers → ℕ → Type 0
  Derived P A a = (r : R.Rule) × P.Has r × (R.head r ≡ a) × BodyTrue A r

  -- each rule of the part that concludes `a` has a false body
  abbrev pub Refuted : Part R → Answers → ℕ → Type 0
  Refuted P A a = (r : R.Rule) → P.Has r → R.head r ≡ a → BodyFalse A r
