-- Answers: one for each atom. Sets of atoms, and answers at which such a set counts as false. Assumes nothing.
use Rattle.std.specs.Prelude.{◌≡◌, Bool, cond, ℕ}
use Rattle.std.proofs.Math.Bool.{So}
use Rattle.theory.specs.Truth.{◌≼◌}
use Rattle.theory.specs.declared.answer.Truth.{Truth}

abbrev pub Answers : Type 0
Answers = ℕ → Truth

infix 40 ◌⊑◌
-- every answer that `A` decides is the same in `B`
abbrev pub ◌⊑◌ : Answers → Answers → Type 0
A ⊑ B = (a : ℕ) → A a ≼ B a

-- a set of atoms, by its test
abbrev pub Atoms : Type 0
Atoms = ℕ → Bool

-- `A` with the atoms of `U` counted as false
abbrev pub wipe : Atoms → Answers → Answers
wipe U A a = cond (U a) Truth.False (A a)

-- no member of `U` is true
abbrev pub NoneTrue : Atoms → Answers → Type 0
NoneTrue U A = (a : ℕ) → So (U a) → A a ≡ Truth.True → ⊥
