-- A book as its rules and levels, and the answers that step (c) assumes. Assumes nothing.
use Rattle.std.specs.Prelude.{◌≡◌, List, ℕ, length}
use Rattle.theory.specs.declared.answer.Truth.{Truth}
use Rattle.theory.specs.Answers.{wipe}
use Rattle.meaning.specs.Format.{tables}
use Rattle.meaning.specs.Reading.{Reading, levels_of, reading}
use Rattle.meaning.specs.Model.{members_of, unfounded}
use Rattle.judge.specs.Held.{held}

-- its rules as read, and the level of each atom
abbrev pub rules_in : List ℕ → Reading
rules_in b = reading (tables b)

abbrev pub levels_in : List ℕ → List ℕ
levels_in b = levels_of (tables b)

-- W is A with the greatest unfounded set of level n counted as false
pub record Exact (b : List ℕ) (n : ℕ) (A W : List Truth) : Type 0 where
  pub long : length W ≡ 2048
  pub counted : (a : ℕ) → held W a ≡ wipe (members_of (unfounded (rules_in b) (levels_in b) n A)) (held A) a
