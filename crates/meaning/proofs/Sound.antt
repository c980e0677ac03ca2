-- What acceptance comes to for rules as read, levels and given answers: plain facts, on which everything above rests.
-- Assumes nothing.
use mathlib.Core.Path.{◌≡◌}
use mathlib.Core.Bool.{So}
use mathlib.Core.List.{List}
use Prim.Native.Nat.{ℕ, ◌<◌, ◌≤◌}
use lib.ListN.{length}
use Rattle.laws.specs.Lists.{In}
use Rattle.theory.specs.declared.answer.Truth.{Truth}
use Rattle.meaning.specs.Reading.{Reading, Rule, kind_at, level_at, level_count}
use Rattle.meaning.specs.declared.codes.Kind.{Kind}
use Rattle.meaning.specs.Refusal.{Use, uses}
use Rattle.meaning.specs.Model.{answers_of}
use Rattle.meaning.proofs.Worked.{Pure}

pub record Sound (R : Reading) (levels : List ℕ) (given : List Truth) : Type 0 where
  -- a kind, a level and a given answer for each atom
  pub of_kinds : length R.kinds ≡ length levels
  pub of_given : length given ≡ length levels
  -- 4 and 5: levels are below 128, rules speak of atoms that are there
  pub low : (a : ℕ) → a < length levels → level_at levels a < level_count
  pub head_in : (r : Rule) → In r R.rules → r.head < length levels
  pub use_in : (r : Rule) → In r R.rules → (u : Use) → In u (uses r) → u.atom < length levels
  -- 7: what is given is given to open atoms that no rule concludes
  pub given_open : (a : ℕ) → (answers_of given a ≡ Truth.Undefined → ⊥) → kind_at R.kinds a ≡ Kind.Open
  pub given_free : (a : ℕ) → (answers_of given a ≡ Truth.Undefined → ⊥) → (r : Rule) → In r R.rules → r.head ≡ a → ⊥
  -- 8: no level mixes certain atoms with others
  pub pure : Pure R levels of_kinds
  -- 9: a rule uses no atom of a higher level than its head's
  pub lower : (r : Rule) → In r R.rules → (u : Use) → In u (uses r) →
      level_at levels u.atom ≤ level_at levels r.head
  -- 10: a rule for a certain atom uses atoms of its own level positively
  pub positive : (r : Rule) → In r R.rules → kind_at R.kinds r.head ≡ Kind.Certain → (u : Use) → In u (uses r) →
      level_at levels r.head ≡ level_at levels u.atom → So u.positive
  -- 11: and certain atoms alone
  pub certain_only : (r : Rule) → In r R.rules → kind_at R.kinds r.head ≡ Kind.Certain → (u : Use) →
      In u (uses r) → kind_at R.kinds u.atom ≡ Kind.Certain
