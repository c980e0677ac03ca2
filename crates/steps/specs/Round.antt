-- What the loops of a round gather, for each atom still to be decided the truth of the rules that conclude it, and
-- what the round leaves. Assumes nothing.
use Rattle.std.specs.Prelude.{◌≡◌, cond, ◌&&◌, ◌||◌, List, ℕ, zero, suc, ◌<◌, eqb, leb, length, get_or, take}
use Rattle.std.specs.Prelude.{Option, Some, None}
use Rattle.theory.specs.Truth.{is_false, is_true}
use Rattle.theory.specs.declared.answer.Truth.{Truth}
use Rattle.meaning.specs.Format.{atom_count}
use Rattle.meaning.specs.Truth.{body_truth}
use Rattle.meaning.specs.Model.{answers_of, derived, refuted, round}
use Rattle.book.specs.Records.{rule_in, rule_read}
use Rattle.judge.specs.Held.{held}
use Rattle.steps.specs.Work.{levels_in, rules_in}

-- one of two is true, or both are false
abbrev pub join : Truth → Truth → Truth
join Truth.Undefined y = cond (is_true y) Truth.True Truth.Undefined
join Truth.True y = Truth.True
join Truth.False y = y

-- the body of rule r
abbrev pub body_in : List ℕ → List Truth → ℕ → Truth
body_in b A r = body_truth (held A) (rule_read b r).body

-- the first k rules that conclude a: true if one body is true, false if all are false
unfoldable pub head_truth : List ℕ → List Truth → ℕ → ℕ → Truth
head_truth b A a zero = Truth.False
head_truth b A a (suc k) =
    cond (eqb (rule_in b k).head a) (join (head_truth b A a k) (body_in b A k)) (head_truth b A a k)

-- what has been gathered from the first k rules for the atoms to which a step is due
pub record Gathered (b : List ℕ) (A : List Truth) (D : List ℕ) (best : List Truth) (k : ℕ) : Type 0 where
  pub long : length best ≡ 2048
  pub truths : (a : ℕ) → a < atom_count b → (get_or D a 0 ≡ 0 → ⊥) → get_or best a Truth.Undefined ≡ head_truth b A a k

-- the same for all rules, in the words of steps (a) and (b)
pub record Judged (b : List ℕ) (A : List Truth) (D : List ℕ) (best : List Truth) : Type 0 where
  pub rises : (a : ℕ) → a < atom_count b → (get_or D a 0 ≡ 0 → ⊥) →
      is_true (get_or best a Truth.Undefined) ≡ derived (rules_in b) (answers_of A) a
  pub sinks : (a : ℕ) → a < atom_count b → (get_or D a 0 ≡ 0 → ⊥) →
      is_false (get_or best a Truth.Undefined) ≡ refuted (rules_in b) (answers_of A) a

-- what an atom gets: due the number of steps that may decide it, x its answer, best the truth of its rules, assumed
-- its answer once the unfounded set counts as false
unfoldable pub next_truth : ℕ → Truth → Truth → Truth → Truth
next_truth due x best assumed =
    cond (eqb due 0) x
    (cond (is_true best) Truth.True
    (cond (leb 2 due && is_false best || is_false assumed) Truth.False Truth.Undefined))

-- what it gets from these lists
abbrev pub next_of : List Truth → List ℕ → List Truth → List Truth → ℕ → Truth
next_of A D best W a = next_truth (get_or D a 0) (held A a) (get_or best a Truth.Undefined) (held W a)

-- the next answers, one of which differs from before
pub record Moved (A : List Truth) (D : List ℕ) (best W now : List Truth) : Type 0 where
  pub long : length now ≡ 2048
  pub answers : (a : ℕ) → a < length A → held now a ≡ next_of A D best W a
  pub differs : (a : ℕ) × (a < length A) × (next_of A D best W a ≡ held A a → ⊥)

-- none if each atom keeps its answer
abbrev pub Settled : List Truth → List ℕ → List Truth → List Truth → Option (List Truth) → Type 0
Settled A D best W None = (a : ℕ) → a < length A → next_of A D best W a ≡ held A a
Settled A D best W (Some now) = Moved A D best W now

-- the answers after a round, which changes one
pub record Turned (b : List ℕ) (n : ℕ) (A after : List Truth) : Type 0 where
  pub long : length after ≡ 2048
  pub is : take (atom_count b) after ≡ round (rules_in b) (levels_in b) n A
  pub moves : round (rules_in b) (levels_in b) n A ≡ A → ⊥

-- none if the model's round at the answers A changes nothing
abbrev pub Turn : List ℕ → ℕ → List Truth → Option (List Truth) → Type 0
Turn b n A None = round (rules_in b) (levels_in b) n A ≡ A
Turn b n A (Some after) = Turned b n A after
