-- What the entry returns, and what the answer room holds afterwards, for every book and every room. Document 01,
-- "Refusals and their order". Assumes nothing.
use Rattle.std.specs.Prelude.{ℕ, ◌≡◌, List, ◌++◌, map, length, drop}
use Rattle.std.proofs.Math.Option.{Option, none, some}
use Rattle.theory.specs.declared.answer.Truth.{Truth}
use Rattle.meaning.specs.Format.{tables}
use Rattle.meaning.specs.Reading.{code_of, given_of, levels_of, reading}
use Rattle.meaning.specs.Refusal.{Refusal, packed, refusal}
use Rattle.meaning.specs.Model.{model}

pub record Outcome : Type 0 where
  pub number : ℕ
  pub room : List ℕ

-- the model of a book's bytes
unfoldable pub model_of : List ℕ → List Truth
model_of b = let t = tables b in model (reading t) (levels_of t) (given_of t)

-- Acceptance writes 0 undefined, 1 true, 2 false at each atom's index; later bytes stay.
unfoldable pub written : List Truth → List ℕ → List ℕ
written A room = map code_of A ++ drop (length A) room

-- A refusal leaves the answer room unchanged.
unfoldable pub settle : Option Refusal → List ℕ → List ℕ → Outcome
settle none b room = record { number = 0; room = written (model_of b) room }
settle (some r) b room = record { number = packed r; room = room }

unfoldable pub outcome : List ℕ → List ℕ → Outcome
outcome b room = settle (refusal b (length room)) b room

-- a call of the entry: a book and an answer room; the number returned, and the room afterwards
pub record Call : Type 0 where
  pub book : List ℕ
  pub room : List ℕ
  pub number : ℕ
  pub after : List ℕ

-- what a call may do: it returns the outcome's number, and leaves the outcome's room
pub record Answered (c : Call) : Type 0 where
  pub returns : c.number ≡ (outcome c.book c.room).number
  pub leaves : c.after ≡ (outcome c.book c.room).room
