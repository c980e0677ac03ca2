-- What the outcome leaves in the room: nothing new on refusal, an answer for each atom and every later byte on
-- acceptance. Assumes nothing.
use mathlib.Core.Path.{◌≡◌, ap, ◌∙◌}
use mathlib.Core.List.{List, map}
use mathlib.Core.Option.{some}
use Prim.Native.Nat.{ℕ, ◌+◌, ◌-◌, ◌≤◌}
use native.Mathlib.Omega.{arith}
use lib.ListN.{length, get_or, drop, length-append, length-drop, length-map, get_or-append}
use lib.Seq.{get_or-append-add, get_or-drop}
use borrow.Author.Tests.{ltb-false}
use Rattle.std.proofs.lemmas.List.{get_or-map}
use Rattle.theory.specs.declared.answer.Truth.{Truth}
use Rattle.meaning.specs.Format.{tables}
use Rattle.meaning.specs.Reading.{code_of}
use Rattle.meaning.specs.Refusal.{Refusal, packed, refusal, refusal12, refusals}
use Rattle.meaning.specs.Outcome.{model_of, outcome, settle, written}
use Rattle.meaning.specs.Demands.{Accepted, Filled}
use Rattle.meaning.proofs.Absent.{none_each, none_if}

-- a room that is long enough
pub written_fills : (A : List Truth) (room : List ℕ) → length A ≤ length room → Filled A room (written A room)
unfolding written
written_fills A room l = record {
  long = length-append (map code_of A) (drop (length A) room) ∙ rest;
  answer = λ a k. get_or-append (map code_of A) (drop (length A) room) 0 a (omega (arith, k, length-map A code_of)) ∙
      get_or-map code_of A a Truth.Undefined 0 k;
  later = λ i k. after i (omega (arith, k));
}
  where
    rest : length (map code_of A) + length (drop (length A) room) ≡ length room
    rest = omega (arith, length-map A code_of, length-drop (length A) room, l)

    after : (i : ℕ) → length A ≤ i → get_or (written A room) i 0 ≡ get_or room i 0
    after i k =
        let j : ℕ = i - length A in
        let p : i ≡ length (map code_of A) + j = omega (arith, k, length-map A code_of) in
        let q : length A + j ≡ i = omega (arith, k) in
        ap (λ (m : ℕ). get_or (written A room) m 0) p ∙ get_or-append-add (map code_of A) (drop (length A) room) j 0 ∙
        get_or-drop (length A) room j 0 ∙ ap (λ (m : ℕ). get_or room m 0) q

-- the room of an accepted book has place for every atom
pub room_enough : (b : List ℕ) (room : ℕ) → Accepted b room → length (tables b).atoms ≤ room
unfolding refusal refusal12
room_enough b room e =
    let t = tables b in
    let (_, (_, (_, (_, (_, (_, (_, (_, (_, (_, (_, (r12, _)))))))))))) =
    none_each (refusals b t room) e in
    ltb-false room (length t.atoms) (none_if 12 _ r12)

-- a refused book leaves the room as it was
pub refused : (b room : List ℕ) (r : Refusal) → refusal b (length room) ≡ some r →
    outcome b room ≡ record { number = packed r; room = room }
unfolding outcome settle
refused b room r e = rw e

-- an accepted one leaves the model's answers there
pub accepted : (b room : List ℕ) → Accepted b (length room) →
    outcome b room ≡ record { number = 0; room = written (model_of b) room }
unfolding outcome settle
accepted b room e = rw e
