-- The answers of a book: its number and its room are those of the outcome. Assumes nothing.
use mathlib.Core.Path.{◌≡◌, sym, ap, ◌∙◌}
use mathlib.Core.Option.{none, some}
use mathlib.Core.List.{List}
use Prim.Native.Nat.{ℕ, ◌≤◌}
use native.Mathlib.Omega.{arith}
use lib.ListN.{length, length-take, take}
use lib.Seq.{length-take-le, take_all}
use Rattle.theory.specs.declared.answer.Truth.{Truth}
use Rattle.meaning.specs.Format.{atom_count}
use Rattle.meaning.specs.Refusal.{Refusal, packed, refusal}
use Rattle.meaning.specs.Outcome.{Outcome, model_of, outcome, written}
use Rattle.meaning.proofs.Bytes.{atoms_length}
use Rattle.meaning.proofs.Rooms.{accepted, refused, room_enough}

-- all 2,048 answers can be lent too: what is wrong with writing them is what they leave in the room
pub full_count : (A : List Truth) → length A ≡ 2048 → 2048 ≡ length (take 2048 A)
full_count A l = sym (length-take-le 2048 A (omega (arith, l)))

module _ (b room : List ℕ) where
  -- a book without refusal
  module _ (e : none ≡ refusal b (length room)) where
    pub passed_number : 0 ≡ (outcome b room).number
    passed_number = sym (ap (λ (o : Outcome). o.number) (accepted b room (sym e)))

    -- all its answers have room
    pub passed_room : (L : List ℕ) (A : List Truth) (k : ℕ) → L ≡ b → k ≡ atom_count L →
        take (atom_count L) A ≡ model_of L → written (take (length room) (take k A)) room ≡ (outcome b room).room
    passed_room L A k s q m =
        let p : k ≡ atom_count b = q ∙ ap atom_count s in
        let l : length (take k A) ≤ length room =
        omega (arith, length-take k A, p, atoms_length b, room_enough b (length room) (sym e)) in
        ap (λ (xs : List Truth). written xs room) (take_all (length room) (take k A) l ∙
        ap (λ (i : ℕ). take i A) q ∙ m ∙ ap model_of s) ∙
        sym (ap (λ (o : Outcome). o.room) (accepted b room (sym e)))

  -- one with a refusal
  module _ (r : Refusal) (e : some r ≡ refusal b (length room)) where
    pub refused_number : packed r ≡ (outcome b room).number
    refused_number = sym (ap (λ (o : Outcome). o.number) (refused b room r (sym e)))

    pub refused_room : room ≡ (outcome b room).room
    refused_room = sym (ap (λ (o : Outcome). o.room) (refused b room r (sym e)))

pub ruleset answering = (full_count, passed_number, passed_room, refused_number, refused_room)
