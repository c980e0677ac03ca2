-- The listing as the code makes it: what number 0 says of a book, and that either text is the book's. Assumes nothing.
use mathlib.Core.Path.{◌≡◌, refl, sym, ap, ◌∙◌}
use mathlib.Core.List.{List}
use mathlib.Core.Option.{Option, none, some}
use Prim.Native.Nat.{ℕ, ◌≤◌}
use native.Mathlib.Omega.{arith}
use lib.ListN.{length, take, length-replicate, replicate}
use borrow.Author.Tests.{eq-eqb, ne_eqb}
use Rattle.meaning.specs.Format.{atom_count, contents, start, tables}
use Rattle.meaning.specs.Refusal.{Refusal, packed, refusal, refusals}
use Rattle.meaning.specs.Demands.{Accepted}
use Rattle.meaning.specs.Outcome.{Outcome, outcome}
use Rattle.meaning.proofs.Absent.{none_each}
use Rattle.meaning.proofs.Bytes.{atoms_length}
use Rattle.meaning.proofs.Rooms.{refused, room_enough}
use Rattle.book.specs.Framed.{Framed}
use Rattle.checks.proofs.FrameLaws.{framed}
use Rattle.listing.specs.Text.{answers_text, listing_of, packed_text, room_length, text_of}
use Rattle.listing.proofs.TextLaws.{answers_taken}
use Rattle.listing.proofs.SmallLaws.{packed_some}
use Rattle.listing.proofs.RefusalLaws.{refusal_small}

-- the program's room before the entry is called
abbrev pub zeros : List ℕ
zeros = replicate room_length 0

pub zeros_long : length zeros ≡ room_length
zeros_long = length-replicate {A = ℕ} room_length 0

-- number 0 is returned for accepted books alone
pub number_accepted : (b : List ℕ) (n : ℕ) → n ≡ (outcome b zeros).number → n ≡ 0 → Accepted b room_length
number_accepted b n e z = go (refusal b room_length) refl
  where
    go : (o : Option Refusal) → refusal b room_length ≡ o → refusal b room_length ≡ none
    go none p = p
    go (some r) p =
        let q : (outcome b zeros).number ≡ packed r =
        ap (λ (o : Outcome). o.number) (refused b zeros r (ap (refusal b) zeros_long ∙ p)) in
        absurd (omega (arith, packed_some r (refusal_small b r p), q, e, z))

-- an accepted book has its contents, and no more atoms than the room has bytes
module _ (b : List ℕ) (e : Accepted b room_length) where
  accepted_framed : Framed b
  unfolding refusal
  accepted_framed =
      let t = tables b in
      let (r1, (r2, (r3, _))) = none_each (refusals b t room_length) e in
      framed b (sym r1) (sym r2) (sym r3)

  pub accepted_long : contents ≤ length b
  accepted_long = accepted_framed.long

  -- the largest book has so many bytes
  pub accepted_short : length b ≤ 64816
  unfolding start
  accepted_short =
      let few = accepted_framed.counts in
      omega (
        arith,
        accepted_framed.whole,
        few 0 (omega arith),
        few 1 (omega arith),
        few 2 (omega arith),
        few 3 (omega arith),
        few 4 (omega arith),
        few 5 (omega arith),
      )

  pub accepted_few : (n : ℕ) → n ≡ atom_count b → n ≤ room_length
  accepted_few n q = omega (arith, q, atoms_length b, room_enough b room_length e)

pub ruleset accepted = (accepted_long, accepted_few)

-- the text for what the entry returned and left, at either number
module _ (b : List ℕ) (n : ℕ) (e : n ≡ (outcome b zeros).number) where
  pub listed_answers : (room : List ℕ) (k : ℕ) → n ≡ 0 → room ≡ (outcome b zeros).room → k ≡ atom_count b →
      k ≤ length room → answers_text (length (take k room)) (take k room) ≡ listing_of b
  unfolding text_of listing_of
  listed_answers room k z q f l =
      answers_taken k room l ∙ rw (q, f, eq-eqb (outcome b zeros).number 0 (sym e ∙ z)) refl

  pub listed_refused : (n ≡ 0 → ⊥) → packed_text n ≡ listing_of b
  unfolding text_of listing_of
  listed_refused z = rw (e, ne_eqb (outcome b zeros).number 0 (λ y. z (e ∙ y))) refl

pub ruleset listed = (number_accepted, listed_answers, listed_refused)
