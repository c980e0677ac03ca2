-- The program's text is that of the book's refusal or of its model, and its contract admits no other. Assumes nothing.
use mathlib.Core.Path.{◌≡◌, refl, sym, ap, ap₂, ◌∙◌}
use mathlib.Core.List.{List, ◌++◌, map}
use mathlib.Core.Logic.{by_cases}
use mathlib.Core.Option.{Option, none, some}
use Prim.Native.Nat.{ℕ, ◌<◌}
use native.Mathlib.Decide.{dec_lt}
use native.Mathlib.Omega.{arith}
use lib.ListN.{length, drop, length-map, take, take-append-drop, get_or-append}
use lib.Seq.{take_all}
use contract.Lifetimes.{Lfts}
use borrow.Fn.Kinds.{ended_of}
use borrow.Fn.World.{ArgsD, ResD}
use denote.Triple.Clauses.{AtExit}
use borrow.Author.Tests.{ne_eqb}
use Rattle.std.specs.Counts.{IsPrefixLen}
use Rattle.meaning.specs.Format.{atom_count}
use Rattle.meaning.specs.Reading.{code_of}
use Rattle.meaning.specs.Refusal.{Refusal, packed, refusal}
use Rattle.meaning.specs.Demands.{Accepted}
use Rattle.meaning.specs.Outcome.{model_of, written}
use Rattle.meaning.proofs.Bytes.{atoms_length}
use Rattle.meaning.proofs.Demands.{model_length}
use Rattle.meaning.proofs.Longer.{longer}
use Rattle.meaning.proofs.Rooms.{accepted, refused}
use Rattle.listing.specs.Listing.{Listing}
use Rattle.listing.specs.Text.{answers_text, listing_of, read_most, refused_text, room_length, text_of}
use Rattle.listing.specs.contracts.list.list.{signature}
use Rattle.listing.proofs.list.list.Kinds as kinds
use Rattle.listing.proofs.list.list.Reads as reads
use Rattle.listing.specs.contracts.list.list_text as text
use Rattle.listing.proofs.list.list_text.Kinds as text_kinds
use Rattle.listing.proofs.list.list_text.Reads as text_reads
use Rattle.listing.proofs.TextLaws.{answers_same}
use Rattle.listing.proofs.ListingLaws.{accepted_short, zeros, zeros_long}
use Rattle.listing.proofs.SmallLaws.{number_below, packed_apart, packed_some}
use Rattle.listing.proofs.RefusalLaws.{refusal_small}

refused_text_lem : (b : List ℕ) (r : Refusal) → refusal b room_length ≡ some r →
    listing_of b ≡ refused_text r.number r.table r.row
unfolding text_of listing_of
refused_text_lem b r e =
    let S = refusal_small b r e in
    rw (refused b zeros r (ap (refusal b) zeros_long ∙ e), ne_eqb (packed r) 0 (λ z. omega (arith, packed_some r S, z)))
    (packed_apart r S)

answered_text : (b : List ℕ) → Accepted b room_length →
    listing_of b ≡ answers_text (atom_count b) (map code_of (model_of b))
unfolding text_of listing_of written
answered_text b e =
    let l : length (map code_of (model_of b)) ≡ atom_count b =
    length-map (model_of b) code_of ∙ model_length b room_length e ∙ atoms_length b in
    rw (accepted b zeros (ap (refusal b) zeros_long ∙ e))
    (answers_same (atom_count b) (written (model_of b) zeros) (map code_of (model_of b))
    (λ a m. get_or-append (map code_of (model_of b)) (drop (length (model_of b)) zeros) 0 a (omega (arith, m, l))))

-- an accepted book is no longer than the largest, and a longer one has the refusal of its start
pub longer_text : (b : List ℕ) → listing_of (take read_most b) ≡ listing_of b
longer_text b =
    by_cases (dec_lt 64816 (length b)) (λ l. go l (refusal b room_length) refl)
    (λ l. ap listing_of (take_all read_most b (omega (arith, l))))
  where
    go : 64816 < length b → (o : Option Refusal) → refusal b room_length ≡ o →
        listing_of (take read_most b) ≡ listing_of b
    go l none e = absurd (omega (arith, l, accepted_short b e))
    go l (some r) e = refused_text_lem (take read_most b) r (longer b room_length l ∙ e) ∙ sym (refused_text_lem b r e)

pub listing : Listing listing_of
listing = record {
  refused = refused_text_lem;
  answered = answered_text;
  enough = λ b r e. number_below r (refusal_small b r e);
  longer = longer_text;
}

-- what the contract of `list` says of a call: how many bytes of the text, and what the buffer holds afterwards
pub record Listed (b out after : List ℕ) (r : ℕ) : Type 0 where
  pub within : IsPrefixLen r after
  pub text : take r after ≡ listing_of b
  pub later : drop r after ≡ drop r out

pub promised : (κs : Lfts 2) (a : ArgsD signature κs) (r : ResD signature κs)
    (s : AtExit (ended_of 2 kinds.ps kinds.r) κs) →
    reads.Post κs a r s → Listed a.0.now a.1.0.now s.1.0.now r
promised κs a r s p = record { within = p.0; text = p.1.0; later = p.1.1 }

-- two calls that it admits, of one book, leave the same text, whatever their buffers held
pub listed_same : (b out after other left : List ℕ) (r s : ℕ) → Listed b out after r → Listed b other left s →
    (r ≡ s) × (take r after ≡ take s left)
listed_same b out after other left r s P Q =
    let same : take r after ≡ take s left = P.text ∙ sym Q.text in
    (P.within.1 ∙ ap length same ∙ sym Q.within.1, same)

-- and of one buffer write the same
pub listed_unique : (b out after other : List ℕ) (r s : ℕ) → Listed b out after r → Listed b out other s →
    (r ≡ s) × (after ≡ other)
listed_unique b out after other r s P Q = (same, whole)
  where
    same : r ≡ s
    same = (listed_same b out after out other r s P Q).0

    whole : after ≡ other
    whole =
        sym (take-append-drop r after) ∙
        ap₂ (λ (x y : List ℕ). x ++ y) (P.text ∙ sym Q.text)
        (P.later ∙ ap (λ (i : ℕ). drop i out) same ∙ sym Q.later) ∙
        take-append-drop s other

module _ (κs : Lfts 2) where
  -- what the contract of `list_text` says of a call: its text is the book's
  pub text_promised : (a : ArgsD text.signature κs) (r : ResD text.signature κs)
      (s : AtExit (ended_of 2 text_kinds.ps text_kinds.r) κs) → text_reads.Post κs a r s →
      s.1.0.now.bytes ≡ listing_of a.0.now
  text_promised a r s p = p

  -- two calls that it admits, of one book, leave the same text
  pub text_unique : (a other : ArgsD text.signature κs) (r q : ResD text.signature κs)
      (s t : AtExit (ended_of 2 text_kinds.ps text_kinds.r) κs) → a.0.now ≡ other.0.now →
      text_reads.Post κs a r s → text_reads.Post κs other q t → s.1.0.now.bytes ≡ t.1.0.now.bytes
  text_unique a other r q s t e first second =
      text_promised a r s first ∙ ap listing_of e ∙ sym (text_promised other q t second)
