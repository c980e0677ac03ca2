-- What was read is the input, or as much of it as the listing needs. Assumes nothing.
use mathlib.Core.Path.{◌≡◌, sym, ap, subst, ◌∙◌}
use mathlib.Core.List.{List, [], ◌++◌, append-nil}
use mathlib.Core.Logic.{by_cases}
use Prim.Native.Nat.{ℕ, ◌<◌, ◌≤◌}
use native.Mathlib.Decide.{dec_lt}
use native.Mathlib.Omega.{arith}
use lib.ListN.{length, take}
use lib.Seq.{length-take-le, take_at}
use Rattle.std.proofs.Common.{Err, IfSome, None, Ok, OnOk, Option, Result, Some, is_ok}
use Rattle.std.specs.Io.KnownBytes.{Appends, Consumes, IsAtEnd}
use Rattle.listing.specs.Text.{listing_of, read_most}
use Rattle.listing.proofs.Listing.{longer_text}

-- n bytes, the most that are read or the whole input, have the text of the input
listed_start : (b rest start : List ℕ) (n : ℕ) → b ≡ start ++ rest → length start ≡ n → n ≤ read_most →
    (n < read_most → rest ≡ []) → listing_of start ≡ listing_of b
listed_start b rest start n e l m end = by_cases (dec_lt n read_most) (λ k. ap listing_of (sym (whole k))) cut
  where
    whole : n < read_most → b ≡ start
    whole k = e ∙ ap (λ (xs : List ℕ). start ++ xs) (end k) ∙ append-nil start

    cut : (n < read_most → ⊥) → listing_of start ≡ listing_of b
    cut k =
        let q : take read_most b ≡ start =
        ap (take read_most) e ∙ take_at start rest read_most (omega (arith, l, m, k)) in
        ap listing_of (sym q) ∙ longer_text b

-- so what a writer got for the bytes that were read, it got for the input
pub listed_input : (old new before after : Option (List ℕ)) (book : List ℕ) (n : ℕ) → length book ≡ read_most →
    n ≤ length book → Consumes old new (take n book) → (n < length book → IsAtEnd new) →
    Appends before after (listing_of (take n book)) → IfSome old (λ b. Appends before after (listing_of b))
listed_input None new before after book n l m p end a = tt
listed_input (Some b) None before after book n l m p end a = absurd p
listed_input (Some b) (Some rest) before after book n l m p end a =
    let none : n < read_most → rest ≡ [] = λ k. end (omega (arith, l, k)) in
    let same = listed_start b rest (take n book) n p (length-take-le n book m) (omega (arith, l, m)) none in
    subst (λ (xs : List ℕ). Appends before after xs) same a

-- where an error is mapped, what holds on Ok stays
pub mapped : {T E F P Q : Type 0} (r : Result T E) (s : Result T F) → is_ok s ≡ is_ok r → (P → Q) →
    OnOk r P → OnOk s Q
mapped (Ok x) (Ok y) e h p = h p
mapped (Ok x) (Err f) e h p = tt
mapped (Err d) (Ok y) e h p = grind arith
mapped (Err d) (Err f) e h p = tt
