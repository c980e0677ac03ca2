-- Every refusal that the program meets is small: the tables are within their limits where a record is named, and the
-- room is long enough. Assumes nothing.
use mathlib.Core.Path.{◌≡◌, refl, sym, ◌∙◌}
use mathlib.Core.Bool.{not}
use mathlib.Core.List.{List, [], ◌∷◌}
use mathlib.Core.Option.{Option, none, some}
use Prim.Native.Nat.{ℕ, ◌≤◌}
use native.Mathlib.Omega.{arith}
use lib.Dec.{eqb, ltb}
use lib.ListN.{length, length-map}
use borrow.Author.Tests.{le-ltb}
use Rattle.meaning.specs.Format.{Tables, contents, end, limits, sizes, tables}
use Rattle.meaning.specs.Reading.{levels_of, reading, rule_of}
use Rattle.meaning.specs.Refusal.{Refusal, astray, first_of, frame_refusals, misplaced, refusal, refusal1, refusal10}
use Rattle.meaning.specs.Refusal.{refusal11, refusal12, refusal2, refusal3, refusal4, refusal5, refusal6, refusal7}
use Rattle.meaning.specs.Refusal.{refusal8, refusal9, stray, too_many, unlisted}
use Rattle.meaning.proofs.Bytes.{atoms_length}
use Rattle.book.specs.Framed.{Framed}
use Rattle.book.proofs.Counts.{comparisons_length, elements_length, hypotheses_length, predicates_length, rules_length}
use Rattle.checks.proofs.CheckLaws.{passed_framed}
use Rattle.meaning.proofs.Absent.{first_append, first_found}
use Rattle.listing.specs.Text.{room_length}
use Rattle.listing.proofs.SmallLaws.{AllSmall, Small, Smalls, ◌and◌, first_small, if_small, lowest_small, nil}
use Rattle.listing.proofs.SmallLaws.{none_small, table_small}

-- refusals 1 to 3
frame_small : (b : List ℕ) → Smalls (frame_refusals b)
unfolding refusal1 refusal2 refusal3
frame_small b =
    if_small 1 (ltb (length b) contents) refl
    and table_small 2 (too_many b) limits refl (omega arith)
    and first_small (misplaced b)
    (table_small 3 (astray b) sizes refl (omega arith)
    and if_small 3 (not (eqb (length b) (end b))) refl
    and nil)
    and nil

-- refusals 4 to 12, once the tables are within their limits
abbrev later : List ℕ → ℕ → List (Option Refusal)
later b room =
    let t = tables b in
    refusal4 t
    ∷ refusal5 t
    ∷ refusal6 t
    ∷ refusal7 (reading t) t.atoms
    ∷ refusal8 t.predicates
    ∷ refusal9 (reading t).rules (levels_of t)
    ∷ refusal10 (reading t) (levels_of t)
    ∷ refusal11 (reading t)
    ∷ refusal12 t room
    ∷ []

module _ (b : List ℕ) (F : Framed b) where
  abbrev t : Tables
  t = tables b

  predicates_few : length t.predicates ≤ 4096
  predicates_few = omega (arith, predicates_length b, F.counts 0 (omega arith))

  atoms_few : length t.atoms ≤ 4096
  atoms_few = omega (arith, atoms_length b, F.counts 1 (omega arith))

  rules_few : length t.rules ≤ 4096
  rules_few = omega (arith, rules_length b, F.counts 2 (omega arith))

  hypotheses_few : length t.hypotheses ≤ 4096
  hypotheses_few = omega (arith, hypotheses_length b, F.counts 3 (omega arith))

  comparisons_few : length t.comparisons ≤ 4096
  comparisons_few = omega (arith, comparisons_length b, F.counts 4 (omega arith))

  elements_few : length t.elements ≤ 4096
  elements_few = omega (arith, elements_length b, F.counts 5 (omega arith))

  read_few : length (reading t).rules ≤ 4096
  unfolding reading
  read_few = omega (arith, length-map t.rules (rule_of t), rules_few)

  unlisted_small : AllSmall (refusal4 t)
  unfolding refusal4
  unlisted_small =
      first_small (unlisted t)
      (lowest_small 4 1 _ _ refl predicates_few
      and lowest_small 4 2 _ _ refl atoms_few
      and lowest_small 4 4 _ _ refl hypotheses_few
      and lowest_small 4 5 _ _ refl comparisons_few
      and lowest_small 4 6 _ _ refl elements_few
      and nil)

  stray_small : AllSmall (refusal5 t)
  unfolding refusal5
  stray_small =
      first_small (stray t)
      (lowest_small 5 2 _ _ refl atoms_few
      and lowest_small 5 3 _ _ refl rules_few
      and lowest_small 5 4 _ _ refl hypotheses_few
      and lowest_small 5 5 _ _ refl comparisons_few
      and lowest_small 5 6 _ _ refl elements_few
      and nil)

  enough_small : AllSmall (refusal12 t room_length)
  unfolding refusal12
  enough_small =
      let l : length t.atoms ≤ room_length = omega (arith, atoms_length b, F.counts 1 (omega arith)) in
      rw (le-ltb room_length (length t.atoms) l) none_small

  later_small : Smalls (later b room_length)
  unfolding refusal6 refusal7 refusal8 refusal9 refusal10 refusal11
  later_small =
      unlisted_small
      and stray_small
      and lowest_small 6 5 _ _ refl comparisons_few
      and lowest_small 7 2 _ _ refl atoms_few
      and lowest_small 8 1 _ _ refl predicates_few
      and lowest_small 9 3 _ _ refl read_few
      and lowest_small 10 3 _ _ refl read_few
      and lowest_small 11 3 _ _ refl read_few
      and enough_small
      and nil

pub refusal_small : (b : List ℕ) (r : Refusal) → refusal b room_length ≡ some r → Small r
unfolding refusal
refusal_small b r e = go (first_of (frame_refusals b)) refl
  where
    go : (o : Option Refusal) → first_of (frame_refusals b) ≡ o → Small r
    go none p =
        (first_small (later b room_length)
        (later_small b (passed_framed b (first_of (frame_refusals b)) refl p))).each r
        (sym (first_append (frame_refusals b) (later b room_length) p) ∙ e)
    go (some s) p =
        (first_small (frame_refusals b) (frame_small b)).each r
        (p ∙ sym (first_found (frame_refusals b) (later b room_length) s p) ∙ e)
