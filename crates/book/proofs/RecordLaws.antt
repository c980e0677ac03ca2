-- Each record of a table is made of the numbers at its place in the book. Assumes nothing.
use mathlib.Core.Path.{◌≡◌, sym, ap, ap₂, ◌∙◌}
use mathlib.Core.List.{List}
use Prim.Native.Nat.{ℕ, ◌+◌, ◌*◌, ◌<◌}
use native.Mathlib.Omega.{arith}
use lib.IntN.{ℤ}
use lib.ListN.{get_or, drop}
use lib.Seq.{get_or-drop}
use Rattle.meaning.specs.Format.{atom_at, atom_count, body, comparison_at, comparison_count, count_of, element_at}
use Rattle.meaning.specs.Format.{element_count, hypothesis_at, hypothesis_count, i32_at, no_atom, no_comparison}
use Rattle.meaning.specs.Format.{no_element}
use Rattle.meaning.specs.Format.{no_hypothesis, no_predicate, no_rule, predicate_at, predicate_count, rule_at}
use Rattle.meaning.specs.Format.{rule_count}
use Rattle.meaning.specs.Format.{signed, tables, u16_at, u32_at, u8_at}
use Rattle.meaning.specs.declared.records.Predicate.{Predicate}
use Rattle.meaning.specs.declared.records.Atom.{Atom}
use Rattle.meaning.specs.declared.records.RuleRecord.{RuleRecord}
use Rattle.meaning.specs.declared.records.HypothesisRecord.{HypothesisRecord}
use Rattle.meaning.specs.declared.records.ComparisonRecord.{ComparisonRecord}
use Rattle.meaning.specs.declared.records.ElementRecord.{ElementRecord}
use Rattle.meaning.proofs.Bytes.{body_at}
use Rattle.book.specs.Framed.{Place}
use Rattle.book.specs.Records.{atom_in, comparison_in, element_in, hypothesis_in, predicate_in, rule_in}

-- numbers at a place, and from there on
module _ (b : List ℕ) (m : ℕ) where
  byte_from : (j : ℕ) → u8_at b (m + j) ≡ u8_at (drop m b) j
  byte_from j = sym (get_or-drop m b j 0)

  word_from : (j : ℕ) → u16_at b (m + j) ≡ u16_at (drop m b) j
  word_from j =
      let e : m + j + 1 ≡ m + (j + 1) = omega arith in
      ap₂ {C = ℕ} (λ (x y : ℕ). x + 256 * y) (byte_from j) (ap (u8_at b) e ∙ byte_from (j + 1))

  long_from : (j : ℕ) → u32_at b (m + j) ≡ u32_at (drop m b) j
  long_from j =
      let e : m + j + 2 ≡ m + (j + 2) = omega arith in
      ap₂ {C = ℕ} (λ (x y : ℕ). x + 65536 * y) (word_from j) (ap (u16_at b) e ∙ word_from (j + 2))

  -- the first byte of a record is at its place, and so is the first number
  byte_first : u8_at b m ≡ u8_at (drop m b) 0
  byte_first = let e : m ≡ m + 0 = omega arith in ap (u8_at b) e ∙ byte_from 0

  word_first : u16_at b m ≡ u16_at (drop m b) 0
  word_first = let e : m ≡ m + 0 = omega arith in ap (u16_at b) e ∙ word_from 0

-- the record that is read where record i stands
module _ {X : Type 0} (read : List ℕ → X) (d : X) (k : ℕ) where
  of_record : (b : List ℕ) (i at : ℕ) → Place b k i at → i < count_of b k →
      read (drop at b) ≡ get_or (body read b k) i d
  of_record b i at p l = ap (λ (m : ℕ). read (drop m b)) p.is ∙ sym (body_at read d b k i l)

module _ (b : List ℕ) (i at : ℕ) where
  pub predicate_read : (x y : ℕ) → Place b 0 i at → i < predicate_count b →
      x ≡ u8_at b at → y ≡ u8_at b (at + 1) →
      let r : Predicate = record { kind = x; level = y } in r ≡ predicate_in b i
  unfolding tables
  predicate_read x y p l e f =
      rw (e ∙ byte_first b at, f ∙ byte_from b at 1)
      (of_record predicate_at no_predicate 0 b i at p l)

  pub atom_read : (x y : ℕ) → Place b 1 i at → i < atom_count b →
      x ≡ u16_at b at → y ≡ u8_at b (at + 2) →
      let r : Atom = record { predicate = x; given = y } in r ≡ atom_in b i
  unfolding tables
  atom_read x y p l e f =
      rw (e ∙ word_first b at, f ∙ byte_from b at 2)
      (of_record atom_at no_atom 1 b i at p l)

  pub rule_read : (x y z : ℕ) → Place b 2 i at → i < rule_count b →
      x ≡ u16_at b at → y ≡ u16_at b (at + 2) → z ≡ u16_at b (at + 4) →
      let r : RuleRecord = record { head = x; first = y; many = z } in r ≡ rule_in b i
  unfolding tables
  rule_read x y z p l e f g =
      rw (e ∙ word_first b at, f ∙ word_from b at 2, g ∙ word_from b at 4)
      (of_record rule_at no_rule 2 b i at p l)

  pub hypothesis_read : (x y : ℕ) → Place b 3 i at → i < hypothesis_count b →
      x ≡ u8_at b at → y ≡ u16_at b (at + 1) →
      let r : HypothesisRecord = record { sort = x; index = y } in r ≡ hypothesis_in b i
  unfolding tables
  hypothesis_read x y p l e f =
      rw (e ∙ byte_first b at, f ∙ word_from b at 1)
      (of_record hypothesis_at no_hypothesis 3 b i at p l)

  pub comparison_read : (x y u v : ℕ) (z : ℤ) → Place b 4 i at → i < comparison_count b →
      x ≡ u8_at b at → y ≡ u8_at b (at + 1) → z ≡ i32_at b (at + 2) → u ≡ u16_at b (at + 6) → v ≡ u16_at b (at + 8) →
      let r : ComparisonRecord = record { aggregate = x; relation = y; bound = z; first = u; many = v } in
      r ≡ comparison_in b i
  unfolding tables
  comparison_read x y u v z p l e f g h j =
      rw (
        e ∙ byte_first b at,
        f ∙ byte_from b at 1,
        g ∙ ap signed (long_from b at 2),
        h ∙ word_from b at 6,
        j ∙ word_from b at 8,
      )
      (of_record comparison_at no_comparison 4 b i at p l)

  pub element_read : (x y : ℕ) (z : ℤ) → Place b 5 i at → i < element_count b →
      x ≡ u8_at b at → y ≡ u16_at b (at + 1) → z ≡ i32_at b (at + 3) →
      let r : ElementRecord = record { sign = x; atom = y; weight = z } in r ≡ element_in b i
  unfolding tables
  element_read x y z p l e f g =
      rw (e ∙ byte_first b at, f ∙ word_from b at 1, g ∙ ap signed (long_from b at 3))
      (of_record element_at no_element 5 b i at p l)

-- for the proof of each record's function
pub ruleset records = (predicate_read, atom_read, rule_read, hypothesis_read, comparison_read, element_read)
