-- The rule book: numbers, the six tables, and the tables as lists of records. Document 01, "The rule book".
-- Assumes nothing.
use Rattle.std.specs.Prelude.{ℕ, zero, suc, ◌+◌, ◌-◌, ◌*◌, cond, List, [], ◌∷◌, ltb, ℤ, pos, negsuc, length}
use Rattle.std.specs.Prelude.{get_or, drop}
pub use Rattle.meaning.specs.declared.records.Predicate.{Predicate}
pub use Rattle.meaning.specs.declared.records.Atom.{Atom}
pub use Rattle.meaning.specs.declared.records.RuleRecord.{RuleRecord}
pub use Rattle.meaning.specs.declared.records.HypothesisRecord.{HypothesisRecord}
pub use Rattle.meaning.specs.declared.records.ComparisonRecord.{ComparisonRecord}
pub use Rattle.meaning.specs.declared.records.ElementRecord.{ElementRecord}

-- Numbers are little-endian. Past the end of the bytes there are zeros.
abbrev pub u8_at : List ℕ → ℕ → ℕ
u8_at b i = get_or b i 0

abbrev pub u16_at : List ℕ → ℕ → ℕ
u16_at b i = u8_at b i + 256 * u8_at b (i + 1)

abbrev pub u32_at : List ℕ → ℕ → ℕ
u32_at b i = u16_at b i + 65536 * u16_at b (i + 2)

-- two's complement
abbrev pub signed : ℕ → ℤ
signed n = cond (ltb n 2147483648) (pos n) (negsuc (4294967295 - n))

abbrev pub i32_at : List ℕ → ℕ → ℤ
i32_at b i = signed (u32_at b i)

-- The tables 1 to 6: bytes of a record, and most records. Table t stands at place t - 1.
abbrev pub sizes : List ℕ
sizes = 2 ∷ 3 ∷ 6 ∷ 3 ∷ 10 ∷ 7 ∷ []

abbrev pub limits : List ℕ
limits = 128 ∷ 2048 ∷ 2048 ∷ 4096 ∷ 512 ∷ 4096 ∷ []

-- The table of contents: six entries of 8 bytes, an offset and a count. Entries are numbered from 0.
unfoldable pub offset_of : List ℕ → ℕ → ℕ
offset_of b k = u32_at b (8 * k)

unfoldable pub count_of : List ℕ → ℕ → ℕ
count_of b k = u32_at b (8 * k + 4)

-- How many records each table has.
abbrev pub predicate_count : List ℕ → ℕ
predicate_count b = count_of b 0

abbrev pub atom_count : List ℕ → ℕ
atom_count b = count_of b 1

abbrev pub rule_count : List ℕ → ℕ
rule_count b = count_of b 2

abbrev pub hypothesis_count : List ℕ → ℕ
hypothesis_count b = count_of b 3

abbrev pub comparison_count : List ℕ → ℕ
comparison_count b = count_of b 4

abbrev pub element_count : List ℕ → ℕ
element_count b = count_of b 5

abbrev pub contents : ℕ
contents = 48

-- The first body starts at 48, each next one where the last ended, and the book ends with the last.
unfoldable pub start : List ℕ → ℕ → ℕ
start b zero = contents
start b (suc k) = start b k + get_or sizes k 0 * count_of b k

abbrev pub end : List ℕ → ℕ
end b = start b (length sizes)

-- what stands past the end of a table
abbrev pub no_predicate : Predicate
no_predicate = record { kind = 0; level = 0 }

abbrev pub no_atom : Atom
no_atom = record { predicate = 0; given = 0 }

abbrev pub no_rule : RuleRecord
no_rule = record { head = 0; first = 0; many = 0 }

abbrev pub no_hypothesis : HypothesisRecord
no_hypothesis = record { sort = 0; index = 0 }

abbrev pub no_comparison : ComparisonRecord
no_comparison = record { aggregate = 0; relation = 0; bound = pos 0; first = 0; many = 0 }

abbrev pub no_element : ElementRecord
no_element = record { sign = 0; atom = 0; weight = pos 0 }

-- a record at the start of some bytes
abbrev pub predicate_at : List ℕ → Predicate
predicate_at s = record { kind = u8_at s 0; level = u8_at s 1 }

abbrev pub atom_at : List ℕ → Atom
atom_at s = record { predicate = u16_at s 0; given = u8_at s 2 }

abbrev pub rule_at : List ℕ → RuleRecord
rule_at s = record { head = u16_at s 0; first = u16_at s 2; many = u16_at s 4 }

abbrev pub hypothesis_at : List ℕ → HypothesisRecord
hypothesis_at s = record { sort = u8_at s 0; index = u16_at s 1 }

abbrev pub comparison_at : List ℕ → ComparisonRecord
comparison_at s =
    record { aggregate = u8_at s 0; relation = u8_at s 1; bound = i32_at s 2; first = u16_at s 6; many = u16_at s 8 }

abbrev pub element_at : List ℕ → ElementRecord
element_at s = record { sign = u8_at s 0; atom = u16_at s 1; weight = i32_at s 3 }

-- n records of z bytes, one after the other
abbrev pub rows : {X : Type 0} → (List ℕ → X) → ℕ → ℕ → List ℕ → List X
rows read z zero s = []
rows read z (suc n) s = read s ∷ rows read z n (drop z s)

-- the records of the k-th body
unfoldable pub body : {X : Type 0} → (List ℕ → X) → List ℕ → ℕ → List X
body read b k = rows read (get_or sizes k 0) (count_of b k) (drop (start b k) b)

pub record Tables : Type 0 where
  pub predicates : List Predicate
  pub atoms : List Atom
  pub rules : List RuleRecord
  pub hypotheses : List HypothesisRecord
  pub comparisons : List ComparisonRecord
  pub elements : List ElementRecord

unfoldable pub tables : List ℕ → Tables
tables b = record {
  predicates = body predicate_at b 0;
  atoms = body atom_at b 1;
  rules = body rule_at b 2;
  hypotheses = body hypothesis_at b 3;
  comparisons = body comparison_at b 4;
  elements = body element_at b 5;
}
