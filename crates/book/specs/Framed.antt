-- What the absence of refusals 1 to 3 comes to, the tables stand where they should, within their limits; and that of 5,
-- every index is in its table. Assumes nothing.
use Rattle.std.specs.Prelude.{◌≡◌, cond, List, ℕ, ◌+◌, ◌*◌, ◌<◌, ◌≤◌, ltb, length, get_or}
use Rattle.meaning.specs.Format.{atom_count, comparison_count, contents, count_of, element_count, end, hypothesis_count}
use Rattle.meaning.specs.Format.{limits, offset_of, predicate_count, rule_count, sizes, start}
use Rattle.book.specs.Records.{atom_in, comparison_in, element_in, hypothesis_in, rule_in}

-- the contents are there, the counts within their limits, each body starts where the one before ends, and the last ends
-- the book
pub record Framed (b : List ℕ) : Type 0 where
  pub long : contents ≤ length b
  pub counts : (k : ℕ) → k < 6 → count_of b k ≤ get_or limits k 0
  pub offsets : (k : ℕ) → k < 6 → offset_of b k ≡ start b k
  pub whole : length b ≡ end b

-- where record i of the k-th body stands, all its bytes within the book
pub record Place (b : List ℕ) (k i at : ℕ) : Type 0 where
  pub is : at ≡ start b k + get_or sizes k 0 * i
  pub fits : at + get_or sizes k 0 ≤ length b

-- what the absence of refusal 5 comes to: every index is in its table, every range ends in it
pub record Indexed (b : List ℕ) : Type 0 where
  pub atom : (a : ℕ) → a < atom_count b → (atom_in b a).predicate < predicate_count b
  pub head : (r : ℕ) → r < rule_count b → (rule_in b r).head < atom_count b
  pub rule : (r : ℕ) → r < rule_count b → (rule_in b r).first + (rule_in b r).many ≤ hypothesis_count b
  pub hypothesis : (h : ℕ) → h < hypothesis_count b →
      (hypothesis_in b h).index < cond (ltb (hypothesis_in b h).sort 2) (atom_count b) (comparison_count b)
  pub comparison : (c : ℕ) → c < comparison_count b →
      (comparison_in b c).first + (comparison_in b c).many ≤ element_count b
  pub element : (e : ℕ) → e < element_count b → (element_in b e).atom < atom_count b

-- a book that can be worked on: both
pub record Ready (b : List ℕ) : Type 0 where
  pub framed : Framed b
  pub indexed : Indexed b
