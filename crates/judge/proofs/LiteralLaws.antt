-- The literal that a hypothesis is about, or its comparison: each within its table, and with the truth of its record.
-- Assumes nothing.
use mathlib.Core.Path.{◌≡◌, refl}
use mathlib.Core.Bool.{cond}
use mathlib.Core.List.{List}
use Prim.Native.Nat.{ℕ, zero, suc, ◌<◌, ◌≤◌}
use native.Mathlib.Omega.{arith}
use lib.Dec.{ltb}
use lib.ListN.{length}
use borrow.Author.Tests.{le-ltb}
use Rattle.std.specs.declared.option.Option.TheVariants.{None, Some}
use Rattle.theory.specs.declared.answer.Truth.{Truth}
use Rattle.theory.specs.Answers.{Answers}
use Rattle.meaning.specs.Format.{atom_count, comparison_count, hypothesis_count}
use Rattle.meaning.specs.Reading.{atom_of, literal_in, sort_of}
use Rattle.meaning.specs.Truth.{literal_truth}
use Rattle.meaning.specs.declared.codes.Literal.{Literal}
use Rattle.meaning.specs.declared.records.HypothesisRecord.{HypothesisRecord}
use Rattle.book.specs.Framed.{Indexed}
use Rattle.book.specs.Records.{hypothesis_in}
use Rattle.judge.specs.Held.{record_truth, sort_truth}

-- by the sort s and the index i, of n atoms and m comparisons
atom_below : (s i n m : ℕ) (l : Literal) → literal_in s i ≡ Some l → i < cond (ltb s 2) n m → atom_of l < n
atom_below zero i n m l e k = let q : Literal.Plain i ≡ l = cc in rw (← q) k
atom_below (suc zero) i n m l e k = let q : Literal.Negated i ≡ l = cc in rw (← q) k
atom_below (suc (suc s)) i n m l e k = absurd cc

comparison_below : (s i n m : ℕ) → literal_in s i ≡ None → i < cond (ltb s 2) n m → i < m
comparison_below zero i n m e k = absurd cc
comparison_below (suc zero) i n m e k = absurd cc
comparison_below (suc (suc s)) i n m e k = rw (le-ltb (suc (suc s)) 2 (omega arith)) at k

literal_sort : (A K : Answers) (s i : ℕ) (l : Literal) → literal_in s i ≡ Some l →
    literal_truth A l ≡ sort_truth A K (sort_of s) i
unfolding literal_truth
literal_sort A K zero i l e = let q : Literal.Plain i ≡ l = cc in rw (← q) refl
literal_sort A K (suc zero) i l e = let q : Literal.Negated i ≡ l = cc in rw (← q) refl
literal_sort A K (suc (suc s)) i l e = absurd cc

comparison_sort : (A K : Answers) (s i : ℕ) → literal_in s i ≡ None → K i ≡ sort_truth A K (sort_of s) i
comparison_sort A K zero i e = absurd cc
comparison_sort A K (suc zero) i e = absurd cc
comparison_sort A K (suc (suc zero)) i e = refl
comparison_sort A K (suc (suc (suc s))) i e = refl

module _ (b : List ℕ) (I : Indexed b) (h : ℕ) (n : h < hypothesis_count b) (x : HypothesisRecord)
    (p : x ≡ hypothesis_in b h) where
  index_within : x.index < cond (ltb x.sort 2) (atom_count b) (comparison_count b)
  index_within = rw p (I.hypothesis h n)

  pub literal_within : (W : List Truth) (l : Literal) → atom_count b ≤ length W → literal_in x.sort x.index ≡ Some l →
      atom_of l < length W
  literal_within W l m e =
      omega (arith, m, atom_below x.sort x.index (atom_count b) (comparison_count b) l e index_within)

  pub comparison_within : literal_in x.sort x.index ≡ None → x.index < comparison_count b
  comparison_within e = comparison_below x.sort x.index (atom_count b) (comparison_count b) e index_within

  pub literal_record : (A K : Answers) (l : Literal) → literal_in x.sort x.index ≡ Some l →
      literal_truth A l ≡ record_truth A K (hypothesis_in b h)
  literal_record A K l e = rw (← p) (literal_sort A K x.sort x.index l e)

  pub comparison_record : (A K : Answers) → literal_in x.sort x.index ≡ None →
      K x.index ≡ record_truth A K (hypothesis_in b h)
  comparison_record A K e = rw (← p) (comparison_sort A K x.sort x.index e)

pub ruleset literals = (literal_within, comparison_within, literal_record, comparison_record)
