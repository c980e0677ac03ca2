-- How many records each table has. Assumes nothing.
use mathlib.Core.Path.{◌≡◌}
use mathlib.Core.List.{List}
use Prim.Native.Nat.{ℕ}
use lib.ListN.{length}
use Rattle.meaning.specs.Format.{comparison_at, comparison_count, element_at, element_count, hypothesis_at}
use Rattle.meaning.specs.Format.{hypothesis_count}
use Rattle.meaning.specs.Format.{predicate_at, predicate_count, rule_at, rule_count, tables}
use Rattle.meaning.proofs.Bytes.{body_length}

module _ (b : List ℕ) where
  pub predicates_length : length (tables b).predicates ≡ predicate_count b
  unfolding tables
  predicates_length = body_length predicate_at b 0

  pub rules_length : length (tables b).rules ≡ rule_count b
  unfolding tables
  rules_length = body_length rule_at b 2

  pub hypotheses_length : length (tables b).hypotheses ≡ hypothesis_count b
  unfolding tables
  hypotheses_length = body_length hypothesis_at b 3

  pub comparisons_length : length (tables b).comparisons ≡ comparison_count b
  unfolding tables
  comparisons_length = body_length comparison_at b 4

  pub elements_length : length (tables b).elements ≡ element_count b
  unfolding tables
  elements_length = body_length element_at b 5
