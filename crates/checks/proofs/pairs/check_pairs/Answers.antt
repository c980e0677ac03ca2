-- `pairs::check_pairs`: no comparison passed, one more, all of them, and a pair. Assumes nothing.
use Rattle.std.proofs.Common.{arith, rules}
use Rattle.laws.proofs.Searches.{none_more, none_start}
use Rattle.checks.proofs.SeenLaws.{seen_none}
use Rattle.checks.proofs.PairLaws.{comparison_clear, comparison_pair, pairs_found, pairs_through}
use Rattle.checks.proofs.pairs.check_pairs.Goals as goal

pub comparisons-init : goal.comparisons-init
comparisons-init c = search (rules, none_start, seen_none)

pub comparisons-preserved : goal.comparisons-preserved
comparisons-preserved c = (
  none_more _ _ c.comparisons.invariant.0
      (comparison_clear _ _ _ c.comparison-comparison.ensures.is _ c.loop-i.invariant.0 (omega arith)),
  search rules,
  search rules,
)

pub returns-after-comparisons : goal.returns-after-comparisons
returns-after-comparisons c = rw c.comparisons.invariant.2 (search (rules, pairs_through))

pub returns-then-element-atom : goal.returns-then-element-atom
returns-then-element-atom c =
    pairs_found _ _ _ c.count-c-end.ensures.is c.comparisons.invariant.0 (omega arith)
    (comparison_pair _ _ _ c.comparison-comparison.ensures.is c.loop-i.i c.loop-j.j c.loop-i.invariant.0 (omega arith)
    (omega arith) (cc))
