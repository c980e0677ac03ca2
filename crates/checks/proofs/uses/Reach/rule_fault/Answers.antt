-- `Reach::rule_fault`: nothing is asked, or a hypothesis reaches above the limit, or none does. Assumes nothing.
use Rattle.std.proofs.Common.{arith, rules}
use Rattle.checks.proofs.RuleLaws.{rule_found, rule_none, rule_unasked}
use Rattle.checks.proofs.uses.Reach.rule_fault.Goals as goal

pub returns-then-not-asks_of : goal.returns-then-not-asks_of
returns-then-not-asks_of c = rule_unasked _ _ _ _ c.rule-rule.ensures.is _ c.asks_of.ensures (search rules)

pub returns-then-limit-hypothesis_reach : goal.returns-then-limit-hypothesis_reach
returns-then-limit-hypothesis_reach c =
    rule_found _ _ _ _ c.rule-rule.ensures.is _ c.asks_of.ensures c.args.self.now.view.book.indexed c.requires
    (search rules) _ c.limit_of-limit.ensures c.loop-h.h (omega arith) (omega arith) (omega arith)

pub returns : goal.returns
returns c =
    rule_none _ _ _ _ c.rule-rule.ensures.is _ c.asks_of.ensures c.args.self.now.view.book.indexed c.requires
    (search rules) _ c.limit_of-limit.ensures c.loop-h.h c.loop-h.invariant (omega arith)
