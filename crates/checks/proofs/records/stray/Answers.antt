-- `records::stray`: a rule, by the two counts. Assumes nothing.
use Rattle.checks.specs.Faults.{stray_in}
use Rattle.checks.proofs.records.stray.Goals as goal

pub returns-in-2 : goal.returns-in-2
unfolding stray_in
returns-in-2 c = rw (c.in-2.is, c.rule-rule.ensures.is, c.count-in-2.ensures.is, c.count-in-2-2.ensures.is)
