-- `uses::check_rules`: none of the rules passed so far is at fault. Assumes nothing.
use Rattle.laws.proofs.Searches.{NoneTo}
use Rattle.checks.specs.Uses.{rule_fault}
use Rattle.checks.proofs.uses.check_rules.Given as goal

abbrev pub invariant-loop-r : goal.invariant-loop-r
invariant-loop-r l = NoneTo (rule_fault l.book.frame.bytes.now l.aspect) l.r
