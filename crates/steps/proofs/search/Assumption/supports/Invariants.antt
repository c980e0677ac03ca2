-- `Assumption::supports`: none of the rule's hypotheses passed so far is false. Assumes nothing.
use Rattle.std.proofs.Common.{◌-◌}
use Rattle.steps.proofs.FailLaws.{Clear}
use Rattle.steps.proofs.search.Assumption.supports.Given as goal

abbrev pub invariant-loop-h : goal.invariant-loop-h
invariant-loop-h l = Clear l.initial.self l.self l.initial.h l.h

abbrev pub decreases-loop-h : goal.decreases-loop-h
decreases-loop-h l = l.end - l.h
