-- `Assumption::some_fails`: none of the hypotheses passed so far is false. Assumes nothing.
use Rattle.steps.proofs.FailLaws.{Clear}
use Rattle.steps.proofs.search.Assumption.some_fails.Given as goal

abbrev pub invariant-loop-h : goal.invariant-loop-h
invariant-loop-h l = Clear l.initial.self l.self l.first l.h
