-- `settle::settle`: the atoms passed so far have their next answers.
use Rattle.steps.proofs.SettleLaws.{Passed}
use Rattle.steps.proofs.settle.settle.Given as goal

abbrev pub invariant-loop-a : goal.invariant-loop-a
invariant-loop-a l = Passed l.answers l.due l.best l.assumed l.now l.changed l.a
