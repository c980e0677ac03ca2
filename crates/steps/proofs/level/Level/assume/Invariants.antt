-- `Level::assume`: the atoms passed so far are assumed, and those only assumed false are counted. Assumes nothing.
use Rattle.steps.proofs.StartLaws.{CountedTo}
use Rattle.steps.proofs.level.Level.assume.Given as goal

abbrev pub invariant-loop-a : goal.invariant-loop-a
invariant-loop-a l = CountedTo l.self.answers.now l.due l.assumed l.left l.a
