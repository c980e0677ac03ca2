-- `Level::assume`: an atom more is assumed, and at the end all of them. Assumes nothing.
use Rattle.std.proofs.Common.{rules}
use Rattle.steps.proofs.StartLaws.{counted_all, counted_known, counted_more, counted_none}
use Rattle.steps.proofs.level.Level.assume.Goals as goal

pub loop-a-init : goal.loop-a-init
loop-a-init c = counted_none c.args.self.now.answers.now c.args.due.now

pub loop-a-preserved : goal.loop-a-preserved
loop-a-preserved c =
    rw c.set_answer.ensures (counted_more c.args.self.now c.args.due.now c.loop-a.assumed c.loop-a.left c.loop-a.a
    c.loop-a.invariant c.requires c.answer-x.result c.counted.result c.from-left.result c.answer-x.ensures
    c.counted.ensures (search rules) (search rules))

pub invariant_of-result : goal.invariant_of-result
invariant_of-result c = search (rules, counted_known)

pub invariant_of-result-2-clause-searched : goal.invariant_of-result-2-clause-searched
invariant_of-result-2-clause-searched c = search (rules, counted_all)
