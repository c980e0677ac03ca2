-- `settle::settle`: one atom more.
use Rattle.std.proofs.Common.{arith}
use Rattle.steps.proofs.SettleLaws.{passed_more}
use Rattle.steps.proofs.settle.settle.Goals as goal

pub loop-a-preserved : goal.loop-a-preserved
loop-a-preserved c =
    passed_more _ _ _ _ _ _ _ c.loop-a.invariant _ _ _ c.answer-x.ensures c.answer.ensures c.next_answer-v.ensures
    (omega arith) _ _ c.set_answer.ensures c.ne-changed.ensures
