-- `Level::gather`: no rule is gathered at first, and one more each turn.
use Rattle.std.proofs.Common.{arith}
use Rattle.steps.proofs.GatherLaws.{gathered_more, gathered_none, gathered_other}
use Rattle.steps.proofs.level.Level.gather.Goals as goal
use Rattle.steps.proofs.level.Level.gather.Goals.{then-due-head-ne0, else-due-head-ne0}

pub loop-r-init : goal.loop-r-init
loop-r-init c =
    (rw c.new-bodies.ensures, rw c.new-bodies.ensures, gathered_none _ _ _ c.args.self.now.book.frame.framed)

pub loop-r-preserved : goal.loop-r-preserved
loop-r-preserved c =
    elim c.if-due-head-ne0.branch [
      | then-due-head-ne0 w ↦ (
        cc,
        cc,
        rw w.best-is (gathered_more _ _ _ _ _ c.loop-r.invariant.2 _ c.rule-head.ensures.is _ _
            c.args.self.now.book.indexed c.args.self.now.book.frame.framed (omega arith) (cc) w.joined.ensures),
      )
      | else-due-head-ne0 w ↦ (
        cc,
        cc,
        rw w.best-is (gathered_other _ _ _ _ _ c.loop-r.invariant.2 _ c.rule-head.ensures.is w.if-due-head-ne0.false),
      )
    ]
