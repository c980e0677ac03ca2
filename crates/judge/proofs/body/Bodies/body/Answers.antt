-- `Bodies::body` meets the hypotheses. Assumes nothing.
use Rattle.std.proofs.Common.{rules}
use Rattle.judge.proofs.BodyLaws.{bodies}
use Rattle.judge.proofs.body.Bodies.body.Goals as goal
use Rattle.judge.proofs.body.Bodies.body.Goals.{in-Undefined, in-True}

pub loop-h-init : goal.loop-h-init
loop-h-init c = search (rules, bodies)

pub loop-h-preserved : goal.loop-h-preserved
loop-h-preserved c =
    elim c.match-hypothesis.branch [ in-Undefined w ↦ search (rules, bodies) | in-True w ↦ search (rules, bodies) ]

pub returns-in-False-clause-is : goal.returns-in-False-clause-is
returns-in-False-clause-is c = search (rules, bodies)

pub returns-clause-is : goal.returns-clause-is
returns-clause-is c = search (rules, bodies)
