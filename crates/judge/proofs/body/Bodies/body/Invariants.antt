-- The loop of `Bodies::body` keeps what the hypotheses read so far come to. Assumes nothing.
use Rattle.judge.proofs.BodyLaws.{Read}
use Rattle.judge.proofs.body.Bodies.body.Given as goal

abbrev pub invariant-loop-h : goal.invariant-loop-h
invariant-loop-h l = Read l.fn.self.judge l.r l.self.judge l.all l.h
