-- `given::heads`: the heads of the rules passed so far are marked. Assumes nothing.
use Rattle.checks.proofs.GivenLaws.{MarkedTo}
use Rattle.checks.proofs.given.heads.Given as goal

abbrev pub invariant-loop-i : goal.invariant-loop-i
invariant-loop-i l = MarkedTo l.book.frame.bytes.now l.marks l.i
