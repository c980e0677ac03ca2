-- `uses::reaches`: how high the comparisons passed so far reach. Assumes nothing.
use Rattle.checks.specs.Uses.{Reaches}
use Rattle.checks.proofs.uses.reaches.Given as goal

abbrev pub invariant-loop-c : goal.invariant-loop-c
invariant-loop-c l = Reaches l.view.book.frame.bytes.now l.view.aspect l.c l.found
