-- The loop of `Ends::of` keeps two totals of the elements read so far. Assumes nothing.
use Rattle.judge.proofs.SumLaws.{Summed}
use Rattle.judge.proofs.sums.Ends.of.Given as goal

abbrev pub invariant-loop-e : goal.invariant-loop-e
invariant-loop-e g l = Summed g.W.Weight.weight l.judge.book.frame.bytes.now l.judge.answers.now l.c.first l.e l.found
