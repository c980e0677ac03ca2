-- The loop of `Extremes::of` keeps what the elements read so far come to. Assumes nothing.
use Rattle.std.proofs.Common.{◌≡◌}
use Rattle.judge.proofs.ExtremeLaws.{found_to}
use Rattle.judge.proofs.extremes.Extremes.of.Given as goal

abbrev pub invariant-loop-e : goal.invariant-loop-e
invariant-loop-e g l =
    l.found ≡ found_to g.O.Order.below l.judge.book.frame.bytes.now l.judge.answers.now l.c.bound l.c.first l.e
