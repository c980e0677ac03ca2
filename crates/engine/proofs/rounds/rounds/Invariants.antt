-- `rounds::rounds`: the rounds still to come lead where those from the start do, and each but the last lowers the
-- number of undefined answers. Assumes nothing.
use Rattle.std.proofs.Common.{◌≡◌, length}
use Rattle.engine.proofs.RestLaws.{rest_of, undecided}
use Rattle.engine.proofs.rounds.rounds.Given as goal

abbrev pub invariant-loop-after : goal.invariant-loop-after
invariant-loop-after l = record {
  long : length l.answers ≡ 2048;
  same : rest_of l.book.frame.bytes.now l.level l.answers ≡ rest_of l.book.frame.bytes.now l.level l.initial.answers;
}

abbrev pub decreases-loop-after : goal.decreases-loop-after
decreases-loop-after l = undecided l.book.frame.bytes.now l.level l.answers
