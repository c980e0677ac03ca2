-- `records::find_fault`: the calls so far said of every record that it is not at fault. Assumes nothing.
use Rattle.checks.proofs.BodyLaws.{ClearIn, ClearTo}
use Rattle.checks.proofs.records.find_fault.Given as goal

abbrev pub invariant-loop-k : goal.invariant-loop-k
invariant-loop-k g l = ClearTo l.frame.bytes.now (goal.F-post g l.at_fault) l.k

abbrev pub invariant-loop-i : goal.invariant-loop-i
invariant-loop-i g l = ClearIn l.frame.bytes.now (goal.F-post g l.at_fault) l.k l.i
