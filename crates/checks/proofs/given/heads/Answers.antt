-- `given::heads`: one rule's head more, and all. Assumes nothing.
use Rattle.std.proofs.Common.{arith, rules}
use Rattle.checks.proofs.GivenLaws.{mark_all, mark_more}
use Rattle.checks.proofs.given.heads.Goals as goal

pub loop-i-preserved : goal.loop-i-preserved
loop-i-preserved c = search (rules, mark_more)

pub returns : goal.returns
returns c = mark_all _ _ _ (omega arith) c.loop-i.invariant
