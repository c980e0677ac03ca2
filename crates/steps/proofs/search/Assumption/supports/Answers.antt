-- `Assumption::supports`: a block passed is clear, and a body is false if a hypothesis is. Assumes nothing.
use Rattle.std.proofs.Common.{rules}
use Rattle.steps.proofs.FailLaws.{clear_block, supports_all, supports_none, supports_none_block}
use Rattle.steps.proofs.search.Assumption.supports.Goals as goal

pub returns-then-block_fails-clause-is : goal.returns-then-block_fails-clause-is
returns-then-block_fails-clause-is c = search (rules, supports_none_block, c.in-Some.ensures)

pub loop-h-preserved-in-Some : goal.loop-h-preserved-in-Some
loop-h-preserved-in-Some c = search (rules, clear_block, c.in-Some.ensures)

pub returns-then-fails-clause-is : goal.returns-then-fails-clause-is
returns-then-fails-clause-is c = search (rules, supports_none)

pub returns-clause-is : goal.returns-clause-is
returns-clause-is c = search (rules, supports_all)
