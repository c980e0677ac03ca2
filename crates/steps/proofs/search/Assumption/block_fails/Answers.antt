-- `Assumption::block_fails`: what the block was found to be is kept. Assumes nothing.
use Rattle.steps.proofs.KnownLaws.{block_kept}
use Rattle.steps.proofs.search.Assumption.block_fails.Goals as goal

pub invariant_of-self : goal.invariant_of-self
invariant_of-self c = record {
  known = block_kept c.args.self.now c.some_fails.new.self c.args.k c.some_fails.result c.some_fails.ensures.same
      c.some_fails.ensures.is c.if-some_fails.false;
}
