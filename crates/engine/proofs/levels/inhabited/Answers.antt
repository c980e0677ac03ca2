-- `levels::inhabited` meets its contract: each predicate is asked for its level. Assumes nothing.
use Rattle.std.proofs.Common.{rules}
use Rattle.laws.proofs.Chains.{any_of_range}
use Rattle.engine.proofs.levels.inhabited.Goals as goal

pub returns : goal.returns
returns c = any_of_range c.any.ensures.ran (search rules) (search rules) (λ x b q k. search rules)
