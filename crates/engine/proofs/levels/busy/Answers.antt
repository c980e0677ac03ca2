-- `levels::busy` meets its contract: each atom is asked whether it is to be decided. Assumes nothing.
use Rattle.std.proofs.Common.{rules}
use Rattle.laws.proofs.Chains.{any_of_range}
use Rattle.engine.proofs.LevelLaws.{level_bare}
use Rattle.engine.proofs.levels.busy.Goals as goal

pub returns-then-inhabited : goal.returns-then-inhabited
returns-then-inhabited c = any_of_range c.any.ensures.ran (search rules) (search rules) (λ x b q k. search rules)

pub returns-else-inhabited : goal.returns-else-inhabited
returns-else-inhabited c = search (rules, level_bare)
