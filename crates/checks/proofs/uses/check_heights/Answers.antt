-- `uses::check_heights`: the search through the rules is document 01's. Assumes nothing.
use Rattle.std.proofs.Common.{◌∙◌}
use Rattle.checks.proofs.LimitLaws.{heights_are}
use Rattle.checks.proofs.uses.check_heights.Goals as goal

pub returns : goal.returns
returns c = c.check_rules.ensures ∙ heights_are _
