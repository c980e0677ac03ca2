-- `uses::check_signs`: the search through the rules is document 01's. Assumes nothing.
use Rattle.std.proofs.Common.{◌∙◌}
use Rattle.checks.proofs.LimitLaws.{signs_are}
use Rattle.checks.proofs.uses.check_signs.Goals as goal

pub returns : goal.returns
returns c = c.check_rules.ensures ∙ signs_are _ c.requires
