-- `uses::check_certainty`: the search through the rules is document 01's. Assumes nothing.
use Rattle.std.proofs.Common.{◌∙◌}
use Rattle.checks.proofs.LimitLaws.{certainty_are}
use Rattle.checks.proofs.uses.check_certainty.Goals as goal

pub returns : goal.returns
returns c = c.check_rules.ensures ∙ certainty_are _
