-- `records::check_codes`: the place that was found is check 4's. Assumes nothing.
use Rattle.std.proofs.Common.{rules}
use Rattle.checks.specs.Faults.{unlisted_in}
use Rattle.checks.proofs.BodyLaws.{codes_found}
use Rattle.checks.proofs.records.check_codes.Goals as goal

pub returns-in-Some : goal.returns-in-Some
returns-in-Some c = codes_found _ _ (c.in-Some.ensures 4 (unlisted_in _) (λ k i v q. search rules))

pub returns-in-None : goal.returns-in-None
returns-in-None c = codes_found _ _ (c.in-None.ensures 4 (unlisted_in _) (λ k i v q. search rules))
