-- `records::check_indices`: the place that was found is check 5's. Assumes nothing.
use Rattle.std.proofs.Common.{rules}
use Rattle.checks.specs.Faults.{stray_in}
use Rattle.checks.proofs.BodyLaws.{indices_found}
use Rattle.checks.proofs.records.check_indices.Goals as goal

pub returns-in-Some : goal.returns-in-Some
returns-in-Some c = indices_found _ _ (c.in-Some.ensures 5 (stray_in _) (λ k i v q. search rules))

pub returns-in-None : goal.returns-in-None
returns-in-None c = indices_found _ _ (c.in-None.ensures 5 (stray_in _) (λ k i v q. search rules))
