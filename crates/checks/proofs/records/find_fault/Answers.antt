-- `records::find_fault`: where the first call says so, or nowhere. Assumes nothing.
use native.Mathlib.Omega.{arith}
use Rattle.checks.proofs.BodyLaws.{place_found, place_none}
use Rattle.checks.proofs.records.find_fault.Goals as goal

pub returns-then-at_fault : goal.returns-then-at_fault
returns-then-at_fault g c number test answers =
    place_found _ _ number test answers _ _ _ (omega arith) c.loop-i.invariant c.count-i-end.ensures.is (omega arith)
    c.if-at_fault.ensures

pub returns : goal.returns
returns g c number test answers = place_none _ _ number test answers _ (omega arith) c.loop-k.invariant
