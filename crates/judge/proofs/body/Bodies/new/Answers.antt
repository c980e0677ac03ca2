-- `Bodies::new` knows no comparison. Assumes nothing.
use Rattle.std.proofs.Common.{rules}
use Rattle.judge.proofs.AskedLaws.{asked_none}
use Rattle.judge.proofs.body.Bodies.new.Goals as goal

pub invariant_of-result : goal.invariant_of-result
invariant_of-result c = record { asked = search (rules, asked_none) }
