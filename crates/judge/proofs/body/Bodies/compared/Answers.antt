-- `Bodies::compared` keeps what it judged. Assumes nothing.
use Rattle.std.proofs.Common.{rules}
use Rattle.judge.proofs.AskedLaws.{asked_more}
use Rattle.judge.proofs.body.Bodies.compared.Goals as goal

pub invariant_of-self : goal.invariant_of-self
invariant_of-self c = record { asked = search (rules, asked_more) }
