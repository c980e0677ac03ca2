-- `Search::strike`: what is assumed and known stays so, and one fewer is left. Assumes nothing.
use Rattle.steps.proofs.SearchLaws.{strike_kept, strike_known}
use Rattle.steps.proofs.search.Search.strike.Goals as goal

pub invariant_of-state : goal.invariant_of-state
invariant_of-state c = record {
  known =
      rw c.set_answer.ensures (strike_known c.args.self.now c.strikes.new.self c.args.r c.strikes.result
      c.strikes.ensures.same c.requires c.strikes.ensures.is c.if-not-strikes.false c.rule-h.result
      c.rule-h.ensures.is);
}

pub invariant_of-self-clause-searched : goal.invariant_of-self-clause-searched
invariant_of-self-clause-searched c =
    rw c.set_answer.ensures (strike_kept c.args.self.now c.strikes.new.self c.args.r c.strikes.result
    c.strikes.ensures.same c.requires c.strikes.ensures.is c.if-not-strikes.false c.rule-h.result c.rule-h.ensures.is)
