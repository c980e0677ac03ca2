-- `Search::pass`: where nothing was struck, no rule passed so far strikes. Assumes nothing.
use Rattle.steps.proofs.SearchLaws.{Passed}
use Rattle.steps.proofs.search.Search.pass.Given as goal

abbrev pub invariant-loop-r : goal.invariant-loop-r
invariant-loop-r l = Passed l.initial.self l.self l.struck l.r
