-- `Judge::comparison` goes by its aggregate. Assumes nothing.
use Rattle.std.proofs.Common.{rules}
use Rattle.meaning.specs.Truth.{holds}
use Rattle.judge.proofs.ComparisonLaws.{comparison_is}
use Rattle.judge.proofs.judge.Judge.comparison.Goals as goal

pub returns-in-Count : goal.returns-in-Count
unfolding holds
returns-in-Count c = search (rules, comparison_is)

pub returns-in-Sum : goal.returns-in-Sum
unfolding holds
returns-in-Sum c = search (rules, comparison_is)

pub returns-in-Min : goal.returns-in-Min
unfolding holds
returns-in-Min c = search (rules, comparison_is)

pub returns-in-Max : goal.returns-in-Max
unfolding holds
returns-in-Max c = search (rules, comparison_is)
