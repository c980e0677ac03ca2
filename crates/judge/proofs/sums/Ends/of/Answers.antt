-- `Ends::of` adds up what each element has to give. Assumes nothing.
use Rattle.std.proofs.Common.{rules}
use Rattle.judge.proofs.SumLaws.{summed}
use Rattle.judge.proofs.sums.Ends.of.Goals as goal

pub loop-e-init : goal.loop-e-init
loop-e-init g c = search (rules, summed)

pub add-found-requires : goal.add-found-requires
add-found-requires g c = search (rules, summed)

pub loop-e-preserved : goal.loop-e-preserved
loop-e-preserved g c = search (rules, summed)

pub returns : goal.returns
returns g c = search (rules, summed)
