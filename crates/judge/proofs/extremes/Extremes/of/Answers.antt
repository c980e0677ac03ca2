-- `Extremes::of` adds what each element has to give. Assumes nothing.
use Rattle.std.proofs.Common.{rules}
use Rattle.judge.proofs.ExtremeLaws.{found}
use Rattle.judge.proofs.extremes.Extremes.of.Goals as goal

pub loop-e-init : goal.loop-e-init
loop-e-init g c = search (rules, found)

pub loop-e-preserved : goal.loop-e-preserved
loop-e-preserved g c = search (rules, found)

pub returns : goal.returns
returns g c = search (rules, found)
