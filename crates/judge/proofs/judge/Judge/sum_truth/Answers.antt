-- `Judge::sum_truth` asks its relation and the opposite of the same two ends. Assumes nothing.
use Rattle.std.proofs.Common.{rules}
use Rattle.meaning.specs.Truth.{between}
use Rattle.judge.proofs.judge.Judge.sum_truth.Goals as goal

pub returns : goal.returns
returns g c =
    rw (← c.from.ensures, ← c.of-ends.ensures.least, ← c.of-ends.ensures.most)
    (c.decide.ensures (λ r. between r c.of-ends.result.least c.of-ends.result.most c.args.c.now.bound)
    (λ r x p. search rules))
