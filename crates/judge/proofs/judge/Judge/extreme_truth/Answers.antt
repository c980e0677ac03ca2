-- `Judge::extreme_truth` asks its relation and the opposite of what the same elements came to. Assumes nothing.
use Rattle.std.proofs.Common.{rules, ◌+◌}
use Rattle.meaning.specs.Truth.{attained}
use Rattle.judge.specs.Held.{held}
use Rattle.judge.specs.Ranges.{elements_read}
use Rattle.judge.proofs.ExtremeLaws.{attained_is}
use Rattle.judge.proofs.judge.Judge.extreme_truth.Goals as goal

pub returns : goal.returns
returns g c =
    let x = c.args.c.now in
    let es = elements_read c.args.self.now.book.frame.bytes.now x.first (x.first + x.many) in
    rw (← c.from.ensures)
    (c.decide.ensures (λ r. attained g.O.Order.below (g.O.Order.turned r) (held c.args.self.now.answers.now) es x.bound)
    (λ r b p. search (rules, attained_is)))
