-- `order::Order::before`: it stays in the ring. Assumes nothing.
use Rattle.std.proofs.Common.{◌<◌}
use Rattle.steps.proofs.order.Order.before.Given as goal

abbrev pub invariant-loop : goal.invariant-loop
invariant-loop l = l.p < 2049
