-- `mixture::mixed_below`: the calls answer for the predicates below the i-th. Assumes nothing.
use Rattle.std.proofs.Common.{arith, refl, rules}
use Rattle.laws.proofs.Chains.{any_slice}
use Rattle.meaning.specs.Format.{no_predicate, tables}
use Rattle.meaning.specs.Refusal.{mixed}
use Rattle.book.specs.Records.{predicate_in}
use Rattle.book.proofs.Counts.{predicates_length}
use Rattle.checks.proofs.mixture.mixed_below.Goals as goal

pub returns : goal.returns
returns c =
    let b = c.args.frame.now.bytes.now in
    any_slice {t = λ j. mixed (predicate_in b c.args.i) (predicate_in b j)} {a = 0} {b = c.args.i}
    (mixed (predicate_in b c.args.i))
    (tables b).predicates no_predicate c.any.ensures.ran (search rules) (search rules)
    (omega (arith, c.requires, predicates_length b)) (λ x v q k. search rules) (λ k l. refl)
