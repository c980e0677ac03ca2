-- `pairs::check_pairs`: what each loop has passed holds no pair, and neither does what was seen. Assumes nothing.
use mathlib.Core.Path.{◌≡◌}
use Rattle.laws.proofs.Searches.{NoneTo}
use Rattle.std.specs.Prelude.{Ok}
use Rattle.checks.proofs.SeenLaws.{Apart, Seen}
use Rattle.checks.proofs.PairLaws.{Clear, repeats_at}
use Rattle.checks.proofs.pairs.check_pairs.Given as goal

abbrev pub invariant-comparisons : goal.invariant-comparisons
invariant-comparisons l =
    NoneTo (repeats_at l.book.frame.bytes.now) l.c × Seen l.book.frame.bytes.now l.seen × (l.outcome ≡ Ok tt)

abbrev pub invariant-loop-i : goal.invariant-loop-i
invariant-loop-i l =
    Clear l.book.frame.bytes.now l.initial.i l.end l.i × Seen l.book.frame.bytes.now l.seen
    × (l.outcome ≡ Ok tt)

abbrev pub invariant-loop-j : goal.invariant-loop-j
invariant-loop-j l = Apart l.book.frame.bytes.now l.i l.j × (l.outcome ≡ Ok tt)
