-- `given::check_given`: none of the atoms passed so far is given wrongly. Assumes nothing.
use Rattle.laws.proofs.Searches.{NoneTo}
use Rattle.checks.specs.Marks.{wrong_in}
use Rattle.checks.proofs.given.check_given.Given as goal

abbrev pub invariant-loop-a : goal.invariant-loop-a
invariant-loop-a l = NoneTo (wrong_in l.book.frame.bytes.now) l.a
