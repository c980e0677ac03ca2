-- `solve::solve`: the levels passed so far are done. Assumes nothing.
use Rattle.std.proofs.Common.{◌≡◌, length, take}
use Rattle.meaning.specs.Format.{atom_count, tables}
use Rattle.meaning.specs.Reading.{given_of}
use Rattle.meaning.specs.Model.{levels_below}
use Rattle.steps.specs.Work.{levels_in, rules_in}
use Rattle.engine.proofs.solve.solve.Given as goal

abbrev pub invariant-loop-level : goal.invariant-loop-level
invariant-loop-level l = record {
  long : length l.answers ≡ 2048;
  done : take (atom_count l.book.frame.bytes.now) l.answers
      ≡ levels_below (rules_in l.book.frame.bytes.now) (levels_in l.book.frame.bytes.now) l.level
      (given_of (tables l.book.frame.bytes.now));
}
