-- The lines of the atoms passed so far are put, each within its room. Assumes nothing.
use Rattle.std.proofs.Common.{◌≡◌, ◌+◌, ◌*◌, ◌≤◌, ◌++◌}
use Rattle.arrayvec.specs.ArrayString.{array_string_len}
use Rattle.listing.specs.Text.{lines_of}
use Rattle.listing.specs.Widths.{line_most}
use Rattle.listing.proofs.list.put_lines.Given as goal

abbrev pub invariant-loop-atom : goal.invariant-loop-atom
invariant-loop-atom l = record {
  put : l.text.bytes ≡ l.initial.text.bytes ++ lines_of l.room l.atom;
  short : array_string_len l.text ≤ array_string_len l.initial.text + l.atom * line_most;
}
