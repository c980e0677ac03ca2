-- `frame::check_frame`: the first of the three. Assumes nothing.
use Rattle.checks.proofs.FrameLaws.{framed, passed_long}
use Rattle.checks.proofs.frame.check_frame.Goals as goal

pub check_counts-requires : goal.check_counts-requires
check_counts-requires c = passed_long _ c.in_ok-check_length.ensures

pub check_offsets-requires : goal.check_offsets-requires
check_offsets-requires c = passed_long _ c.in_ok-check_length.ensures

pub invariant_of-result : goal.invariant_of-result
invariant_of-result c = record {
  framed = framed _ c.in_ok-check_length.ensures c.in_ok-check_counts.ensures c.in_ok-check_offsets.ensures;
}
