-- `frame::check_offsets`: `at` is where the next body has to start, and the tables passed so far do. Assumes nothing.
use mathlib.Core.Path.{◌≡◌}
use Prim.Native.Nat.{◌+◌, ◌*◌, ◌^◌, ◌≤◌}
use Rattle.laws.proofs.Searches.{NoneTo}
use Rattle.meaning.specs.Format.{start}
use Rattle.checks.proofs.FrameLaws.{astray_at}
use Rattle.checks.proofs.frame.check_offsets.Given as goal

abbrev pub invariant-loop-k : goal.invariant-loop-k
invariant-loop-k l = (l.at ≡ start l.bytes l.k) × (l.at ≤ 48 + l.k * (10 * 2 ^ 32)) × NoneTo (astray_at l.bytes) l.k
