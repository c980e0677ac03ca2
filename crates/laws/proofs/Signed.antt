-- Signed numbers of 64 bits: what a bound on the size of an integer gives. Assumes nothing.
use mathlib.Core.Path.{◌≡◌}
use Prim.Native.Nat.{◌^◌, ◌<◌}
use lib.IntN.{ℤ, nat_abs}
use mir.Syntax.{w64}
use mir.Val.{SFits, of_z, to_z}
use Rattle.std.proofs.lemmas.Int.{fits_signed_from_abs, to_z-of_z}

-- it is a number of 64 bits
pub fits : {z : ℤ} → nat_abs z < 2 ^ 63 → SFits w64 z
fits {z} h = fits_signed_from_abs w64 z h

-- its bits read back as it
pub reads_back : {z : ℤ} → nat_abs z < 2 ^ 63 → to_z w64 (of_z w64 z) ≡ z
reads_back {z} h = to_z-of_z w64 z (fits h)
