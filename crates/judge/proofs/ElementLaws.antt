-- An element as read: its atom's place among the answers, and its weight. Assumes nothing.
use mathlib.Core.Path.{◌≡◌, refl}
use mathlib.Core.List.{List}
use Prim.Native.Nat.{ℕ, zero, suc, ◌^◌, ◌<◌, ◌≤◌}
use native.Mathlib.Omega.{arith}
use lib.IntN.{ℤ, nat_abs}
use lib.ListN.{length}
use mir.Syntax.{w64}
use mir.Val.{of_z, to_z}
use Rattle.laws.proofs.Signed.{reads_back}
use Rattle.meaning.specs.Format.{atom_count, element_count}
use Rattle.meaning.specs.Reading.{atom_of, literal_of}
use Rattle.meaning.specs.declared.codes.Literal.{Literal}
use Rattle.meaning.specs.declared.records.ElementRecord.{ElementRecord}
use Rattle.theory.specs.declared.answer.Truth.{Truth}
use Rattle.book.specs.Framed.{Indexed}
use Rattle.book.specs.Records.{element_in}

-- the atom of a literal, whatever its sign
atom_is : (s a : ℕ) → atom_of (literal_of s a) ≡ a
atom_is zero a = refl
atom_is (suc s) a = refl

pub atom_within : (b : List ℕ) (W : List Truth) (e : ℕ) (x : ElementRecord) (l : Literal) → Indexed b →
    atom_count b ≤ length W → e < element_count b → x ≡ element_in b e → l ≡ literal_of x.sign x.atom →
    atom_of l < length W
atom_within b W e x l I m n p q = rw (q, atom_is, p) (omega (arith, I.element e n, m))

-- a small number is read back from its bits
pub small_back : {w : ℤ} → nat_abs w ≤ 2 ^ 31 → to_z w64 (of_z w64 w) ≡ w
small_back l = reads_back (omega (arith, l))

pub ruleset elements = (atom_within, small_back)
