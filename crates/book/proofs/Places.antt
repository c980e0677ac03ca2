-- Records lie within the book, and a record's bytes are the book's. Assumes nothing.
use mathlib.Core.Path.{◌≡◌}
use mathlib.Core.List.{List}
use Prim.Native.Nat.{ℕ, suc, ◌+◌, ◌*◌, ◌^◌, ◌<◌, ◌≤◌}
use native.Mathlib.Nat.{mul-le-mul_left, mul-suc}
use native.Mathlib.Omega.{arith}
use lib.ListN.{length, get_or}
use mir.Syntax.{w64}
use mir.Val.{Fits}
use Rattle.meaning.specs.Format.{count_of, offset_of, sizes, start}
use Rattle.meaning.proofs.Bytes.{start_rises}
use Rattle.book.specs.Framed.{Framed, Place}

-- the last byte of a record is within the book
pub record_within : (b : List ℕ) (k i : ℕ) → Framed b → k < 6 → i < count_of b k →
    start b k + get_or sizes k 0 * i + get_or sizes k 0 ≤ length b
unfolding start
record_within b k i F l m =
    let up : start b (suc k) ≤ start b 6 = start_rises b (suc k) 6 l in
    let more : get_or sizes k 0 * suc i ≤ get_or sizes k 0 * count_of b k = mul-le-mul_left (get_or sizes k 0) m in
    omega (arith, up, more, mul-suc (get_or sizes k 0) i, F.whole)

-- The largest book has 64,816 bytes.
pub book_small : (b : List ℕ) → Framed b → length b ≤ 64816
unfolding start
book_small b F =
    omega (
      arith,
      F.whole,
      F.counts 0 (omega arith),
      F.counts 1 (omega arith),
      F.counts 2 (omega arith),
      F.counts 3 (omega arith),
      F.counts 4 (omega arith),
      F.counts 5 (omega arith),
    )

-- `o` is an offset, and `z` is what the table of sizes says of body k: nothing that is added up wraps
module _ (b : List ℕ) (k i o z : ℕ) (F : Framed b) (l : k < 6) (m : i < count_of b k) (q : z ≡ get_or sizes k 0) where
  product_small : z * i ≤ 64816
  product_small = rw q (omega (arith, record_within b k i F l m, book_small b F))

  pub product_fits : Fits w64 (z * i)
  product_fits = omega (arith, product_small)

  pub sum_fits : o < 2 ^ 32 → Fits w64 (o + z * i)
  sum_fits s = omega (arith, product_small, s)

  -- where the contents say that body k starts, the record stands
  pub placed : o ≡ offset_of b k → Place b k i (o + z * i)
  placed p =
      let e : o + z * i ≡ start b k + get_or sizes k 0 * i = rw (p, q, F.offsets k l) in
      record { is = e; fits = omega (arith, e, record_within b k i F l m) }

-- for the proof of `Frame::place`
pub ruleset placing = (product_fits, sum_fits, placed)
