-- Checks 1 to 3: what each turn of their loops keeps, what each way out says, and that a book that passes is framed.
-- Assumes nothing.
use mathlib.Core.Path.{◌≡◌, refl, sym, ap, ◌∙◌}
use mathlib.Core.Bool.{Bool, true, false, not}
use mathlib.Core.List.{List}
use mathlib.Core.Option.{none, some}
use Prim.Native.Nat.{ℕ, ◌+◌, ◌*◌, ◌^◌, ◌<◌, ◌≤◌}
use native.Mathlib.Nat.{mul-le-mul, zero-add}
use native.Mathlib.Numerals.{add-one}
use native.Mathlib.Omega.{arith}
use lib.Dec.{leb, ltb}
use lib.ListN.{length, get_or}
use borrow.Author.Tests.{eq-eqb, eqb-true, le-ltb, leb-true, lt-ltb, ltb-false, ne_eqb, not-false}
use mir.Syntax.{w64}
use mir.Val.{Fits}
use Rattle.laws.specs.Lists.{seek}
use Rattle.laws.proofs.Searches.{NoneTo, none_more, none_seek, none_start, seek_first, seek_none, table_rule}
use Rattle.meaning.specs.Format.{contents, count_of, end, limits, offset_of, sizes, start}
use Rattle.meaning.specs.Refusal.{astray, at_table, misplaced, refusal1, refusal2, refusal3}
use Rattle.meaning.specs.Refusal.{refuse, too_many}
use Rattle.meaning.proofs.Absent.{none_each, none_if, none_table}
use Rattle.book.specs.Framed.{Framed}

-- checks 2 and 3 at the k-th body
unfoldable pub many_at : List ℕ → ℕ → Bool
many_at b k = too_many b k (get_or limits k 0)

unfoldable pub astray_at : List ℕ → ℕ → Bool
astray_at b k = astray b k (get_or sizes k 0)

-- a search over the tables that has come to the k-th without a fault
module _ (f : ℕ → ℕ → Bool) (xs : List ℕ) (number k : ℕ) (clear : NoneTo (λ j. f j (get_or xs j 0)) k) where
  at_table_lem : k < length xs → f k (get_or xs k 0) ≡ true →
      at_table number (seek f 0 xs) ≡ some (refuse number (k + 1) 0)
  unfolding NoneTo
  at_table_lem l t = rw (seek_first f 0 xs k l clear t, add-one)

  at_none : length xs ≤ k → at_table number (seek f 0 xs) ≡ none
  unfolding NoneTo
  at_none l = ap (at_table number) (none_seek f 0 0 xs (λ j m. rw zero-add (clear j (omega (arith, m, l)))))

-- 2
module _ (b : List ℕ) (k : ℕ) where
  pub count_within : count_of b k ≤ get_or limits k 0 → many_at b k ≡ false
  unfolding many_at
  count_within l = le-ltb (get_or limits k 0) (count_of b k) l

  pub count_refused : k < 6 → NoneTo (many_at b) k → get_or limits k 0 < count_of b k →
      some (refuse 2 (k + 1) 0) ≡ refusal2 b
  unfolding refusal2 many_at
  count_refused l c g =
      rw (at_table_lem (too_many b) limits 2 k c l (lt-ltb (get_or limits k 0) (count_of b k) g))

  pub counts_passed : 6 ≤ k → NoneTo (many_at b) k → none ≡ refusal2 b
  unfolding refusal2 many_at
  counts_passed l c = rw (at_none (too_many b) limits 2 k c l)

pub ruleset counts = (none_start, none_more, count_within, count_refused, counts_passed)

-- 3. No record has more than 10 bytes, so no body of 2³² records wraps.
size_small : (k : ℕ) → k < 6 → get_or sizes k 0 ≤ 10
size_small k l = leb-true (get_or sizes k 0) 10 (table_rule (λ k x. leb x 10) sizes refl k l)

module _ (b : List ℕ) (k at z n : ℕ) (l : k < 6) (p : z ≡ get_or sizes k 0) (s : n < 2 ^ 32) where
  body_most : z * n ≤ 10 * 2 ^ 32
  body_most = mul-le-mul {n₁ = z} {m₁ = n} {n₂ = 10} {m₂ = 2 ^ 32} (omega (arith, p, size_small k l)) (omega (arith, s))

  pub body_fits : Fits w64 (z * n)
  body_fits = omega (arith, body_most)

  pub end_fits : at ≤ 48 + k * (10 * 2 ^ 32) → Fits w64 (at + z * n)
  end_fits m = omega (arith, body_most, m, l)

  pub end_most : at ≤ 48 + k * (10 * 2 ^ 32) → at + z * n ≤ 48 + (k + 1) * (10 * 2 ^ 32)
  end_most m = omega (arith, body_most, m)

  pub end_next : at ≡ start b k → n ≡ count_of b k → at + z * n ≡ start b (k + 1)
  unfolding start
  end_next e q = rw (add-one, e, p, q)

module _ (b : List ℕ) (k at : ℕ) where
  pub offset_right : offset_of b k ≡ at → at ≡ start b k → astray_at b k ≡ false
  unfolding astray_at
  offset_right e q = ap not (eq-eqb (offset_of b k) (start b k) (e ∙ q))

  pub offset_refused : k < 6 → NoneTo (astray_at b) k → at ≡ start b k → (offset_of b k ≡ at → ⊥) →
      some (refuse 3 (k + 1) 0) ≡ refusal3 b
  unfolding refusal3 astray_at
  offset_refused l c q n =
      rw (at_table_lem (astray b) sizes 3 k c l (ap not (ne_eqb (offset_of b k) (start b k) (λ z. n (z ∙ sym q)))))

  at_end : k ≤ 6 → 6 ≤ k → at ≡ start b k → at ≡ end b
  at_end l m q = let e : k ≡ 6 = omega (arith, l, m) in q ∙ ap (start b) e

  pub end_refused : k ≤ 6 → 6 ≤ k → NoneTo (astray_at b) k → at ≡ start b k → (length b ≡ at → ⊥) →
      some (refuse 3 0 0) ≡ refusal3 b
  unfolding refusal3 astray_at
  end_refused l m c q n =
      rw (at_none (astray b) sizes 3 k c m, ne_eqb (length b) (end b) (λ z. n (z ∙ sym (at_end l m q))))

  pub offsets_passed : k ≤ 6 → 6 ≤ k → NoneTo (astray_at b) k → at ≡ start b k → length b ≡ at →
      none ≡ refusal3 b
  unfolding refusal3 astray_at
  offsets_passed l m c q n = rw (at_none (astray b) sizes 3 k c m, eq-eqb (length b) (end b) (n ∙ at_end l m q))

pub starts : (b : List ℕ) → contents ≡ start b 0
unfolding start
starts b = refl

pub ruleset offsets = (
  none_start,
  none_more,
  starts,
  body_fits,
  end_fits,
  end_most,
  end_next,
  offset_right,
  offset_refused,
  end_refused,
  offsets_passed,
)

-- what the first check gives the next two
pub passed_long : (b : List ℕ) → none ≡ refusal1 b → contents ≤ length b
unfolding refusal1
passed_long b e = ltb-false (length b) 48 (none_if 1 (ltb (length b) 48) (sym e))

-- a book with none of the refusals 1 to 3 is framed
pub framed : (b : List ℕ) → none ≡ refusal1 b → none ≡ refusal2 b → none ≡ refusal3 b → Framed b
unfolding refusal1 refusal2 refusal3
framed b e1 e2 e3 =
    let (o, (l, _)) = none_each (misplaced b) (sym e3) in
    record {
      long = ltb-false (length b) 48 (none_if 1 (ltb (length b) 48) (sym e1));
      counts = λ k m. ltb-false (get_or limits k 0) (count_of b k) (clear 2 (too_many b) limits (sym e2) k m);
      offsets = λ k m. eqb-true (offset_of b k) (start b k) (not-false _ (clear 3 (astray b) sizes o k m));
      whole = eqb-true (length b) (end b) (not-false _ (none_if 3 _ l));
    }
  where
    clear : (number : ℕ) (f : ℕ → ℕ → Bool) (xs : List ℕ) → at_table number (seek f 0 xs) ≡ none → (k : ℕ) →
        k < length xs → f k (get_or xs k 0) ≡ false
    clear number f xs e k l = rw zero-add at (seek_none f 0 0 xs (none_table number (seek f 0 xs) e) k l)
