-- The library's decimal text of a number is the one of this crate's definition. Assumes nothing.
use mathlib.Core.Path.{◌≡◌, refl, sym}
use mathlib.Core.Logic.{by_cases}
use Prim.Native.Nat.{ℕ, zero, suc, ◌^◌, ◌<◌, ◌≤◌}
use native.Mathlib.Decide.{dec_lt}
use native.Mathlib.Omega.{arith}
use lib.ListN.{length}
use Rattle.std.proofs.Common.{rules}
use Rattle.std.proofs.lemmas.Fmt.{AppendsLastDigit, decimal_from_appends, length-decimal-le}
use Rattle.std.specs.Fmt as library
use Rattle.listing.specs.Text.{decimal, decimal_in}

appends : AppendsLastDigit decimal_in
unfolding decimal_in
appends = search rules

-- as many digits as the number allows are enough
digits_few : (n : ℕ) → 0 < n → n < 2 ^ 64 → length (library.decimal n) ≤ n
digits_few n p l =
    by_cases (dec_lt n 10) (λ m. omega (arith, length-decimal-le 1 n (omega arith) m l, p))
    (λ m. by_cases (dec_lt n 100) (λ k. omega (arith, length-decimal-le 2 n (omega arith) k l, m))
    (λ k. omega (arith, length-decimal-le 20 n (omega arith) (omega (arith, l)) l, k)))

pub decimal_lem : (n : ℕ) → n < 2 ^ 64 → library.decimal n ≡ decimal n
unfolding decimal_in library.digits
decimal_lem zero l = refl
decimal_lem (suc n) l =
    sym (decimal_from_appends decimal_in appends (suc n) (suc n) l (digits_few (suc n) (omega arith) l))
