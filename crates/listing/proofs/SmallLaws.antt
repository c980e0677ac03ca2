-- Refusals with a number above 0 and below 12, a table of one digit and a record of at most six: such are found by
-- searches and tests, and such can be taken apart again. Assumes nothing.
use mathlib.Core.Path.{◌≡◌, refl, sym, subst}
use mathlib.Core.Bool.{Bool, So, true, false, ◌&&◌}
use mathlib.Core.List.{List, [], ◌∷◌}
use mathlib.Core.Option.{Option, none, some}
use Prim.Native.Nat.{ℕ, suc, ◌/◌, ◌%◌, ◌<◌, ◌≤◌}
use native.Mathlib.Omega.{arith}
use lib.Dec.{ltb}
use lib.ListN.{length}
use borrow.Author.Tests.{lt-ltb, ltb-true}
use Rattle.std.proofs.Math.Option.{some-ne-none}
use Rattle.std.proofs.lemmas.Bool.{and_from, and_parts}
use Rattle.laws.specs.Lists.{seek}
use Rattle.laws.proofs.Searches.{seek_below}
use Rattle.meaning.specs.Refusal.{Refusal, at_record, at_table, first_of, lowest, packed, refuse, refuse_if}
use Rattle.listing.specs.Text.{packed_text, refused_text}

-- the numbers and tables that the program's refusals have: 12 is none of them, its room is long enough
abbrev pub numbered : ℕ → Bool
numbered number = ltb 0 number && ltb number 12

abbrev pub placed : ℕ → ℕ → Bool
placed number table = numbered number && ltb table 10

pub record Small (r : Refusal) : Type 0 where
  pub place : So (placed r.number r.table)
  pub row : r.row < 1000000

-- what is given, if anything is, is small
pub record AllSmall (o : Option Refusal) : Type 0 where
  pub each : (r : Refusal) → o ≡ some r → Small r

pub none_small : AllSmall none
none_small = record { each = λ r e. absurd (some-ne-none _ (sym e)) }

some_small : (s : Refusal) → So (placed s.number s.table) → s.row < 1000000 → AllSmall (some s)
some_small s p l =
    record { each = λ r e. let q : s ≡ r = cc in subst Small q (record { place = p; row = l }) }

-- of all in a list, and so of the first that is met
infixr 60 ◌and◌
pub data Smalls : List (Option Refusal) → Type 0 where
  nil : Smalls []
  ◌and◌ : {o : Option Refusal} {os : List (Option Refusal)} → AllSmall o → Smalls os → Smalls (o ∷ os)

pub first_small : (rs : List (Option Refusal)) → Smalls rs → AllSmall (first_of rs)
first_small [] nil = none_small
first_small (none ∷ rs) (h and hs) = first_small rs hs
first_small (some s ∷ rs) (h and hs) = h

pub if_small : (n : ℕ) (met : Bool) → So (placed n 0) → AllSmall (refuse_if n met)
if_small n true p = some_small (refuse n 0 0) p (omega arith)
if_small n false p = none_small

-- a search over the tables, and one over the records of a table
pub table_small : (n : ℕ) (f : ℕ → ℕ → Bool) (xs : List ℕ) → So (numbered n) → length xs ≤ 6 →
    AllSmall (at_table n (seek f 0 xs))
table_small n f xs p l = go (seek f 0 xs) (λ k e. omega (arith, seek_below f 0 xs k e, l))
  where
    go : (o : Option ℕ) → ((k : ℕ) → o ≡ some k → k < 6) → AllSmall (at_table n o)
    go none h = none_small
    go (some k) h =
        some_small (refuse n (suc k) 0) (and_from _ _ p (lt-ltb (suc k) 10 (omega (arith, h k refl)))) (omega arith)

pub lowest_small : {X : Type 0} (n t : ℕ) (f : ℕ → X → Bool) (xs : List X) → So (placed n t) → length xs ≤ 4096 →
    AllSmall (lowest n t f xs)
unfolding lowest
lowest_small n t f xs p l = go (seek f 0 xs) (λ k e. omega (arith, seek_below f 0 xs k e, l))
  where
    go : (o : Option ℕ) → ((k : ℕ) → o ≡ some k → k < 4096) → AllSmall (at_record n t o)
    go none h = none_small
    go (some k) h = some_small (refuse n t k) p (omega (arith, h k refl))

module _ (r : Refusal) (S : Small r) where
  number_listed : So (numbered r.number)
  number_listed = (and_parts (numbered r.number) (ltb r.table 10) S.place).0

  one_digit : r.table < 10
  one_digit = ltb-true r.table 10 (and_parts (numbered r.number) (ltb r.table 10) S.place).1

  pub number_below : r.number < 12
  number_below = ltb-true r.number 12 (and_parts (ltb 0 r.number) (ltb r.number 12) number_listed).1

  pub packed_some : 0 < packed r
  packed_some = omega (arith, ltb-true 0 r.number (and_parts (ltb 0 r.number) (ltb r.number 12) number_listed).0)

  -- number, table and record come back
  pub packed_apart : packed_text (packed r) ≡ refused_text r.number r.table r.row
  packed_apart =
      let n : packed r / 10000000 ≡ r.number = omega (arith, one_digit, S.row) in
      let t : packed r / 1000000 % 10 ≡ r.table = omega (arith, one_digit, S.row) in
      let i : packed r % 1000000 ≡ r.row = omega (arith, S.row) in
      rw (n, t, i)
