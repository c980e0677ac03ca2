-- Check 6: how far each element was compared with those after it. Assumes nothing.
use mathlib.Core.Path.{◌≡◌}
use mathlib.Core.List.{List}
use Prim.Native.Nat.{ℕ, ◌+◌, ◌<◌, ◌≤◌}
use native.Mathlib.Omega.{arith}
use lib.ListN.{length, get_or, get_or-replicate, length-replicate, replicate}
use Rattle.book.specs.Records.{element_in}

-- no element after i and before j has i's atom
pub record Apart (b : List ℕ) (i j : ℕ) : Type 0 where
  pub most : j ≤ 4096
  pub other : (y : ℕ) → i < y → y < j → (element_in b i).atom ≡ (element_in b y).atom → ⊥

-- what is remembered: for each element, up to where the later ones have other atoms
pub record Seen (b seen : List ℕ) : Type 0 where
  pub room : length seen ≡ 4096
  pub at : (i : ℕ) → i < 4096 → Apart b i (get_or seen i 0)

module _ (b : List ℕ) where
  -- at the start nothing was compared
  apart_soon : (i j : ℕ) → j ≤ i + 1 → i < 4096 → Apart b i j
  apart_soon i j l m = record { most = omega arith; other = λ y k n q. omega (arith, k, n) }

  pub seen_none : Seen b (replicate 4096 0)
  seen_none = record {
    room = length-replicate {A = ℕ} 4096 0;
    at = λ i l. rw (get_or-replicate {A = ℕ} 4096 i 0 0 l) (apart_soon i 0 (omega arith) l);
  }
