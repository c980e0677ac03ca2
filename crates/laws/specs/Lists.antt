-- Tests, searches and maps over lists, all of which compute. Assumes nothing.
use Rattle.std.specs.Prelude.{◌≡◌, ◌⊎◌, Bool, true, false, cond, ◌&&◌, ◌||◌, List, [], ◌∷◌, ℕ, zero, suc, eqb}
use Rattle.std.proofs.Math.Option.{Option, none, some}
-- of the library: P holds at every entry; every entry passes a test, or some does; the lists of all entries, joined
pub use Rattle.std.specs.List.{AllByRecursion as Every, list_all as all, list_any as any, flat_map as gather}
use Rattle.std.specs.Fn.{iterate}

module _ {X : Type 0} where
  -- x is an entry of the list
  abbrev pub In : X → List X → Type 0
  In x [] = ⊥
  In x (y ∷ ys) = (y ≡ x) ⊎ In x ys

  -- the place of the first entry that passes a test of place and entry, places counted from i
  abbrev pub seek : (ℕ → X → Bool) → ℕ → List X → Option ℕ
  seek f i [] = none
  seek f i (x ∷ xs) = cond (f i x) (some i) (seek f (suc i) xs)

  -- f, n times over
  unfoldable pub times : ℕ → (X → X) → X → X
  times n f = iterate f n

module _ {X Y : Type 0} where
  -- each entry by its place and content, places counted from i
  abbrev pub map_at : (ℕ → X → Y) → ℕ → List X → List Y
  map_at f i [] = []
  map_at f i (x ∷ xs) = f i x ∷ map_at f (suc i) xs

-- the first number from i on, of n, that passes a test
abbrev pub seek_from : (ℕ → Bool) → ℕ → ℕ → Option ℕ
seek_from f i zero = none
seek_from f i (suc n) = cond (f i) (some i) (seek_from f (suc i) n)

-- some number below n passes a test, and every one does
unfoldable pub any_to : (ℕ → Bool) → ℕ → Bool
any_to f zero = false
any_to f (suc n) = any_to f n || f n

unfoldable pub all_to : (ℕ → Bool) → ℕ → Bool
all_to f zero = true
all_to f (suc n) = all_to f n && f n

-- some number stands twice
abbrev pub twice : List ℕ → Bool
twice [] = false
twice (x ∷ xs) = any (eqb x) xs || twice xs
