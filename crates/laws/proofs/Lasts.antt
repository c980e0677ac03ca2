-- The last entry of a list: of a slice that is one longer, of a map, and what tests over all entries make of it.
-- Assumes nothing.
use mathlib.Core.Path.{◌≡◌, refl}
use mathlib.Core.Bool.{Bool, ◌&&◌, ◌||◌}
use mathlib.Core.List.{List, [], ◌∷◌, ◌++◌}
use Prim.Native.Nat.{ℕ, ◌+◌, ◌<◌, ◌≤◌}
use native.Mathlib.Numerals.{add-one}
use native.Mathlib.Omega.{arith}
use lib.ListN.{length, get_or, take}
use lib.Seq.{drop-append-le, length-take-le, slice, slice_empty, take-suc}
use Rattle.laws.specs.Lists.{all, any}
use Rattle.std.proofs.lemmas.List.Recursion.{and_push, or_push}

module _ {X : Type 0} where
  pub slice_start : (first : ℕ) (xs : List X) → slice first (first + 0) xs ≡ []
  slice_start first xs = let e : first + 0 ≡ first = omega arith in rw e (slice_empty first xs)

  pub slice_more : (d : X) (first i : ℕ) (xs : List X) → first + i < length xs →
      slice first (first + (i + 1)) xs ≡ slice first (first + i) xs ++ get_or xs (first + i) d ∷ []
  slice_more d first i xs l =
      let e : first + (i + 1) ≡ first + i + 1 = omega arith in
      let fits : first ≤ length (take (first + i) xs) = omega (arith, length-take-le (first + i) xs (omega arith)) in
      rw (e, add-one, take-suc xs (first + i) d l) (drop-append-le _ _ _ fits)

  module _ (f : X → Bool) where
    pub any_more : (xs : List X) (x : X) → any f (xs ++ x ∷ []) ≡ (any f xs || f x)
    any_more xs x = or_push (any f) f refl (λ _ _. refl) xs x

    pub all_more : (xs : List X) (x : X) → all f (xs ++ x ∷ []) ≡ (all f xs && f x)
    all_more xs x = and_push (all f) f refl (λ _ _. refl) xs x
