-- Entries by their place: of `map_at`, and past the end of a list. Assumes nothing.
use mathlib.Core.Path.{◌≡◌, refl, sym, ap, ◌∙◌}
use mathlib.Core.Logic.{by_cases}
use mathlib.Core.List.{List, [], ◌∷◌}
use Prim.Native.Nat.{ℕ, zero, suc, ◌+◌, ◌≤◌, ◌<◌}
use native.Mathlib.Omega.{arith}
use native.Mathlib.Decide.{dec_lt}
use native.Mathlib.Nat.{add-zero, add-suc, suc-add, zero-add}
use lib.ListN.{length, get_or}
use Rattle.std.proofs.lemmas.List.{get_or_past}
use Rattle.laws.specs.Lists.{map_at}

-- past the end stands the default
pub get_or_out : {X : Type 0} (d : X) (xs : List X) (a : ℕ) → length xs ≤ a → get_or xs a d ≡ d
get_or_out d xs a l = get_or_past xs a d l

-- an entry that is not the default stands in the list
pub place_in : {X : Type 0} (d : X) (xs : List X) (a : ℕ) → (get_or xs a d ≡ d → ⊥) → a < length xs
place_in d xs a n =
    by_cases (dec_lt a (length xs)) (λ l. l) (λ out. absurd (n (get_or_past xs a d (omega (arith, out)))))

module _ {X Y : Type 0} (f : ℕ → X → Y) where
  pub map_at_length : (i : ℕ) (xs : List X) → length (map_at f i xs) ≡ length xs
  map_at_length i [] = refl
  map_at_length i (x ∷ xs) = ap suc (map_at_length (suc i) xs)

  -- an entry made from its place, counted from i, and from the entry there
  map_at_from : (d : X) (e : Y) (xs : List X) (i a : ℕ) → a < length xs →
      get_or (map_at f i xs) a e ≡ f (i + a) (get_or xs a d)
  map_at_from d e [] i a l = absurd (omega (arith, l))
  map_at_from d e (x ∷ xs) i zero l = ap (λ (k : ℕ). f k x) (sym (add-zero i))
  map_at_from d e (x ∷ xs) i (suc a) l =
      map_at_from d e xs (suc i) a (omega (arith, l)) ∙
      ap (λ (k : ℕ). f k (get_or xs a d)) (suc-add i a ∙ sym (add-suc i a))

  pub map_at_at : (d : X) (e : Y) (xs : List X) (a : ℕ) → a < length xs →
      get_or (map_at f 0 xs) a e ≡ f a (get_or xs a d)
  map_at_at d e xs a l = map_at_from d e xs 0 a l ∙ ap (λ (k : ℕ). f k (get_or xs a d)) (zero-add a)

  -- and past the end
  pub map_at_out : (e : Y) (i : ℕ) (xs : List X) (a : ℕ) → length xs ≤ a → get_or (map_at f i xs) a e ≡ e
  map_at_out e i xs a l = get_or_past (map_at f i xs) a e (omega (arith, l, map_at_length i xs))
