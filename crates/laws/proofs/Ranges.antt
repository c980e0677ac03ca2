-- Parts of lists: their entries by place, and tests over them. Assumes nothing.
use mathlib.Core.Path.{◌≡◌, refl, sym, ap, ◌∙◌, subst}
use mathlib.Core.Logic.{by_cases}
use mathlib.Core.Bool.{Bool, true, false, ◌&&◌, ◌||◌, So}
use mathlib.Core.List.{List, [], ◌∷◌, ◌++◌, map}
use Prim.Native.Nat.{ℕ, ◌+◌, ◌-◌, ◌<◌, ◌≤◌}
use native.Mathlib.Decide.{dec_lt}
use native.Mathlib.Omega.{arith}
use borrow.Author.Tests.{le-leb, leb-true}
use lib.Dec.{leb}
use lib.ListN.{length, get_or, take}
use lib.Seq.{get_or-drop, get_or-take, length-slice, slice}
use Rattle.laws.specs.Lists.{In, any, any_to, gather}
use Rattle.laws.proofs.Entries.{entry_any, get_or_in}
use Rattle.std.proofs.Math.Bool.{or_comm}
use Rattle.std.proofs.lemmas.List.Folds.{list_any-append}
use Rattle.std.proofs.lemmas.List.Recursion.{or_from_places, or_push}
use Rattle.std.proofs.lemmas.Bool.{and_from, and_parts, both_ways, false_from_ne_true}
use Rattle.laws.proofs.Numbers.{any_number, number_any}

module _ {X : Type 0} (d : X) (xs : List X) (first end : ℕ) where
  pub slice_at : (k : ℕ) → first + k < end → get_or (slice first end xs) k d ≡ get_or xs (first + k) d
  slice_at k l = get_or-drop first (take end xs) k d ∙ get_or-take end xs (first + k) d l

  -- an entry of the part, by its place in the whole
  pub slice_in : (i : ℕ) → first ≤ i → i < end → end ≤ length xs → In (get_or xs i d) (slice first end xs)
  slice_in i l m n =
      let k : ℕ = i - first in
      let q : first + k ≡ i = omega (arith, l) in
      subst (λ x. In x (slice first end xs)) (slice_at k (omega (arith, m, q)) ∙ ap (λ (j : ℕ). get_or xs j d) q)
      (get_or_in d (slice first end xs) k (omega (arith, m, q, length-slice first end xs n)))

  -- a test over the part
  module _ (f : X → Bool) (n : end ≤ length xs) where
    pub slice_some : (i : ℕ) → first ≤ i → i < end → So (f (get_or xs i d)) → any f (slice first end xs) ≡ true
    slice_some i l m t = entry_any f (slice first end xs) (get_or xs i d) (slice_in i l m n) t

    pub slice_none : ((i : ℕ) → first ≤ i → i < end → f (get_or xs i d) ≡ false) → any f (slice first end xs) ≡ false
    slice_none h =
        or_from_places (any f) f refl (λ _ _. refl) (slice first end xs) d
        (λ k l. let m : first + k < end = omega (arith, l, length-slice first end xs n) in
        ap f (slice_at k m) ∙ h (first + k) (omega arith) m)

pub any_map : {X Y : Type 0} (f : Y → Bool) (g : X → Y) (xs : List X) → any f (map g xs) ≡ any (λ x. f (g x)) xs
any_map f g [] = refl
any_map f g (x ∷ xs) = ap (λ (b : Bool). f (g x) || b) (any_map f g xs)

-- one entry more, at the end
pub any_last : {X : Type 0} (f : X → Bool) (xs : List X) (x : X) → any f (xs ++ x ∷ []) ≡ (f x || any f xs)
any_last f xs x = or_push (any f) f refl (λ _ _. refl) xs x ∙ or_comm (any f xs) (f x)

pub any_gather : {X Y : Type 0} (f : Y → Bool) (g : X → List Y) (xs : List X) →
    any f (gather g xs) ≡ any (λ x. any f (g x)) xs
any_gather f g [] = refl
any_gather f g (x ∷ xs) =
    list_any-append f (g x) (gather g xs) ∙ ap (λ (b : Bool). any f (g x) || b) (any_gather f g xs)

-- none of the numbers from `first` on, up to i, passes a test
unfoldable pub NoneBetween : (ℕ → Bool) → ℕ → ℕ → Type 0
NoneBetween f first i = (j : ℕ) → first ≤ j → j < i → f j ≡ false

module _ (f : ℕ → Bool) (first : ℕ) where
  pub between_start : NoneBetween f first first
  unfolding NoneBetween
  between_start j l m = absurd (omega (arith, l, m))

  pub between_more : (i : ℕ) → NoneBetween f first i → f i ≡ false → NoneBetween f first (i + 1)
  unfolding NoneBetween
  between_more i c e j l m =
      by_cases (dec_lt j i) (c j l) (λ n. let q : j ≡ i = omega (arith, m, n) in rw q e)

  -- the same by the answer to the test
  pub between_next : (i : ℕ) (v : Bool) → NoneBetween f first i → v ≡ f i → v ≡ false → NoneBetween f first (i + 1)
  between_next i v c p e = between_more i c (sym p ∙ e)

  -- what such a loop up to `end` returns
  pub between_found : (i end : ℕ) → NoneBetween f first i → first ≤ i → i < end → So (f i) →
      true ≡ any_to (λ k. leb first k && f k) end
  between_found i end c l m t = sym (number_any (λ k. leb first k && f k) end i m (and_from _ _ (le-leb first i l) t))

  pub between_none : (i end : ℕ) → NoneBetween f first i → end ≤ i → false ≡ any_to (λ k. leb first k && f k) end
  unfolding NoneBetween
  between_none i end c l =
      sym
      (false_from_ne_true (any_to (λ k. leb first k && f k) end)
      (λ p. let (k, m, u) = any_number (λ k. leb first k && f k) end p in
      let (p, t) = and_parts (leb first k) (f k) u in
      both_ways _ (c k (leb-true first k p) (omega (arith, l, m))) t))

pub ruleset between = (between_start, between_next, between_found, between_none)
