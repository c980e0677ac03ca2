-- Searches: `seek` finds nothing exactly if every entry fails the test. Assumes nothing.
use mathlib.Core.Path.{◌≡◌, refl, sym, ap, ◌∙◌, subst}
use mathlib.Core.Bool.{Bool, true, false, cond, not, So}
use mathlib.Core.List.{List, [], ◌∷◌}
use mathlib.Core.Option.{Option, none, some, some-ne-none}
use Prim.Native.Nat.{ℕ, zero, suc, ◌+◌, ◌<◌, ◌≤◌}
use native.Mathlib.Nat.{zero-add}
use native.Mathlib.Omega.{arith}
use lib.ListN.{length, get_or}
use borrow.Author.Count.{below_more, below_none}
use borrow.Author.Tests.{not-false}
use Rattle.laws.specs.Lists.{seek, seek_from}

-- what is found is not nothing
pub some≢none : {X : Type 0} {x : X} → some x ≡ none → ⊥
some≢none {x = x} e = some-ne-none x e

module _ {X : Type 0} (f : ℕ → X → Bool) (d : X) where
  -- where a search finds nothing, its first test fails and the rest of it finds nothing
  split : (b : Bool) (i : ℕ) (o : Option ℕ) → cond b (some i) o ≡ none → (b ≡ false) × (o ≡ none)
  split true i o e = absurd (some≢none e)
  split false i o e = (refl, e)

  pub seek_none : (i : ℕ) (xs : List X) → seek f i xs ≡ none → (k : ℕ) → k < length xs →
      f (i + k) (get_or xs k d) ≡ false
  seek_none i [] e k l = absurd (omega (arith, l))
  seek_none i (x ∷ xs) e zero l =
      let q : i ≡ i + 0 = omega arith in
      subst (λ (m : ℕ). f m x ≡ false) q (split (f i x) i (seek f (suc i) xs) e).0
  seek_none i (x ∷ xs) e (suc k) l =
      let q : suc i + k ≡ i + suc k = omega arith in
      subst (λ (m : ℕ). f m (get_or xs k d) ≡ false) q
      (seek_none (suc i) xs (split (f i x) i (seek f (suc i) xs) e).1 k (omega (arith, l)))

  pub none_seek : (i : ℕ) (xs : List X) → ((k : ℕ) → k < length xs → f (i + k) (get_or xs k d) ≡ false) →
      seek f i xs ≡ none
  none_seek i [] h = refl
  none_seek i (x ∷ xs) h =
      let q : i + 0 ≡ i = omega arith in
      let here : f i x ≡ false = subst (λ (m : ℕ). f m x ≡ false) q (h 0 (omega arith)) in
      rw here
      (none_seek (suc i) xs
      (λ k l. let q : i + suc k ≡ suc i + k = omega arith in
      subst (λ (m : ℕ). f m (get_or xs k d) ≡ false) q (h (suc k) (omega (arith, l)))))

-- the first entry that passes is found
module _ {X : Type 0} (f : ℕ → X → Bool) (d : X) where
  found_from : (i : ℕ) (xs : List X) (k : ℕ) → k < length xs → ((j : ℕ) → j < k → f (i + j) (get_or xs j d) ≡ false) →
      So (f (i + k) (get_or xs k d)) → seek f i xs ≡ some (i + k)
  found_from i [] k l clear at = absurd (omega (arith, l))
  found_from i (x ∷ xs) zero l clear at =
      let q : i + 0 ≡ i = omega arith in
      rw q (let t : So (f i x) = subst (λ (m : ℕ). So (f m x)) q at in rw t)
  found_from i (x ∷ xs) (suc k) l clear at =
      let q : i + 0 ≡ i = omega arith in
      let here : f i x ≡ false = subst (λ (m : ℕ). f m x ≡ false) q (clear 0 (omega arith)) in
      let up : (j : ℕ) → i + suc j ≡ suc i + j = λ j. omega arith in
      rw here
      (found_from (suc i) xs k (omega (arith, l))
      (λ j m. subst (λ (n : ℕ). f n (get_or xs j d) ≡ false) (up j) (clear (suc j) (omega (arith, m))))
      (subst (λ (n : ℕ). So (f n (get_or xs k d))) (up k) at) ∙
      ap some (sym (up k)))

  pub seek_first : (xs : List X) (k : ℕ) → k < length xs → ((j : ℕ) → j < k → f j (get_or xs j d) ≡ false) →
      So (f k (get_or xs k d)) → seek f 0 xs ≡ some k
  seek_first xs k l clear at =
      found_from 0 xs k l (λ j m. subst (λ (n : ℕ). f n (get_or xs j d) ≡ false) (sym (zero-add j)) (clear j m))
      (subst (λ (n : ℕ). So (f n (get_or xs k d))) (sym (zero-add k)) at) ∙
      ap some (zero-add k)

-- two tests that agree at every place find the same
pub seek_same : {X : Type 0} (f g : ℕ → X → Bool) (i : ℕ) (xs : List X) →
    ((k : ℕ) (x : X) → k < i + length xs → f k x ≡ g k x) → seek f i xs ≡ seek g i xs
seek_same f g i [] h = refl
seek_same f g i (x ∷ xs) h =
    rw (h i x (omega arith), seek_same f g (suc i) xs (λ k y l. h k y (omega (arith, l)))) refl

-- what a search finds is a place of the list
pub seek_below : {X : Type 0} (f : ℕ → X → Bool) (i : ℕ) (xs : List X) (k : ℕ) → seek f i xs ≡ some k →
    k < i + length xs
seek_below f i [] k e = absurd (some≢none (sym e))
seek_below f i (x ∷ xs) k e = go (f i x) (seek f (suc i) xs) (seek_below f (suc i) xs k) e
  where
    go : (t : Bool) (o : Option ℕ) → (o ≡ some k → k < suc i + length xs) → cond t (some i) o ≡ some k →
        k < i + suc (length xs)
    go true o h e = let q : i ≡ k = cc in omega (arith, q)
    go false o h e = omega (arith, h e)

-- A table's rule, proved at all its entries by one search that is computed: none is against it.
pub table_rule : (f : ℕ → ℕ → Bool) (xs : List ℕ) → seek (λ k x. not (f k x)) 0 xs ≡ none → (k : ℕ) → k < length xs →
    So (f k (get_or xs k 0))
table_rule f xs e k l =
    not-false _
    (subst (λ (m : ℕ). not (f m (get_or xs k 0)) ≡ false) (zero-add k) (seek_none (λ k x. not (f k x)) 0 0 xs e k l))

-- a search over numbers, from the first on
module _ (f : ℕ → Bool) where
  -- none of the numbers below i passes
  unfoldable pub NoneTo : ℕ → Type 0
  NoneTo i = (j : ℕ) → j < i → f j ≡ false

  pub none_start : NoneTo 0
  unfolding NoneTo
  none_start = below_none _

  pub none_more : (i : ℕ) → NoneTo i → f i ≡ false → NoneTo (i + 1)
  unfolding NoneTo
  none_more i c e = below_more _ i c e

  -- the same by the answer to the test
  pub none_next : (i : ℕ) (v : Bool) → NoneTo i → v ≡ f i → v ≡ false → NoneTo (i + 1)
  none_next i v c p e = none_more i c (sym p ∙ e)

  from_none : (i n : ℕ) → ((j : ℕ) → i ≤ j → j < i + n → f j ≡ false) → seek_from f i n ≡ none
  from_none i zero h = refl
  from_none i (suc n) h =
      rw (h i (omega arith) (omega arith))
      (from_none (suc i) n (λ j l m. h j (omega (arith, l)) (omega (arith, m))))

  pub numbers_none : (i n : ℕ) → NoneTo i → n ≤ i → seek_from f 0 n ≡ none
  unfolding NoneTo
  numbers_none i n c l = from_none 0 n (λ j _ m. c j (omega (arith, m, l)))

  from_first : (i n k : ℕ) → k < n → ((j : ℕ) → i ≤ j → j < i + k → f j ≡ false) → So (f (i + k)) →
      seek_from f i n ≡ some (i + k)
  from_first i zero k l h t = absurd (omega (arith, l))
  from_first i (suc n) zero l h t =
      let q : i + 0 ≡ i = omega arith in
      rw q (let s : So (f i) = rw q at t in rw s)
  from_first i (suc n) (suc k) l h t =
      let q : i + suc k ≡ suc i + k = omega arith in
      rw (h i (omega arith) (omega arith), q)
      (from_first (suc i) n k (omega (arith, l)) (λ j l m. h j (omega (arith, l)) (omega (arith, m))) (rw q at t))

  pub numbers_first : (i n : ℕ) → NoneTo i → i < n → So (f i) → seek_from f 0 n ≡ some i
  unfolding NoneTo
  numbers_first i n c l t =
      from_first 0 n i l (λ j _ m. c j (omega (arith, m))) (rw zero-add t) ∙ ap some (zero-add i)

-- what a loop over the numbers below n keeps, and what it returns
pub ruleset lowest = (none_start, none_next, numbers_none, numbers_first)

-- a loop over the numbers below n that ends at the first of them that gives something
module _ {X : Type 0} (f : ℕ → Option X) where
  -- none of the numbers below i gives anything
  unfoldable pub AbsentTo : ℕ → Type 0
  AbsentTo i = (j : ℕ) → j < i → f j ≡ none

  pub absent_start : AbsentTo 0
  unfolding AbsentTo
  absent_start = below_none _

  pub absent_more : (i : ℕ) → AbsentTo i → f i ≡ none → AbsentTo (i + 1)
  unfolding AbsentTo
  absent_more i c e = below_more _ i c e

pub ruleset absent = (absent_start, absent_more)

-- a search over a list's entries is one over their places
pub seek_numbers : {X : Type 0} (f : ℕ → X → Bool) (g : ℕ → Bool) (d : X) (i : ℕ) (xs : List X) →
    ((k : ℕ) → k < length xs → f (i + k) (get_or xs k d) ≡ g (i + k)) → seek f i xs ≡ seek_from g i (length xs)
seek_numbers f g d i [] h = refl
seek_numbers f g d i (x ∷ xs) h =
    let q : i + 0 ≡ i = omega arith in
    let here : f i x ≡ g i = subst (λ (m : ℕ). f m x ≡ g m) q (h 0 (omega arith)) in
    rw here (ap (cond (g i) (some i))
    (seek_numbers f g d (suc i) xs
    (λ k l. let q : i + suc k ≡ suc i + k = omega arith in
    subst (λ (m : ℕ). f m (get_or xs k d) ≡ g m) q (h (suc k) (omega (arith, l))))))
