-- Entries of lists: what `all` and `any` say of them, and where entries of made lists come from. Assumes nothing.
use mathlib.Core.Path.{◌≡◌, refl, sym, ap}
use mathlib.Core.Logic.{◌⊎◌, inl, inr, ⊎_elim}
use mathlib.Core.Bool.{Bool, false, So, false≢true}
use mathlib.Core.List.{List, [], ◌∷◌, ◌++◌, map}
use Prim.Native.Nat.{ℕ, zero, suc, ◌<◌}
use lib.ListN.{length, get_or, take, drop}
use native.Mathlib.Omega.{arith}
use Rattle.std.proofs.lemmas.List.{get_or-map}
use Rattle.std.proofs.lemmas.Bool.{and_from, and_parts, both_ways, or_left, or_right}
use Rattle.laws.specs.Lists.{In, all, any, gather}
use Rattle.laws.proofs.Tests.{by-test}

module _ {X : Type 0} (f : X → Bool) where
  -- what passes somewhere passes at an entry
  pub any_entry : (xs : List X) → So (any f xs) → (x : X) × In x xs × So (f x)
  any_entry [] e = absurd (false≢true e)
  any_entry (x ∷ xs) e =
      by-test (f x) (λ y. (x, inl refl, y)) (λ n. let (z, i, y) = any_entry xs (rw n at e) in (z, inr i, y))

  pub entry_any : (xs : List X) (x : X) → In x xs → So (f x) → So (any f xs)
  entry_any [] x i e = elim i [ ]
  entry_any (y ∷ ys) x (inl q) e = or_left (f y) (any f ys) (rw q e)
  entry_any (y ∷ ys) x (inr i) e = or_right (f y) (any f ys) (entry_any ys x i e)

  -- what passes everywhere passes at each entry
  pub all_entry : (xs : List X) → So (all f xs) → (x : X) → In x xs → So (f x)
  all_entry [] e x i = elim i [ ]
  all_entry (y ∷ ys) e x (inl q) = rw (← q) (and_parts (f y) (all f ys) e).0
  all_entry (y ∷ ys) e x (inr i) = all_entry ys (and_parts (f y) (all f ys) e).1 x i

  pub entry_all : (xs : List X) → ((x : X) → In x xs → So (f x)) → So (all f xs)
  entry_all [] h = refl
  entry_all (y ∷ ys) h = and_from _ _ (h y (inl refl)) (entry_all ys (λ x i. h x (inr i)))

  -- a test that fails somewhere
  pub not_all : (xs : List X) → all f xs ≡ false → (x : X) × In x xs × (f x ≡ false)
  not_all [] e = absurd (false≢true (sym e))
  not_all (x ∷ xs) e =
      by-test (f x) (λ t. let (y, i, q) = not_all xs (rw t at e) in (y, inr i, q)) (λ q. (x, inl refl, q))

  -- a test that passes nowhere
  pub none_any : (xs : List X) → ((x : X) → In x xs → f x ≡ false) → any f xs ≡ false
  none_any [] h = refl
  none_any (x ∷ xs) h = rw (h x (inl refl)) (none_any xs (λ y i. h y (inr i)))

  pub any_none : (xs : List X) → any f xs ≡ false → (x : X) → In x xs → f x ≡ false
  any_none xs e x i = by-test (f x) (λ t. absurd (both_ways _ e (entry_any xs x i t))) (λ n. n)

-- a test that passes wherever another does
module _ {X : Type 0} (f g : X → Bool) where
  pub any_map : (xs : List X) → ((x : X) → In x xs → So (f x) → So (g x)) → So (any f xs) → So (any g xs)
  any_map xs h e = let (x, i, y) = any_entry f xs e in entry_any g xs x i (h x i y)

  pub all_map : (xs : List X) → ((x : X) → In x xs → So (f x) → So (g x)) → So (all f xs) → So (all g xs)
  all_map xs h e = entry_all g xs (λ x i. h x i (all_entry f xs e x i))

-- entries of joined lists, of the first n entries and of those after them
module _ {X : Type 0} where
  pub in_left : (xs ys : List X) (x : X) → In x xs → In x (xs ++ ys)
  in_left [] ys x i = elim i [ ]
  in_left (z ∷ xs) ys x (inl e) = inl e
  in_left (z ∷ xs) ys x (inr i) = inr (in_left xs ys x i)

  pub in_right : (xs ys : List X) (x : X) → In x ys → In x (xs ++ ys)
  in_right [] ys x i = i
  in_right (z ∷ xs) ys x i = inr (in_right xs ys x i)

  pub in_append : (xs ys : List X) (x : X) → In x (xs ++ ys) → In x xs ⊎ In x ys
  in_append [] ys x i = inr i
  in_append (z ∷ xs) ys x (inl e) = inl (inl e)
  in_append (z ∷ xs) ys x (inr i) = ⊎_elim (λ j. inl (inr j)) inr (in_append xs ys x i)

  pub in_take : (n : ℕ) (xs : List X) (x : X) → In x (take n xs) → In x xs
  in_take zero xs x i = absurd i
  in_take (suc n) [] x i = absurd i
  in_take (suc n) (y ∷ ys) x (inl e) = inl e
  in_take (suc n) (y ∷ ys) x (inr i) = inr (in_take n ys x i)

  pub in_drop : (n : ℕ) (xs : List X) (x : X) → In x (drop n xs) → In x xs
  in_drop zero xs x i = i
  in_drop (suc n) [] x i = absurd i
  in_drop (suc n) (y ∷ ys) x i = inr (in_drop n ys x i)

  -- the entry at a place, and the place of an entry
  pub get_or_in : (d : X) (xs : List X) (k : ℕ) → k < length xs → In (get_or xs k d) xs
  get_or_in d [] k l = absurd (omega (arith, l))
  get_or_in d (x ∷ xs) zero l = inl refl
  get_or_in d (x ∷ xs) (suc k) l = inr (get_or_in d xs k (omega (arith, l)))

  pub in_get_or : (d : X) (xs : List X) (x : X) → In x xs → (k : ℕ) × (k < length xs) × (get_or xs k d ≡ x)
  in_get_or d [] x i = elim i [ ]
  in_get_or d (y ∷ ys) x (inl e) = (0, omega arith, e)
  in_get_or d (y ∷ ys) x (inr i) = let (k, l, e) = in_get_or d ys x i in (suc k, omega (arith, l), e)

-- entries of mapped lists and of joined ones
module _ {X Y : Type 0} where
  pub in_map : (f : X → Y) (xs : List X) (x : X) → In x xs → In (f x) (map f xs)
  in_map f [] x i = elim i [ ]
  in_map f (z ∷ xs) x (inl e) = inl (ap f e)
  in_map f (z ∷ xs) x (inr i) = inr (in_map f xs x i)

  pub map_in : (f : X → Y) (xs : List X) (y : Y) → In y (map f xs) → (x : X) × In x xs × (f x ≡ y)
  map_in f [] y i = elim i [ ]
  map_in f (z ∷ xs) y (inl e) = (z, inl refl, e)
  map_in f (z ∷ xs) y (inr i) = let (x, j, e) = map_in f xs y i in (x, inr j, e)

  pub in_gather : (f : X → List Y) (xs : List X) (x : X) (y : Y) → In x xs → In y (f x) → In y (gather f xs)
  in_gather f [] x y m i = elim m [ ]
  in_gather f (z ∷ xs) x y (inl e) i = in_left (f z) (gather f xs) y (rw e i)
  in_gather f (z ∷ xs) x y (inr j) i = in_right (f z) (gather f xs) y (in_gather f xs x y j i)

  pub gather_in : (f : X → List Y) (xs : List X) (y : Y) → In y (gather f xs) → (x : X) × In x xs × In y (f x)
  gather_in f [] y i = elim i [ ]
  gather_in f (z ∷ xs) y i =
      ⊎_elim (λ j. (z, inl refl, j)) (λ j. let (x, k, l) = gather_in f xs y j in (x, inr k, l))
      (in_append (f z) (gather f xs) y i)

  -- a map read at a place of the list, whatever stands past its end
  pub map_at_lem : (f : X → Y) (d : X) (e : Y) (xs : List X) (k : ℕ) → k < length xs →
      get_or (map f xs) k e ≡ f (get_or xs k d)
  map_at_lem f d e xs k l = get_or-map f xs k d e l
