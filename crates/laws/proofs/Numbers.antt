-- Tests over the numbers below a bound, a loop that looks for one that passes, and the same over a list's places.
-- Assumes nothing.
use mathlib.Core.Path.{◌≡◌, refl, sym, ◌∙◌}
use mathlib.Core.Bool.{Bool, true, false, So}
use mathlib.Core.List.{List}
use Prim.Native.Nat.{ℕ, ◌<◌, ◌≤◌}
use native.Mathlib.Omega.{arith}
use lib.ListN.{length, get_or}
use Rattle.laws.specs.Lists.{all, all_to, any, any_to}
use Rattle.std.specs.Bool.{Decides}
use Rattle.std.proofs.Math.Bool.{and_comm, or_comm}
use Rattle.std.proofs.lemmas.Bool.{both_ways, false_from_ne_true}
use Rattle.std.proofs.lemmas.Bool.Decides.{Decides-below_and, Decides-below_or, same_from_decides}
use Rattle.std.proofs.lemmas.List.Recursion.{and_at, and_from_places, or_is}
use Rattle.laws.proofs.Searches.{NoneTo, none_next, none_start}

pub same_test : (a b : Bool) → (So a → So b) → (So b → So a) → a ≡ b
same_test a b f g = same_from_decides {P = So b} a b (f, g) (λ t. t, λ t. t)

module _ (f : ℕ → Bool) where
  -- `any_to` is a test of "some number passes", and `all_to` of "every number passes"
  any_decides : (k : ℕ) → Decides (any_to f k) ((j : ℕ) × (j < k) × So (f j))
  unfolding any_to
  any_decides =
      Decides-below_or f (λ j. So (f j)) (any_to f) (λ j. (λ t. t, λ t. t)) refl (λ n. or_comm (any_to f n) (f n))

  all_decides : (k : ℕ) → Decides (all_to f k) ((j : ℕ) → j < k → So (f j))
  unfolding all_to
  all_decides =
      Decides-below_and f (λ j. So (f j)) (all_to f) (λ j. (λ t. t, λ t. t)) refl (λ n. and_comm (all_to f n) (f n))

  pub any_number : (k : ℕ) → So (any_to f k) → (j : ℕ) × (j < k) × So (f j)
  any_number k = (any_decides k).0

  pub number_any : (k j : ℕ) → j < k → So (f j) → So (any_to f k)
  number_any k j l t = (any_decides k).1 (j, l, t)

  pub all_number : (k : ℕ) → So (all_to f k) → (j : ℕ) → j < k → So (f j)
  all_number k = (all_decides k).0

  pub number_all : (k : ℕ) → ((j : ℕ) → j < k → So (f j)) → So (all_to f k)
  number_all k = (all_decides k).1

-- over a list's entries, by their places
module _ {X : Type 0} (d : X) (g : X → Bool) (f : ℕ → Bool) (xs : List X) (same : (k : ℕ) →
    k < length xs → g (get_or xs k d) ≡ f k) where
  pub any_to_lem : any g xs ≡ any_to f (length xs)
  any_to_lem =
      sym
      (or_is (any g) g refl (λ _ _. refl) xs d (any_to f (length xs))
      (λ t. let (k, l, u) = any_number f (length xs) t in (k, l, same k l ∙ u))
      (λ e k l. same k l ∙ false_from_ne_true (f k) (λ u. both_ways _ e (number_any f (length xs) k l u))))

  pub all_to_lem : all g xs ≡ all_to f (length xs)
  all_to_lem =
      same_test (all g xs) (all_to f (length xs))
      (λ t. number_all f (length xs)
      (λ k l. sym (same k l) ∙ and_at (all g) g refl (λ _ _. refl) xs k d l t))
      (λ t. and_from_places (all g) g refl (λ _ _. refl) xs d (λ k l. same k l ∙ all_number f (length xs) t k l))

-- none of the numbers passes where `any_to` fails
module _ (f : ℕ → Bool) where
  pub any_none : (n : ℕ) → any_to f n ≡ false → NoneTo f n
  unfolding NoneTo
  any_none n c i l = false_from_ne_true (f i) (λ t. both_ways _ c (number_any f n i l t))

  -- what a loop that ends at the first number that passes returns
  pub some_passes : (i n : ℕ) → NoneTo f i → i < n → So (f i) → true ≡ any_to f n
  some_passes i n c l t = sym (number_any f n i l t)

  pub none_passes : (i n : ℕ) → NoneTo f i → n ≤ i → false ≡ any_to f n
  unfolding NoneTo
  none_passes i n c l =
      sym
      (false_from_ne_true (any_to f n)
      (λ t. let (j, m, u) = any_number f n t in both_ways _ (c j (omega (arith, l, m))) u))

pub ruleset passing = (none_start, none_next, some_passes, none_passes)
