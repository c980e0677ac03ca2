-- Chains over the numbers of a range: what `any` and `all` return where the closure answers a test. Assumes nothing.
use mathlib.Core.Path.{◌≡◌, refl, sym, ◌∙◌, subst}
use mathlib.Core.Bool.{Bool, true, false, So}
use mathlib.Core.List.{List}
use Prim.Native.Nat.{ℕ, ◌+◌, ◌-◌, ◌<◌, ◌≤◌}
use native.Mathlib.Omega.{arith}
use lib.ListN.{length, get_or}
use lib.Seq.{slice}
use denote.Param.Members.{Mut}
use Rattle.std.specs.declared.ops.Range.{Range}
use Rattle.std.specs.Fn.{Called}
use Rattle.std.specs.Bool.{MatchBool}
use Rattle.std.specs.List.{range_with_len, AllWithin, HoldsAt}
use Rattle.std.specs.Iterator.{ChecksAny}
use Rattle.std.proofs.iter.Yields.{nat_range_steps}
use Rattle.std.proofs.lemmas.Iterator.{cases_from_any, YieldsList-from_range}
use Rattle.std.proofs.lemmas.List.FromFn.{length-range_with_len, get_or-range_with_len}
use Rattle.std.proofs.lemmas.Bool.{both_ways, false_from_ne_true}
use Rattle.laws.specs.Lists.{any_to, any}
use Rattle.laws.proofs.Numbers.{number_any, any_number}
use Rattle.laws.proofs.Ranges.{NoneBetween, slice_none, slice_some}

-- the numbers from a up to b, as a list
abbrev numbers : ℕ → ℕ → List ℕ
numbers a b = range_with_len a (b - a)

-- a fact of one of them, and of them all, by their places in the list
module _ (P : ℕ → Type 0) (a b : ℕ) where
  abbrev Somewhere : Type 0
  Somewhere = (k : ℕ) × (k < length (numbers a b)) × HoldsAt P (numbers a b) k

  abbrev Everywhere : Type 0
  Everywhere = AllWithin P (numbers a b) 0 (length (numbers a b))

  some_number : Somewhere → (k : ℕ) × (a ≤ k) × (k < b) × P k
  some_number (k, l, p) =
      let m : k < b - a = omega (arith, l, length-range_with_len a (b - a)) in
      (a + k, omega arith, omega (arith, m), subst P (get_or-range_with_len a (b - a) k 0 m) (p 0))

  every_number : Everywhere → (k : ℕ) → a ≤ k → k < b → P k
  every_number h k l m =
      let i : k - a < b - a = omega (arith, l, m) in
      let q : a + (k - a) ≡ k = omega (arith, l) in
      subst P (get_or-range_with_len a (b - a) (k - a) 0 i ∙ q)
      (h (k - a) 0 (omega arith) (omega (arith, i, length-range_with_len a (b - a))))

-- what `any` says of the numbers from a up to b: one passes, or none does
abbrev pub Sought : (ℕ → Bool) → ℕ → ℕ → Bool → Type 0
Sought t a b r = MatchBool r ((k : ℕ) × (a ≤ k) × (k < b) × So (t k)) (NoneBetween t a b)

-- each call answers the test, and leaves the closure as it was
abbrev pub Answers : {F : Type 0} → Mut F (ℕ × Unit {0}) Bool → F → (ℕ → Bool) → Type 0
Answers {F} g f t = (x : ℕ) (b : Bool) (q : F) → Called g f (x, tt) b q → (q ≡ f) × (b ≡ t x)

module _ {F : Type 0} {g : Mut F (ℕ × Unit {0}) Bool} {f : F} {s u : Range ℕ} {r : Bool} {t : ℕ → Bool} where
  pub sought : ChecksAny nat_range_steps g s f r u → Answers g f t → Sought t s.start s.end r
  unfolding NoneBetween
  sought d h =
      by r
      (cases_from_any u f r (λ k. So (t k)) (λ k. t k ≡ false) d (YieldsList-from_range s.start s.end _ refl refl)
      (λ x q c. sym (h x true q c).1) (λ x q c. ((h x false q c).0, sym (h x false q c).1)))
    where
      by : (r : Bool) →
          MatchBool r (Somewhere (λ k. So (t k)) s.start s.end) (Everywhere (λ k. t k ≡ false) s.start s.end) →
          Sought t s.start s.end r
      by true h = some_number (λ k. So (t k)) s.start s.end h
      by false h = every_number (λ k. t k ≡ false) s.start s.end h

  pub any_of_range : {n : ℕ} → ChecksAny nat_range_steps g s f r u → s.start ≡ 0 → s.end ≡ n → Answers g f t →
      r ≡ any_to t n
  unfolding NoneBetween
  any_of_range {n} d e i h = by r (rw (e, i) at (sought d h))
    where
      by : (r : Bool) → Sought t 0 n r → r ≡ any_to t n
      by true (k, _, l, p) = sym (number_any t n k l p)
      by false c =
          sym
          (false_from_ne_true (any_to t n)
          (λ p. let (k, l, u) = any_number t n p in both_ways _ (c k (omega arith) l) u))

  -- and over the entries of a part of a list, of which the closure answers by their places
  pub any_slice : {X : Type 0} {a b : ℕ} (p : X → Bool) (xs : List X) (d : X) → ChecksAny nat_range_steps g s f r u →
      s.start ≡ a → s.end ≡ b → b ≤ length xs → Answers g f t →
      ((k : ℕ) → k < length xs → p (get_or xs k d) ≡ t k) → r ≡ any p (slice a b xs)
  unfolding NoneBetween
  any_slice {a = a} {b = b} p xs x d e i n h same = by r (rw (e, i) at (sought d h))
    where
      by : (r : Bool) → Sought t a b r → r ≡ any p (slice a b xs)
      by true (k, l, m, q) = sym (slice_some x xs a b p n k l m (same k (omega (arith, m, n)) ∙ q))
      by false c = sym (slice_none x xs a b p n (λ k l m. same k (omega (arith, m, n)) ∙ c k l m))
