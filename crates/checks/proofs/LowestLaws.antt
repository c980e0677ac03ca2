-- The lowest record at fault: document 01's search through a table is one over numbers, and what its two ways out say.
-- Checks 4 to 11 end by these laws. Assumes nothing.
use mathlib.Core.Path.{◌≡◌, sym, ap, ◌∙◌, subst}
use mathlib.Core.Bool.{Bool, true}
use mathlib.Core.List.{List}
use mathlib.Core.Option.{Option, none, some}
use Prim.Native.Nat.{ℕ, ◌<◌, ◌≤◌}
use native.Mathlib.Nat.{zero-add}
use native.Mathlib.Omega.{arith}
use lib.ListN.{length, get_or}
use Rattle.laws.specs.Lists.{seek_from}
use Rattle.laws.proofs.Searches.{NoneTo, none_next, none_start, numbers_first, numbers_none, seek_numbers, table_rule}
use Rattle.meaning.specs.Refusal.{Refusal, at_record, lowest, refuse}

-- what a refusal is: the lowest of m records at fault, if there is one
pub record Seeks (o : Option Refusal) (number table : ℕ) (fault : ℕ → Bool) (m : ℕ) : Type 0 where
  pub is : o ≡ at_record number table (seek_from fault 0 m)

-- document 01's search is one: its test of a number and a record is one of the number
pub lowest_is : {X : Type 0} {n : ℕ} (number table : ℕ) (f : ℕ → X → Bool) (g : ℕ → Bool) (d : X) (xs : List X) →
    length xs ≡ n → ((i : ℕ) → i < n → f i (get_or xs i d) ≡ g i) → Seeks (lowest number table f xs) number table g n
unfolding lowest
lowest_is number table f g d xs e same = record {
  is =
      ap (at_record number table)
      (seek_numbers f g d 0 xs
      (λ i l. subst (λ (m : ℕ). f m (get_or xs i d) ≡ g m) (sym (zero-add i)) (same i (omega (arith, l, e)))) ∙
      ap (seek_from g 0) e);
}

-- where the search ends, having passed i of n records: at the next, or past the last. The answers are the code's.
abbrev pub Found : Option Refusal → ℕ → ℕ → (ℕ → Bool) → ℕ → Type 0
Found o number table fault m =
    (n i : ℕ) (v : Bool) (r : Refusal) → n ≡ m → NoneTo fault i → i < n → v ≡ fault i → v ≡ true →
    r ≡ refuse number table i → some r ≡ o

abbrev pub Through : Option Refusal → (ℕ → Bool) → ℕ → Type 0
Through o fault m = (n i : ℕ) → n ≡ m → NoneTo fault i → n ≤ i → none ≡ o

module _ {o : Option Refusal} {number table : ℕ} {fault : ℕ → Bool} {m : ℕ} (s : Seeks o number table fault m) where
  pub found : Found o number table fault m
  found n i v r e clear l p q x = rw (x, s.is, ← e, numbers_first fault i n clear l (sym p ∙ q))

  pub through : Through o fault m
  through n i e clear l = rw (s.is, ← e, numbers_none fault i n clear l)

-- the turns of such a search
pub ruleset turns = (none_start, none_next)
