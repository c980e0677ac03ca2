-- What it says that a refusal is absent, and when it is: a search that finds no record at fault. Assumes nothing.
use mathlib.Core.Path.{◌≡◌, refl, sym, ap, subst}
use mathlib.Core.Bool.{Bool, true, false}
use mathlib.Core.List.{List, [], ◌∷◌, ◌++◌}
use mathlib.Core.Option.{Option, none, some}
use Prim.Native.Nat.{ℕ, ◌<◌}
use native.Mathlib.Nat.{zero-add}
use lib.ListN.{length, get_or}
use Rattle.std.proofs.Math.Option.{some-ne-none}
use Rattle.laws.specs.Lists.{Every, In, seek}
use Rattle.laws.proofs.Entries.{in_get_or}
use Rattle.laws.proofs.Searches.{none_seek, seek_none}
use Rattle.meaning.specs.Refusal.{Refusal, at_record, at_table, first_of, lowest, refuse_if}

-- none is given exactly if each is absent
pub none_each : (rs : List (Option Refusal)) → first_of rs ≡ none → Every (λ r. r ≡ none) rs
none_each [] e = tt
none_each (none ∷ rs) e = (refl, none_each rs e)
none_each (some r ∷ rs) e = absurd (some-ne-none _ e)

pub each_none : (rs : List (Option Refusal)) → Every (λ r. r ≡ none) rs → first_of rs ≡ none
each_none [] e = refl
each_none (r ∷ rs) (e, es) = rw e (each_none rs es)

-- the first of two groups of refusals, and then the second
pub first_append : (rs ss : List (Option Refusal)) → first_of rs ≡ none → first_of (rs ++ ss) ≡ first_of ss
first_append [] ss e = refl
first_append (none ∷ rs) ss e = first_append rs ss e
first_append (some r ∷ rs) ss e = absurd (some-ne-none _ e)

pub first_found : (rs ss : List (Option Refusal)) (r : Refusal) → first_of rs ≡ some r → first_of (rs ++ ss) ≡ some r
first_found [] ss r e = absurd (some-ne-none _ (sym e))
first_found (none ∷ rs) ss r e = first_found rs ss r e
first_found (some s ∷ rs) ss r e = e

-- a test that refuses nothing fails, and a search that refuses nothing found nothing
pub none_if : (number : ℕ) (met : Bool) → refuse_if number met ≡ none → met ≡ false
none_if number true e = absurd (some-ne-none _ e)
none_if number false e = refl

pub none_table : (number : ℕ) (o : Option ℕ) → at_table number o ≡ none → o ≡ none
none_table number none e = refl
none_table number (some k) e = absurd (some-ne-none _ e)

none_record : (number table : ℕ) (o : Option ℕ) → at_record number table o ≡ none → o ≡ none
none_record number table none e = refl
none_record number table (some k) e = absurd (some-ne-none _ e)

-- a test of place and record that no record meets
module _ {X : Type 0} (number table : ℕ) (fault : ℕ → X → Bool) (d : X) (xs : List X) where
  pub clear_at : lowest number table fault xs ≡ none → (k : ℕ) → k < length xs → fault k (get_or xs k d) ≡ false
  unfolding lowest
  clear_at e k l =
      subst (λ (m : ℕ). fault m (get_or xs k d) ≡ false) (zero-add k)
      (seek_none fault d 0 xs (none_record number table (seek fault 0 xs) e) k l)

  pub at_clear : ((k : ℕ) → k < length xs → fault k (get_or xs k d) ≡ false) → lowest number table fault xs ≡ none
  unfolding lowest
  at_clear h =
      ap (at_record number table)
      (none_seek fault d 0 xs (λ k l. subst (λ (m : ℕ). fault m (get_or xs k d) ≡ false) (sym (zero-add k)) (h k l)))

  -- of an entry: it stands at some place
  pub clear_entry : lowest number table fault xs ≡ none → (x : X) → In x xs → (k : ℕ) × (fault k x ≡ false)
  clear_entry e x i =
      let (k, l, q) = in_get_or d xs x i in
      (k, subst (λ y. fault k y ≡ false) q (clear_at e k l))
