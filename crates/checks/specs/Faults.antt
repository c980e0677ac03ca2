-- The tests of checks 4 and 5 at a record of any table, and their searches through the tables. Assumes nothing.
use Rattle.std.specs.Prelude.{◌≡◌, Bool, false, List, [], ◌∷◌, map, ℕ, suc, get_or, Option, Some, None}
use Rattle.std.proofs.Math.Option as math
use Rattle.std.proofs.Math.Option.{none, some}
use Rattle.laws.specs.Lists.{seek_from}
use Rattle.meaning.specs.Format.{atom_count, comparison_count, count_of, element_count, hypothesis_count}
use Rattle.meaning.specs.Format.{predicate_count}
use Rattle.meaning.specs.Refusal.{Refusal, at_record, first_of, refuse, stray_atom, stray_comparison, stray_element}
use Rattle.meaning.specs.Refusal.{stray_hypothesis, stray_rule, unlisted_atom, unlisted_comparison, unlisted_element}
use Rattle.meaning.specs.Refusal.{unlisted_hypothesis, unlisted_predicate}
use Rattle.book.specs.Records.{atom_in, comparison_in, element_in, hypothesis_in, predicate_in, rule_in}

-- a test that no record meets
abbrev pub never : ℕ → Bool
never i = false

-- check 4 at record i of the k-th body; rules have no codes
abbrev pub unlisted_tests : List ℕ → List (ℕ → Bool)
unlisted_tests b =
    (λ i. unlisted_predicate i (predicate_in b i))
    ∷ (λ i. unlisted_atom i (atom_in b i))
    ∷ never
    ∷ (λ i. unlisted_hypothesis i (hypothesis_in b i))
    ∷ (λ i. unlisted_comparison i (comparison_in b i))
    ∷ (λ i. unlisted_element i (element_in b i))
    ∷ []

-- check 5 likewise; predicates point at nothing
abbrev pub stray_tests : List ℕ → List (ℕ → Bool)
stray_tests b =
    never
    ∷ (λ i. stray_atom (predicate_count b) i (atom_in b i))
    ∷ (λ i. stray_rule (atom_count b) (hypothesis_count b) i (rule_in b i))
    ∷ (λ i. stray_hypothesis (atom_count b) (comparison_count b) i (hypothesis_in b i))
    ∷ (λ i. stray_comparison (element_count b) i (comparison_in b i))
    ∷ (λ i. stray_element (atom_count b) i (element_in b i))
    ∷ []

-- the two, table by table
unfoldable pub unlisted_in : List ℕ → ℕ → ℕ → Bool
unlisted_in b k i = get_or (unlisted_tests b) k never i

unfoldable pub stray_in : List ℕ → ℕ → ℕ → Bool
stray_in b k i = get_or (stray_tests b) k never i

-- calls that answer a test of table and record
abbrev pub Answering : (ℕ → ℕ → Bool → Type 0) → (ℕ → ℕ → Bool) → Type 0
Answering says test = (k i : ℕ) (v : Bool) → says k i v → v ≡ test k i

-- the refusal of a check at a place, if there is one
abbrev pub at_place : ℕ → Option (ℕ × ℕ) → math.Option Refusal
at_place number None = none
at_place number (Some p) = some (refuse number p.0 p.1)

-- the lowest record of the k-th body at fault
unfoldable pub body_refusal : List ℕ → ℕ → (ℕ → ℕ → Bool) → ℕ → math.Option Refusal
body_refusal b number test k = at_record number (suc k) (seek_from (test k) 0 (count_of b k))

-- the bodies in table order
abbrev pub bodies : List ℕ
bodies = 0 ∷ 1 ∷ 2 ∷ 3 ∷ 4 ∷ 5 ∷ []

-- the first body with a record at fault
unfoldable pub bodies_refusal : List ℕ → ℕ → (ℕ → ℕ → Bool) → math.Option Refusal
bodies_refusal b number test = first_of (map (body_refusal b number test) bodies)
