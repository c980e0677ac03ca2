-- Check 8: the search through the predicates. Assumes nothing.
use mathlib.Core.Path.{◌≡◌, refl}
use mathlib.Core.Bool.{Bool}
use mathlib.Core.List.{List}
use Prim.Native.Nat.{ℕ}
use Rattle.meaning.specs.Format.{no_predicate, predicate_count, tables}
use Rattle.meaning.specs.Refusal.{mixed_below, refusal8}
use Rattle.book.specs.Records.{predicate_in}
use Rattle.book.proofs.Counts.{predicates_length}
use Rattle.checks.proofs.LowestLaws.{Found, Seeks, Through, found, lowest_is, through, turns}

-- the i-th and those below it
unfoldable pub mixed_at : List ℕ → ℕ → Bool
mixed_at b i = mixed_below (tables b).predicates i (predicate_in b i)

-- the search through all
mixture_seek : (b : List ℕ) → Seeks (refusal8 (tables b).predicates) 8 1 (mixed_at b) (predicate_count b)
unfolding refusal8 mixed_at
mixture_seek b =
    lowest_is 8 1 (mixed_below (tables b).predicates) (mixed_at b) no_predicate (tables b).predicates
    (predicates_length b) (λ i l. refl)

pub mixture_found : (b : List ℕ) → Found (refusal8 (tables b).predicates) 8 1 (mixed_at b) (predicate_count b)
mixture_found b = found (mixture_seek b)

pub mixture_through : (b : List ℕ) → Through (refusal8 (tables b).predicates) (mixed_at b) (predicate_count b)
mixture_through b = through (mixture_seek b)

pub mixed_at_lem : (b : List ℕ) (i : ℕ) (v : Bool) → v ≡ mixed_below (tables b).predicates i (predicate_in b i) →
    v ≡ mixed_at b i
unfolding mixed_at
mixed_at_lem b i v p = p

pub ruleset mixture = (turns, mixed_at_lem, mixture_found, mixture_through)
