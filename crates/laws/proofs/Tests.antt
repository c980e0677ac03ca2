-- Tests: each passes or fails, and what `&&`, `||` and `not` say. Assumes nothing.
use mathlib.Core.Path.{◌≡◌, refl}
use mathlib.Core.Logic.{⊎_elim}
use mathlib.Core.Bool.{Bool, true, false, not, ◌&&◌, ◌||◌, So}
use Rattle.std.proofs.lemmas.Bool.{and_from, and_parts, both_ways, false_from_ne_true, not_from_false, not-true}
use Rattle.std.proofs.lemmas.Bool.{or_cases, or_left, or_right}

pub by-test {ℓ} : {A : Type ℓ} (b : Bool) → (So b → A) → (b ≡ false → A) → A
by-test true t f = t refl
by-test false t f = f refl

-- `not` and a test that does not pass
pub not_of : (b : Bool) → So (not b) → So b → ⊥
not_of b n y = both_ways b (not-true b n) y

pub of_not : (b : Bool) → (So b → ⊥) → So (not b)
of_not b n = not_from_false b (false_from_ne_true b n)

-- a conjunction that fails
pub and_fails : (a b : Bool) → So a → (a && b) ≡ false → b ≡ false
and_fails a b p e = rw p at e

-- tests that pass as soon as others do
pub and_map : (a b c d : Bool) → (So a → So c) → (So b → So d) → So (a && b) → So (c && d)
and_map a b c d f g t = let (x, y) = and_parts a b t in and_from c d (f x) (g y)

pub or_map : (a b c d : Bool) → (So a → So c) → (So b → So d) → So (a || b) → So (c || d)
or_map a b c d f g t = ⊎_elim (λ x. or_left c d (f x)) (λ y. or_right c d (g y)) (or_cases a b t)

pub not_map : (a b : Bool) → (So b → So a) → So (not a) → So (not b)
not_map a b f t = of_not b (λ e. not_of a t (f e))
