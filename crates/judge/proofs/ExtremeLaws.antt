-- Max and min: what one element more adds to what is gathered, and what each relation asks of it. Assumes nothing.
use mathlib.Core.Path.{◌≡◌, ◌∙◌}
use mathlib.Core.Bool.{Bool, true, false, ◌&&◌}
use mathlib.Core.List.{List, [], ◌∷◌, ◌++◌}
use Prim.Native.Nat.{ℕ, ◌+◌, ◌^◌, ◌<◌, ◌≤◌}
use native.Mathlib.Omega.{arith}
use lib.IntN.{ℤ, nat_abs}
use lib.Signed.{mag}
use mir.Facts.{to_z-of_z}
use mir.Syntax.{w64}
use mir.Val.{of_z, to_z}
use Rattle.laws.proofs.Signed.{reads_back}
use Rattle.laws.proofs.Lasts.{all_more, any_more}
use Rattle.theory.specs.declared.answer.Truth.{Truth}
use Rattle.theory.specs.Answers.{Answers}
use Rattle.meaning.specs.Format.{element_count}
use Rattle.meaning.specs.Reading.{Element}
use Rattle.meaning.specs.declared.codes.Relation.{Relation}
use Rattle.meaning.specs.Truth.{attained, definite, extreme, possible}
use Rattle.judge.specs.Held.{held}
use Rattle.judge.specs.Ranges.{element_read, elements_read}
use Rattle.judge.specs.Gathered.{added, gathered, picked}
use Rattle.judge.specs.declared.extremes.Extremes.{Extremes}
use Rattle.judge.proofs.RangeLaws.{elements_more, elements_none}

gathered_more : (below : ℤ → ℤ → Bool) (A : Answers) (k : ℤ) (es : List Element) (e : Element) →
    gathered below A k (es ++ e ∷ []) ≡
    added (gathered below A k es) (definite A e) (possible A e) (below e.weight k) (below k e.weight)
unfolding gathered
gathered_more below A k es e = simp (any_more, all_more)

-- what is found among the elements before e
module _ (below : ℤ → ℤ → Bool) (b : List ℕ) (W : List Truth) (k : ℤ) (first : ℕ) where
  unfoldable pub found_to : ℕ → Extremes
  found_to e = gathered below (held W) k (elements_read b first e)

  pub found_start : record {
    definite = false;
    equal = false;
    above = false;
    reaching = false;
    unequal = true;
    below = true;
    within = true;
  } ≡ found_to first
  unfolding found_to gathered
  found_start = rw (elements_none b first)

  pub found_more : (past e : ℕ) (d p : Bool) (w : ℤ) (x y : Extremes) (u v : Bool) → past ≤ element_count b → e < past →
      first ≤ e → x ≡ found_to e → d ≡ definite (held W) (element_read b e) → p ≡ possible (held W) (element_read b e) →
      w ≡ (element_read b e).weight → nat_abs w ≤ 2 ^ 31 → mag k < 2 ^ 63 →
      u ≡ below (to_z w64 (of_z w64 w)) (to_z w64 (of_z w64 k)) →
      v ≡ below (to_z w64 (of_z w64 k)) (to_z w64 (of_z w64 w)) →
      y ≡ added x d p u v → y ≡ found_to (e + 1)
  unfolding found_to
  found_more past e d p w x y u v l m n ex ed ep ew small bound eu ev ey =
      let w-back = reads_back {z = w} (omega (arith, small)) in
      let k-back : to_z w64 (of_z w64 k) ≡ k = to_z-of_z {w = w64} (record { sfits = omega (arith, bound) }) in
      ey ∙ rw (elements_more b first e n (omega (arith, l, m)), gathered_more, eu, ev, w-back, k-back, ew, ed, ep, ex)

  pub found_end : (many e : ℕ) (x : Extremes) → (first ≤ first + many → e ≤ first + many) → first + many ≤ e →
      x ≡ found_to e → x ≡ gathered below (held W) k (elements_read b first (first + many))
  unfolding found_to
  found_end many e x l m q = let same : e ≡ first + many = omega (arith, l (omega arith), m) in q ∙ rw same

pub ruleset found = (found_start, found_more, found_end)

-- a relation asks for what document 01 says
pub attained_is : (below : ℤ → ℤ → Bool) (A : Answers) (k : ℤ) (es : List Element) (x : Extremes) (r : Relation) →
    x ≡ gathered below A k es → (x.definite && picked r x) ≡ attained below r A es k
unfolding gathered extreme
attained_is below A k es x Relation.Eq e = rw e
attained_is below A k es x Relation.Ne e = rw e
attained_is below A k es x Relation.Lt e = rw e
attained_is below A k es x Relation.Le e = rw e
attained_is below A k es x Relation.Gt e = rw e
attained_is below A k es x Relation.Ge e = rw e
