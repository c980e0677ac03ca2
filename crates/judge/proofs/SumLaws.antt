-- Count and sum: what the loop over the elements keeps, and the truth of a comparison that it gives. Assumes nothing.
use mathlib.Core.Path.{◌≡◌, ap, ◌∙◌}
use mathlib.Core.Bool.{Bool, true, false, cond}
use mathlib.Core.List.{List}
use Prim.Native.Nat.{ℕ, ◌+◌, ◌*◌, ◌^◌, ◌<◌, ◌≤◌}
use native.Mathlib.Omega.{arith}
use lib.IntN.{ℤ, pos, nat_abs, ◌+ℤ◌}
use lib.Signed.{lt_z}
use mir.Syntax.{w64}
use mir.Val.{of_z, to_z}
use Rattle.laws.proofs.Signed.{reads_back}
use Rattle.laws.proofs.Sizes.{abs_add}
use Rattle.theory.specs.declared.answer.Truth.{Truth}
use Rattle.meaning.specs.Format.{element_count}
use Rattle.meaning.specs.Truth.{element_truth, least, least_share, most, most_share, total}
use Rattle.book.specs.Framed.{Framed}
use Rattle.judge.specs.Held.{held}
use Rattle.judge.specs.declared.sums.Ends.{Ends}
use Rattle.judge.specs.Ranges.{element_read, elements_read, weighing}
use Rattle.judge.proofs.RangeLaws.{elements_more, elements_none, total_more}

-- a share is no larger than its weight
abbrev Small : (Truth → ℤ → ℤ) → Type 0
Small share = (t : Truth) (w : ℤ) → nat_abs (share t w) ≤ nat_abs w

or_nothing : (b : Bool) (w : ℤ) → nat_abs (cond b w (pos 0)) ≤ nat_abs w
or_nothing true w = omega arith
or_nothing false w = omega arith

least_small : Small least_share
least_small Truth.Undefined w = or_nothing (lt_z w (pos 0)) w
least_small Truth.True w = omega arith
least_small Truth.False w = omega arith

most_small : Small most_share
most_small Truth.Undefined w = or_nothing (lt_z (pos 0) w) w
most_small Truth.True w = omega arith
most_small Truth.False w = omega arith

-- x has the totals of the shares of the elements before e, each of at most 2 ^ 31
module _ (weigh : ℤ → ℤ) (b : List ℕ) (W : List Truth) (first : ℕ) where
  unfoldable pub total_to : (Truth → ℤ → ℤ) → ℕ → ℤ
  total_to share e = total (λ x. share (element_truth (held W) x) (weighing weigh x)) (elements_read b first e)

  pub record Summed (e : ℕ) (x : Ends) : Type 0 where
    pub least_is : x.least ≡ total_to least_share e
    pub most_is : x.most ≡ total_to most_share e
    pub least_small : nat_abs x.least ≤ e * 2 ^ 31
    pub most_small : nat_abs x.most ≤ e * 2 ^ 31

  pub sum_start : Summed first (record { least = pos 0; most = pos 0 })
  unfolding total_to
  sum_start = record {
    least_is = rw (elements_none b first);
    most_is = rw (elements_none b first);
    least_small = omega arith;
    most_small = omega arith;
  }

  -- one element more, of truth t and weight w
  module _
      (e past : ℕ)
      (x : Ends)
      (w : ℤ)
      (F : Framed b)
      (within : past ≤ element_count b)
      (l : e < past)
      (sum : Summed e x)
      (bound : nat_abs w ≤ 2 ^ 31) where
    back : to_z w64 (of_z w64 w) ≡ w
    back = reads_back {z = w} (omega (arith, bound))

    pub least_fits : nat_abs x.least + nat_abs (to_z w64 (of_z w64 w)) < 2 ^ 63
    least_fits = rw back (omega (arith, sum.least_small, bound, l, within, F.counts 5 (omega arith)))

    pub most_fits : nat_abs x.most + nat_abs (to_z w64 (of_z w64 w)) < 2 ^ 63
    most_fits = rw back (omega (arith, sum.most_small, bound, l, within, F.counts 5 (omega arith)))

    module _
        (own : ℤ)
        (t : Truth)
        (y : Ends)
        (m : first ≤ e)
        (truth : t ≡ element_truth (held W) (element_read b e))
        (own_is : own ≡ (element_read b e).weight)
        (own_bound : nat_abs own ≤ 2 ^ 31)
        (weight : w ≡ weigh (to_z w64 (of_z w64 own))) where
      w_is : w ≡ weighing weigh (element_read b e)
      w_is = weight ∙ ap weigh (reads_back {z = own} (omega (arith, own_bound)) ∙ own_is)

      module _
          (share : Truth → ℤ → ℤ)
          (small : Small share)
          (s z : ℤ)
          (r : z ≡ s +ℤ share t (to_z w64 (of_z w64 w))) where
        z_is : z ≡ s +ℤ share t w
        z_is = rw back at r

        more_is : s ≡ total_to share e → z ≡ total_to share (e + 1)
        unfolding total_to
        more_is q =
            z_is ∙ rw (elements_more b first e m (omega (arith, l, within)), total_more, ← w_is, ← truth)
            (ap (λ (v : ℤ). v +ℤ share t w) q)

        more_small : nat_abs s ≤ e * 2 ^ 31 → nat_abs z ≤ (e + 1) * 2 ^ 31
        more_small q = rw z_is (omega (arith, abs_add s (share t w), small t w, q, bound))

      pub sum_more : y.least ≡ x.least +ℤ least_share t (to_z w64 (of_z w64 w)) →
          y.most ≡ x.most +ℤ most_share t (to_z w64 (of_z w64 w)) → Summed (e + 1) y
      sum_more p q = record {
        least_is = more_is least_share least_small x.least y.least p sum.least_is;
        most_is = more_is most_share most_small x.most y.most q sum.most_is;
        least_small = more_small least_share least_small x.least y.least p sum.least_small;
        most_small = more_small most_share most_small x.most y.most q sum.most_small;
      }

  -- at the end
  module _
      (many e : ℕ)
      (x : Ends)
      (l : first ≤ first + many → e ≤ first + many)
      (m : first + many ≤ e)
      (sum : Summed e x) where
    same : e ≡ first + many
    same = omega (arith, l (omega arith), m)

    pub least_end : x.least ≡ least (weighing weigh) (held W) (elements_read b first (first + many))
    unfolding total_to least
    least_end = rw (← same) sum.least_is

    pub most_end : x.most ≡ most (weighing weigh) (held W) (elements_read b first (first + many))
    unfolding total_to most
    most_end = rw (← same) sum.most_is

pub ruleset summed = (sum_start, least_fits, most_fits, sum_more, least_end, most_end)
