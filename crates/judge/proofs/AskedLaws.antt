-- The truths of the comparisons that were asked for. Assumes nothing.
use mathlib.Core.Path.{◌≡◌, refl, sym, ◌∙◌}
use mathlib.Core.List.{List}
use Prim.Native.Nat.{ℕ, ◌<◌}
use native.Mathlib.Omega.{arith}
use lib.Dec.{eqb}
use lib.ListN.{length, get_or-replicate, length-replicate, length-set, replicate, set}
use lib.Seq.{get_or-set_other, get_or-set_same}
use borrow.Author.Tests.{eqb-false, eqb-true}
use Rattle.std.specs.declared.option.Option.{Option}
use Rattle.std.specs.declared.option.Option.TheVariants.{None, Some}
use Rattle.laws.proofs.Tests.{by-test}
use Rattle.theory.specs.declared.answer.Truth.{Truth}
use Rattle.meaning.specs.Format.{comparison_count}
use Rattle.book.specs.Framed.{Framed}
use Rattle.judge.specs.Held.{Asked, fresh_at}

not_some : (o : Option Truth) (x : Truth) → o ≡ None → o ≡ Some x → ⊥
not_some o x p q = cc

some_is : (o : Option Truth) (v x : Truth) → o ≡ Some v → o ≡ Some x → v ≡ x
some_is o v x p q = cc

-- at first none
pub asked_none : (b : List ℕ) (W : List Truth) → Framed b → Asked b W (replicate 512 None)
asked_none b W F = record {
  long = length-replicate {A = Option Truth} 512 None;
  truths = λ c x l e.
      absurd (not_some _ x (get_or-replicate 512 c None None (omega (arith, l, F.counts 4 (omega arith)))) e);
}

-- one more
module _
    (b : List ℕ)
    (W : List Truth)
    (K : List (Option Truth))
    (c : ℕ)
    (k : Asked b W K)
    (l : c < comparison_count b) where
  asked_room : Framed b → c < length K
  asked_room F = omega (arith, l, k.long, F.counts 4 (omega arith))

  pub asked_more : (v : Truth) → v ≡ fresh_at b W c → Framed b → Asked b W (set K c (Some v))
  asked_more v e F = record {
    long = length-set K c (Some v) ∙ k.long;
    truths = λ i x m s.
        by-test (eqb c i)
        (λ t. let q : c ≡ i = eqb-true c i t in
        let here = rw (← q, get_or-set_same K c (Some v) None (asked_room F)) at s in
        sym (some_is _ v x refl here) ∙ rw (← q) e)
        (λ f. let n = eqb-false c i f in
        k.truths i x m (rw (get_or-set_other K c i (Some v) None (λ q. n (sym q))) at s));
  }
