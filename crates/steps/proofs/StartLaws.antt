-- What is assumed at the start of a search: all candidates count as false, and how many are only assumed false.
-- Assumes nothing.
use mathlib.Core.Path.{◌≡◌, refl, ◌∙◌}
use mathlib.Core.Logic.{by_cases}
use mathlib.Core.Bool.{Bool, true, false, cond, ◌&&◌}
use mathlib.Core.List.{List}
use Prim.Native.Nat.{ℕ, ◌+◌, ◌^◌, ◌<◌, ◌≤◌}
use native.Mathlib.Decide.{dec_lt}
use native.Mathlib.Numerals.{add-one}
use native.Mathlib.Omega.{arith}
use lib.Dec.{eqb}
use lib.ListN.{length, get_or, length-replicate, length-set, replicate, set}
use borrow.Author.Tests.{eqb-true}
use Rattle.std.proofs.lemmas.Bool.{and_parts}
use Rattle.laws.proofs.Tests.{by-test}
use Rattle.theory.specs.Truth.{is_false, is_undefined}
use Rattle.theory.specs.declared.answer.Truth.{Truth}
use Rattle.theory.proofs.Truth.{undefined_of}
use Rattle.meaning.specs.Format.{atom_count}
use Rattle.book.specs.Records.{level_read}
use Rattle.judge.specs.Held.{held}
use Rattle.steps.specs.declared.search.Finding.{Finding}
use Rattle.steps.specs.declared.level.Level.{Level}
use Rattle.steps.specs.Due.{Due, due_in, pending_in}
use Rattle.steps.specs.Strike.{Known, Searched, counted_truth, only_assumed, waiting}
use Rattle.steps.proofs.WorkLaws.{few, held_none, held_other, held_same}
use Rattle.steps.proofs.AssumedLaws.{assumed_start, counts_wiped}
use Rattle.steps.proofs.KnownLaws.{known_none}
use Rattle.steps.proofs.StrikeLaws.{waiting_same}

-- all three steps are due to undefined atoms alone
due_undefined : (b : List ℕ) (n : ℕ) (A : List Truth) (D : List ℕ) (a : ℕ) → Due b n A D → a < atom_count b →
    get_or D a 0 ≡ 3 → held A a ≡ Truth.Undefined
unfolding due_in pending_in
due_undefined b n A D a w l e =
    by-test (is_undefined (held A a) && eqb (level_read b a) n)
    (λ t. undefined_of (held A a) (and_parts (is_undefined (held A a)) _ t).0)
    (λ f. let z : get_or D a 0 ≡ 0 = w.steps a l ∙ rw f in absurd (omega (arith, z, e)))

-- the first m atoms are assumed, so many of them are only assumed false, and the others are undefined
pub record CountedTo (A : List Truth) (D : List ℕ) (W : List Truth) (left m : ℕ) : Type 0 where
  pub long : length W ≡ 2048
  pub at : (a : ℕ) → a < m → held W a ≡ counted_truth (get_or D a 0) (held A a)
  pub rest : (a : ℕ) → m ≤ a → held W a ≡ Truth.Undefined
  pub waits : left ≡ waiting A W m
  pub within : left ≤ m

pub counted_none : (A : List Truth) (D : List ℕ) → CountedTo A D (replicate 2048 Truth.Undefined) 0 0
unfolding waiting
counted_none A D = record {
  long = length-replicate {A = Truth} 2048 Truth.Undefined;
  at = λ a l. absurd (omega (arith, l));
  rest = λ a _. held_none 2048 a;
  waits = refl;
  within = omega arith;
}

module _ (s : Level) (D : List ℕ) (W : List Truth) (left a : ℕ) (w : CountedTo s.answers.now D W left a)
    (d : Due s.book.frame.bytes.now s.number s.answers.now D) where
  abbrev b : List ℕ
  b = s.book.frame.bytes.now

  abbrev A : List Truth
  A = s.answers.now

  module _ (x y : Truth) (u : ℕ) (ex : x ≡ held A a) (ey : y ≡ counted_truth (get_or D a 0) x)
      (eu : u ≡ cond (eqb (get_or D a 0) 3) 1 0) (l : a < length A) where
    here_room : a < length W
    here_room = omega (arith, few b s.book.frame.framed, s.whole, l, w.long)

    here : held (set W a y) a ≡ counted_truth (get_or D a 0) (held A a)
    here = held_same W a y here_room ∙ ey ∙ rw ex

    other : (i : ℕ) → (i ≡ a → ⊥) → held (set W a y) i ≡ held W i
    other = held_other W a y

    one : u ≡ cond (only_assumed A (set W a y) a) 1 0
    one = rw here (go u (eqb (get_or D a 0) 3) (held A a) eu
        (λ q. due_undefined b s.number A D a d (omega (arith, l, s.whole)) (eqb-true (get_or D a 0) 3 q)))
      where
        go : (k : ℕ) (v : Bool) (x : Truth) → k ≡ cond v 1 0 → (v ≡ true → x ≡ Truth.Undefined) →
            k ≡ cond (is_false (cond v Truth.False x) && is_undefined x) 1 0
        go k true x e f = e ∙ rw (f refl)
        go k false Truth.Undefined e f = e
        go k false Truth.True e f = e
        go k false Truth.False e f = e

    small : u ≤ 1
    small = most u (eqb (get_or D a 0) 3) eu
      where
        most : (k : ℕ) (v : Bool) → k ≡ cond v 1 0 → k ≤ 1
        most k true e = omega (arith, e)
        most k false e = omega (arith, e)

    pub counted_more : CountedTo A D (set W a y) (left + u) (a + 1)
    unfolding waiting
    counted_more = record {
      long = length-set W a y ∙ w.long;
      at = λ i m.
          by_cases (dec_lt i a) (λ o. other i (λ q. omega (arith, o, q)) ∙ w.at i o)
          (λ o. let q : i ≡ a = omega (arith, m, o) in rw q here);
      rest = λ i m. other i (λ q. omega (arith, m, q)) ∙ w.rest i (omega (arith, m));
      waits = rw (add-one, one, w.waits, waiting_same A W (set W a y) a (λ i m. other i (λ q. omega (arith, m, q))));
      within = omega (arith, w.within, small);
    }

    pub counted_fits : left + u < 2 ^ 16
    counted_fits = omega (arith, w.within, small, here_room, w.long)

  module _ (m : a ≤ length A) (l : length A ≤ a) (x : ℕ) (e : x ≡ left) where
    all : a ≡ atom_count b
    all = omega (arith, m, l, s.whole)

    pub counted_all : Searched b s.number A W x
    counted_all = record {
      assumed = assumed_start b s.number A W s.whole w.long
          (λ i o. w.at i (omega (arith, o, all)) ∙ counts_wiped b s.number A D d i o)
          (λ i o. w.rest i (omega (arith, o, all)));
      waits = e ∙ w.waits ∙ rw all;
    }

    pub counted_known : Known b W (replicate 512 Finding.Unknown) (replicate 64 false) x
    counted_known = known_none b W x (omega (arith, e, w.within, all, few b s.book.frame.framed))
