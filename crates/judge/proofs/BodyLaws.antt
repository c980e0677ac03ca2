-- Rule bodies: a body by its records, and what one record more makes of it. Assumes nothing.
use mathlib.Core.Path.{◌≡◌, refl, sym, ap, ap₂, ◌∙◌}
use mathlib.Core.Logic.{inl, inr}
use mathlib.Core.Bool.{cond}
use mathlib.Core.List.{List, [], ◌∷◌, ◌++◌, map}
use Prim.Native.Nat.{ℕ, zero, suc, ◌+◌, ◌-◌, ◌<◌, ◌≤◌}
use native.Mathlib.Omega.{arith}
use lib.Dec.{ltb}
use lib.ListN.{get_or, length, take}
use lib.Seq.{length-slice, slice, slice_empty}
use borrow.Author.Tests.{le-ltb}
use Rattle.laws.specs.Lists.{In}
use Rattle.laws.proofs.Ranges.{slice_at}
use Rattle.laws.proofs.Entries.{in_drop, in_get_or, in_take}
use Rattle.theory.specs.declared.answer.Truth.{Truth}
use Rattle.theory.specs.Answers.{Answers}
use Rattle.meaning.specs.Format.{atom_count, comparison_count, hypothesis_count}
use Rattle.meaning.specs.declared.records.HypothesisRecord.{HypothesisRecord}
use Rattle.meaning.specs.declared.records.RuleRecord.{RuleRecord}
use Rattle.meaning.specs.Format.{no_hypothesis, rule_count, tables}
use Rattle.meaning.specs.Reading.{hypothesis_of, range, rule_of, sort_of}
use Rattle.meaning.specs.Reading as reading
use Rattle.meaning.specs.Truth.{body_truth, comparison_truth, hypothesis_truth, literal_truth, meet}
use Rattle.book.proofs.Counts.{hypotheses_length}
use Rattle.judge.proofs.RangeLaws.{slice_next}
use Rattle.book.specs.Framed.{Indexed}
use Rattle.book.specs.Records.{comparison_read, hypothesis_in, rule_in, rule_read}
use Rattle.judge.specs.declared.judge.Judge.{Judge}
use Rattle.judge.specs.Held.{fresh_at, held, record_truth, records_truth, rule_records, sort_truth}

-- meets
meet_true : (x : Truth) → meet x Truth.True ≡ x
meet_true Truth.Undefined = refl
meet_true Truth.True = refl
meet_true Truth.False = refl

meet_false : (x : Truth) → meet x Truth.False ≡ Truth.False
meet_false Truth.Undefined = refl
meet_false Truth.True = refl
meet_false Truth.False = refl

-- what is not false stays open beside something undefined
open_meet : (x : Truth) → (x ≡ Truth.False → ⊥) → meet x Truth.Undefined ≡ Truth.Undefined
open_meet Truth.Undefined n = refl
open_meet Truth.True n = refl
open_meet Truth.False n = absurd (n refl)

meet_assoc : (x y z : Truth) → meet (meet x y) z ≡ meet x (meet y z)
meet_assoc Truth.True y z = refl
meet_assoc Truth.False y z = refl
meet_assoc Truth.Undefined Truth.True z = refl
meet_assoc Truth.Undefined Truth.False z = refl
meet_assoc Truth.Undefined Truth.Undefined Truth.Undefined = refl
meet_assoc Truth.Undefined Truth.Undefined Truth.True = refl
meet_assoc Truth.Undefined Truth.Undefined Truth.False = refl

module _ (A K : Answers) where
  -- one hypothesis more
  records_more : (hs : List HypothesisRecord) (h : HypothesisRecord) →
      records_truth A K (hs ++ h ∷ []) ≡ meet (records_truth A K hs) (record_truth A K h)
  unfolding records_truth
  records_more [] h = meet_true (record_truth A K h)
  records_more (y ∷ hs) h =
      ap (meet (record_truth A K y)) (records_more hs h) ∙
      sym (meet_assoc (record_truth A K y) (records_truth A K hs) (record_truth A K h))

  -- one that is false
  records_false : (hs : List HypothesisRecord) (i : ℕ) → i < length hs →
      record_truth A K (get_or hs i no_hypothesis) ≡ Truth.False → records_truth A K hs ≡ Truth.False
  unfolding records_truth
  records_false [] i l e = absurd (omega (arith, l))
  records_false (h ∷ hs) zero l e = rw e
  records_false (h ∷ hs) (suc i) l e =
      ap (meet (record_truth A K h)) (records_false hs i (omega (arith, l)) e) ∙ meet_false (record_truth A K h)

-- a body judged by its records, comparison c having the truth K c, is document 01's
module _
    (b : List ℕ)
    (A K : Answers)
    (I : Indexed b)
    (known : (c : ℕ) → c < comparison_count b → K c ≡ comparison_truth A (comparison_read b c)) where
  sort_is : (s i : ℕ) → i < cond (ltb s 2) (atom_count b) (comparison_count b) →
      sort_truth A K (sort_of s) i ≡ hypothesis_truth A (hypothesis_of (tables b) s i)
  unfolding hypothesis_truth hypothesis_of literal_truth
  sort_is zero i l = refl
  sort_is (suc zero) i l = refl
  sort_is (suc (suc zero)) i l = known i l
  sort_is (suc (suc (suc s))) i l = known i (rw (le-ltb (suc (suc (suc s))) 2 (omega arith)) at l)

  records_body : (hs : List HypothesisRecord) → ((h : HypothesisRecord) → In h hs → In h (tables b).hypotheses) →
      records_truth A K hs ≡ body_truth A (map (reading.hypothesis_in (tables b)) hs)
  unfolding records_truth body_truth
  records_body [] e = refl
  records_body (h ∷ hs) e =
      let (i, l, p) = in_get_or no_hypothesis (tables b).hypotheses h (e h (inl refl)) in
      let at = rw p at (I.hypothesis i (omega (arith, l, hypotheses_length b))) in
      ap₂ meet (sort_is h.sort h.index at) (records_body hs (λ x j. e x (inr j)))

  pub known_body : (r : ℕ) → r < rule_count b →
      records_truth A K (rule_records b r) ≡ body_truth A (rule_of (tables b) (rule_in b r)).body
  unfolding rule_of
  known_body r l =
      let past = (rule_in b r).first + (rule_in b r).many in
      records_body (rule_records b r)
      (λ h j. in_take past (tables b).hypotheses h
      (in_drop (rule_in b r).first (take past (tables b).hypotheses) h j))

fresh_body : (b : List ℕ) (W : List Truth) → Indexed b → (r : ℕ) → r < rule_count b →
    records_truth (held W) (fresh_at b W) (rule_records b r) ≡ body_truth (held W) (rule_read b r).body
fresh_body b W I r l = known_body b (held W) (fresh_at b W) I (λ c _. refl) r l

not_false : (y : Truth) → y ≡ Truth.False → y ≡ Truth.Undefined → ⊥
not_false y p q = cc

true_not_false : Truth.True ≡ Truth.False → ⊥
true_not_false p = cc

abbrev first_of : RuleRecord → ℕ
first_of x = x.first

abbrev many_of : RuleRecord → ℕ
many_of x = x.many

-- what the hypotheses of rule r before h come to, the judge being kept
module _ (J : Judge) (r : ℕ) where
  abbrev b : List ℕ
  b = J.book.frame.bytes.now

  abbrev W : List Truth
  W = J.answers.now

  unfoldable pub body_to : ℕ → Truth
  body_to h = records_truth (held W) (fresh_at b W) (slice (rule_in b r).first h (tables b).hypotheses)

  pub record Read (K : Judge) (all : Truth) (h : ℕ) : Type 0 where
    pub judge : K ≡ J
    pub all_is : all ≡ body_to h
    pub still_open : all ≡ Truth.False → ⊥

  module _ (x : RuleRecord) (k : r < rule_count b) (e : x ≡ rule_in b r) where
    past_within : x.first + x.many ≤ length (tables b).hypotheses
    past_within = rw e (omega (arith, J.book.indexed.rule r k, hypotheses_length b))

    pub read_start : Read J Truth.True x.first
    unfolding body_to records_truth
    read_start = record {
      judge = refl;
      all_is = rw (e, slice_empty (rule_in b r).first (tables b).hypotheses);
      still_open = true_not_false;
    }

    module _ (K : Judge) (all : Truth) (h : ℕ) (m : x.first ≤ h) (R : Read K all h) where
      pub read_within : h < x.first + x.many → h < hypothesis_count K.book.frame.bytes.now
      read_within l = rw R.judge (omega (arith, past_within, l, hypotheses_length b))

      module _
          (t : Truth)
          (l : h < x.first + x.many)
          (et : t ≡ record_truth (held K.answers.now) (fresh_at K.book.frame.bytes.now K.answers.now)
          (hypothesis_in K.book.frame.bytes.now h)) where
        truth_is : t ≡ record_truth (held W) (fresh_at b W) (hypothesis_in b h)
        truth_is = rw R.judge at et

        body_more : body_to (h + 1) ≡ meet (body_to h) t
        unfolding body_to
        body_more =
            let first = (rule_in b r).first in
            let hs = (tables b).hypotheses in
            ap (records_truth (held W) (fresh_at b W))
            (slice_next no_hypothesis hs first h (omega (arith, m, ap first_of e)) (omega (arith, past_within, l))) ∙
            records_more (held W) (fresh_at b W) (slice first h hs) (hypothesis_in b h) ∙
            ap (meet (body_to h)) (sym truth_is)

        module _ (L : Judge) (same : L ≡ K) where
          pub read_true : (y : Truth) → t ≡ Truth.True → y ≡ all → Read L y (h + 1)
          read_true y q p = record {
            judge = same ∙ R.judge;
            all_is = p ∙ rw (body_more, q, meet_true) R.all_is;
            still_open = λ z. R.still_open (sym p ∙ z);
          }

          pub read_undefined : (y : Truth) → t ≡ Truth.Undefined → y ≡ Truth.Undefined → Read L y (h + 1)
          read_undefined y q p = record {
            judge = same ∙ R.judge;
            all_is = p ∙ rw (body_more, q, ← R.all_is) (sym (open_meet all R.still_open));
            still_open = λ z. not_false y z p;
          }

        pub read_false : t ≡ Truth.False → Truth.False ≡ body_truth (held W) (rule_read b r).body
        read_false q =
            let first = (rule_in b r).first in
            let past = first + (rule_in b r).many in
            let hs = (tables b).hypotheses in
            let i : ℕ = h - first in
            let here : first + i ≡ h = omega (arith, m, ap first_of e) in
            let to : first + i < past = omega (arith, here, l, ap first_of e, ap many_of e) in
            let inside : past ≤ length hs = omega (arith, past_within, ap first_of e, ap many_of e) in
            sym (sym (fresh_body b W J.book.indexed r k) ∙
            records_false (held W) (fresh_at b W) (slice first past hs) i
            (omega (arith, length-slice first past hs inside, to))
            (ap (record_truth (held W) (fresh_at b W))
            (slice_at no_hypothesis hs first past i to ∙ ap (λ (j : ℕ). get_or hs j no_hypothesis) here) ∙
            sym truth_is ∙ q))

      pub read_end : (x.first ≤ x.first + x.many → h ≤ x.first + x.many) → x.first + x.many ≤ h →
          all ≡ body_truth (held W) (rule_read b r).body
      unfolding body_to
      read_end l m =
          let same : h ≡ x.first + x.many = omega (arith, l (omega arith), m) in
          R.all_is ∙ rw (same, e) (fresh_body b W J.book.indexed r k)

pub ruleset bodies = (read_start, read_within, read_true, read_undefined, read_false, read_end)
