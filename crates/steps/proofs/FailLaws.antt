-- Which rules have a false body at what is assumed: by their hypotheses one after the other, or a block of them at
-- once. Assumes nothing.
use mathlib.Core.Path.{◌≡◌, refl, sym, ap, ap₂, ◌∙◌}
use mathlib.Core.Logic.{by_cases}
use mathlib.Core.Bool.{Bool, true, false, not, ◌||◌}
use mathlib.Core.List.{List, [], ◌∷◌}
use Prim.Native.Nat.{ℕ, ◌+◌, ◌-◌, ◌*◌, ◌<◌, ◌≤◌}
use native.Mathlib.Decide.{dec_lt}
use native.Mathlib.Omega.{arith}
use lib.Dec.{leb}
use lib.ListN.{length}
use lib.Seq.{length-slice}
use borrow.Author.Tests.{le-leb, leb-true}
use Rattle.std.proofs.lemmas.Bool.{and_from, and_parts, both_ways, false_from_ne_true}
use Rattle.laws.specs.Lists.{any, any_to}
use Rattle.laws.proofs.Numbers.{any_number, any_to_lem, number_any}
use Rattle.laws.proofs.Ranges.{slice_at}
use Rattle.theory.specs.Truth.{is_false}
use Rattle.theory.specs.declared.answer.Truth.{Truth}
use Rattle.theory.specs.Answers.{Answers}
use Rattle.meaning.specs.Format.{hypothesis_at, no_hypothesis, rule_count, tables}
use Rattle.meaning.specs.declared.records.HypothesisRecord.{HypothesisRecord}
use Rattle.meaning.specs.declared.records.RuleRecord.{RuleRecord}
use Rattle.meaning.specs.Truth.{body_truth, meet}
use Rattle.meaning.proofs.Bytes.{body_length}
use Rattle.book.specs.Framed.{Indexed}
use Rattle.book.specs.declared.ready.Book.{Book}
use Rattle.book.specs.Records.{rule_in, rule_read}
use Rattle.judge.specs.Held.{fresh_at, held, record_truth, records_truth, rule_records}
use Rattle.judge.proofs.BodyLaws.{known_body}
use Rattle.steps.specs.declared.search.Assumption.{Assumption}
use Rattle.steps.specs.Strike.{Begins, fails_at, fails_in}
use Rattle.steps.specs.Search.{Looked, book_of}

-- a body is false if one of its hypotheses is
meet_fails : (x y : Truth) → is_false (meet x y) ≡ (is_false x || is_false y)
meet_fails Truth.Undefined Truth.Undefined = refl
meet_fails Truth.Undefined Truth.True = refl
meet_fails Truth.Undefined Truth.False = refl
meet_fails Truth.True y = refl
meet_fails Truth.False y = refl

records_fail : (A K : Answers) (hs : List HypothesisRecord) →
    is_false (records_truth A K hs) ≡ any (λ h. is_false (record_truth A K h)) hs
unfolding records_truth
records_fail A K [] = refl
records_fail A K (h ∷ hs) =
    meet_fails (record_truth A K h) (records_truth A K hs) ∙
    ap (λ (t : Bool). is_false (record_truth A K h) || t) (records_fail A K hs)

-- the hypotheses from i on, up to j
module _ (b : List ℕ) (W : List Truth) (i j : ℕ) where
  in_some : (h : ℕ) → i ≤ h → h < j → fails_at b W h ≡ true → fails_in b W i j ≡ true
  unfolding fails_in
  in_some h l m t = number_any _ j h m (and_from _ _ (le-leb i h l) t)

  pub in_none : fails_in b W i j ≡ false → (h : ℕ) → i ≤ h → h < j → fails_at b W h ≡ false
  in_none f h l m = false_from_ne_true _ (λ t. both_ways _ f (in_some h l m t))

  some_in : fails_in b W i j ≡ true → (h : ℕ) × (i ≤ h) × (h < j) × (fails_at b W h ≡ true)
  unfolding fails_in
  some_in t =
      let (h, m, u) = any_number _ j t in
      (h, leb-true i h (and_parts (leb i h) _ u).0, m, (and_parts (leb i h) _ u).1)

  pub none_in : ((h : ℕ) → i ≤ h → h < j → fails_at b W h ≡ false) → fails_in b W i j ≡ false
  none_in c = false_from_ne_true _ (λ t. let (h, l, m, u) = some_in t in both_ways _ (c h l m) u)

-- hypothesis i of those from the first on
abbrev fails_from : List ℕ → List Truth → ℕ → ℕ → Bool
fails_from b W first i = fails_at b W (first + i)

-- those of a rule
module _ (b : List ℕ) (W : List Truth) (r : ℕ) (I : Indexed b) (l : r < rule_count b) where
  abbrev first : ℕ
  first = (rule_in b r).first

  abbrev many : ℕ
  many = (rule_in b r).many

  within : first + many ≤ length (tables b).hypotheses
  unfolding tables
  within = omega (arith, I.rule r l, body_length hypothesis_at b 3)

  body_fails : is_false (body_truth (held W) (rule_read b r).body) ≡ any_to (fails_from b W first) many
  unfolding fails_at
  body_fails =
      let size : length (rule_records b r) ≡ many =
      omega (arith, length-slice first (first + many) (tables b).hypotheses within) in
      ap is_false (sym (known_body b (held W) (fresh_at b W) I (λ c _. refl) r l)) ∙
      records_fail (held W) (fresh_at b W) (rule_records b r) ∙
      any_to_lem no_hypothesis (λ h. is_false (record_truth (held W) (fresh_at b W) h)) (fails_from b W first)
      (rule_records b r)
      (λ k m. ap (λ (h : HypothesisRecord). is_false (record_truth (held W) (fresh_at b W) h))
      (slice_at no_hypothesis (tables b).hypotheses first (first + many) k (omega (arith, m, size)))) ∙
      ap (any_to (fails_from b W first)) size

  some_fails : (h : ℕ) → first ≤ h → h < first + many → fails_at b W h ≡ true →
      not (is_false (body_truth (held W) (rule_read b r).body)) ≡ false
  some_fails h l m t =
      ap not (body_fails ∙ number_any (fails_from b W first) many (h - first) (omega (arith, l, m))
      (let q : first + (h - first) ≡ h = omega (arith, l) in rw q t))

  none_fails : ((h : ℕ) → first ≤ h → h < first + many → fails_at b W h ≡ false) →
      not (is_false (body_truth (held W) (rule_read b r).body)) ≡ true
  none_fails c =
      ap not (body_fails ∙ false_from_ne_true _ (λ t. let (i, l, u) = any_number (fails_from b W first) many t in
      both_ways _ (c (first + i) (omega arith) (omega (arith, l))) u))

-- What is assumed was s and is t, and none of the hypotheses looked at since is false: those from i on, up to j.
pub record Clear (s t : Assumption) (i j : ℕ) : Type 0 where
  pub looked : Looked s t
  pub order : i ≤ j
  pub at : (h : ℕ) → i ≤ h → h < j → fails_at (book_of s) s.assumed h ≡ false

pub looked_self : (s : Assumption) → Looked s s
looked_self s = record { book = refl; assumed = refl; left = refl }

pub looked_on : (s t u : Assumption) → Looked s t → Looked t u → Looked s u
looked_on s t u L M = record {
  book = M.book ∙ L.book;
  assumed = M.assumed ∙ L.assumed;
  left = M.left ∙ L.left;
}

-- where only what is known differs: one hypothesis, and a range, before and after
same_book : (s t : Assumption) → t.book ≡ s.book → book_of t ≡ book_of s
same_book s t e = ap (λ (k : Book). k.frame.bytes.now) e

module _ (s t : Assumption) (L : Looked s t) where
  same_at : (h : ℕ) → fails_at (book_of t) t.assumed h ≡ fails_at (book_of s) s.assumed h
  same_at h = ap₂ (λ (b : List ℕ) (W : List Truth). fails_at b W h) (same_book s t L.book) L.assumed

  pub same_in : (i j : ℕ) → fails_in (book_of t) t.assumed i j ≡ fails_in (book_of s) s.assumed i j
  same_in i j = ap₂ (λ (b : List ℕ) (W : List Truth). fails_in b W i j) (same_book s t L.book) L.assumed

module _ (s : Assumption) (i : ℕ) where
  pub clear_start : Clear s s i i
  clear_start = record { looked = looked_self s; order = omega arith; at = λ h l m. absurd (omega (arith, l, m)) }

  module _ (t : Assumption) (h : ℕ) (c : Clear s t i h) where
    module _ (u : Assumption) (L : Looked t u) (v : Bool) where
      pub clear_more : v ≡ fails_at (book_of t) t.assumed h → v ≡ false → Clear s u i (h + 1)
      clear_more p f = record {
        looked = looked_on s t u c.looked L;
        order = omega (arith, c.order);
        at = λ g l m. by_cases (dec_lt g h) (c.at g l)
            (λ o. let q : h ≡ g = omega (arith, m, o) in rw (← q) (sym (same_at s t c.looked h) ∙ sym p ∙ f));
      }

      pub clear_block : (e k : ℕ) → Begins h e k → v ≡ fails_in (book_of t) t.assumed (64 * k) (64 * k + 64) →
          v ≡ false → Clear s u i (h + 64)
      clear_block e k B p f = record {
        looked = looked_on s t u c.looked L;
        order = omega (arith, c.order);
        at = λ g l m. by_cases (dec_lt g h) (c.at g l)
            (λ o. in_none _ s.assumed (64 * k) (64 * k + 64)
            (sym (same_in s t c.looked (64 * k) (64 * k + 64)) ∙ sym p ∙ f) g (omega (arith, o, B.first))
            (omega (arith, m, B.first)));
      }

    -- the loop over a range
    pub range_found : (j : ℕ) (v : Bool) → v ≡ fails_at (book_of t) t.assumed h → v ≡ true → h < j →
        true ≡ fails_in (book_of s) s.assumed i j
    range_found j v p e m = sym (in_some _ s.assumed i j h c.order m (sym (same_at s t c.looked h) ∙ sym p ∙ e))

    pub range_clear : (j : ℕ) → j ≤ h → false ≡ fails_in (book_of s) s.assumed i j
    range_clear j l = sym (none_in _ s.assumed i j (λ g m n. c.at g m (omega (arith, l, n))))

pub ruleset ranging = (clear_start, clear_more, range_found, range_clear)

-- the loop over a rule's hypotheses: one after the other, or a block at once
module _ (s t : Assumption) (r h : ℕ) (x : RuleRecord) (e : x ≡ rule_in (book_of s) r) (l : r < rule_count (book_of s))
    (c : Clear s t x.first h) where
  pub supports_none : (v : Bool) → v ≡ fails_at (book_of t) t.assumed h → v ≡ true → h < x.first + x.many →
      false ≡ not (is_false (body_truth (held s.assumed) (rule_read (book_of s) r).body))
  supports_none v p u n =
      sym (some_fails (book_of s) s.assumed r s.book.indexed l h (rw e at c.order) (rw e at n)
      (sym (same_at s t c.looked h) ∙ sym p ∙ u))

  pub supports_none_block : (k : ℕ) (v : Bool) → Begins h (x.first + x.many) k →
      v ≡ fails_in (book_of t) t.assumed (64 * k) (64 * k + 64) → v ≡ true →
      false ≡ not (is_false (body_truth (held s.assumed) (rule_read (book_of s) r).body))
  supports_none_block k v B p u =
      let (g, i, j, z) = some_in _ s.assumed (64 * k) (64 * k + 64)
      (sym (same_in s t c.looked (64 * k) (64 * k + 64)) ∙ sym p ∙ u) in
      let low : x.first ≤ g = omega (arith, c.order, i, B.first) in
      let high : g < x.first + x.many = omega (arith, j, B.first, B.fits) in
      sym (some_fails (book_of s) s.assumed r s.book.indexed l g (rw e at low) (rw e at high) z)

  pub supports_all : x.first + x.many ≤ h →
      true ≡ not (is_false (body_truth (held s.assumed) (rule_read (book_of s) r).body))
  supports_all o =
      let past : (rule_in (book_of s) r).first + (rule_in (book_of s) r).many ≤ h = rw e at o in
      let at = rw e at c.at in
      sym (none_fails (book_of s) s.assumed r s.book.indexed l (λ g m n. at g m (omega (arith, n, past))))
