-- A search of step (c): a strike, a pass that strikes nothing, and its end. Assumes nothing.
use mathlib.Core.Path.{◌≡◌, refl, sym, ap, ap₂, ◌∙◌}
use mathlib.Core.Bool.{Bool, true, false, true≢false}
use mathlib.Core.List.{List}
use Prim.Native.Nat.{ℕ, ◌+◌, ◌-◌, ◌<◌, ◌≤◌}
use native.Mathlib.Omega.{arith}
use lib.ListN.{length, set}
use Rattle.std.proofs.lemmas.Bool.{and_from}
use Rattle.laws.proofs.Searches.{NoneTo, none_more, none_start}
use Rattle.laws.proofs.Tests.{by-test}
use Rattle.theory.specs.Truth.{is_false, is_undefined}
use Rattle.theory.specs.declared.answer.Truth.{Truth}
use Rattle.meaning.specs.Format.{atom_count, rule_count}
use Rattle.book.specs.declared.ready.Book.{Book}
use Rattle.book.specs.Framed.{Framed, Indexed}
use Rattle.book.specs.Records.{rule_in}
use Rattle.meaning.specs.declared.records.RuleRecord.{RuleRecord}
use Rattle.steps.specs.declared.search.Finding.{Finding}
use Rattle.steps.specs.declared.level.Level.{Level}
use Rattle.steps.specs.declared.search.Search.{Search}
use Rattle.steps.specs.Work.{Exact}
use Rattle.steps.specs.Strike.{Known, Searched, strikes_at, waiting}
use Rattle.steps.specs.Search.{Quiet, book_in, book_of}
use Rattle.steps.proofs.WorkLaws.{few}
use Rattle.steps.proofs.AssumedLaws.{less_known, quiet_exact, settled_exact, strike_of, struck}
use Rattle.steps.proofs.FailLaws.{looked_on, looked_self}
use Rattle.steps.proofs.KnownLaws.{known_less}
use Rattle.steps.proofs.StrikeLaws.{waiting_none, waiting_struck}

-- a strike: its head was only assumed false, and one fewer is left
module _ (b : List ℕ) (n : ℕ) (A W : List Truth) (left r : ℕ) (F : Framed b)
    (I : Indexed b) (S : Searched b n A W left) (l : r < rule_count b) (u : strikes_at b A W r ≡ true) where
  head_room : (rule_in b r).head < length W
  head_room = omega (arith, I.head r l, few b F, S.assumed.long)

  one_fewer : waiting A (set W (rule_in b r).head Truth.Undefined) (atom_count b) + 1 ≡ left
  one_fewer =
      let o = strike_of b A W r u in
      waiting_struck A W (rule_in b r).head head_room (and_from _ _ (ap is_false o.0) (ap is_undefined o.1))
      (atom_count b) (I.head r l) ∙ sym S.waits

  searched_struck : Searched b n A (set W (rule_in b r).head Truth.Undefined) (left - 1)
  searched_struck = record {
    assumed = struck b A W r n S.assumed l head_room u;
    waits = omega (arith, one_fewer);
  }

  known_struck : (K : List Finding) (C : List Bool) → Known b W K C left →
      Known b (set W (rule_in b r).head Truth.Undefined) K C (left - 1)
  known_struck K C k =
      known_less b W (set W (rule_in b r).head Truth.Undefined) (less_known W (rule_in b r).head head_room) K C left
      (left - 1) (omega (arith, one_fewer)) k

-- of one book the same is known
known_at : (b c : List ℕ) → b ≡ c → (W : List Truth) (K : List Finding) (C : List Bool) (left : ℕ) →
    Known c W K C left → Known b W K C left
known_at b c q W K C left k = rw q k

-- one level, one book
same_level : (s t : Search) → t.level ≡ s.level → book_in t ≡ book_in s
same_level s t e = ap (λ (l : Level). l.book.frame.bytes.now) e

quiet_self : (s : Search) → Quiet s s
quiet_self s = record { level = refl; looked = looked_self s.state; front = refl }

quiet_on : (s t u : Search) → Quiet s t → Quiet t u → Quiet s u
quiet_on s t u L M = record {
  level = M.level ∙ L.level;
  looked = looked_on s.state t.state u.state L.looked M.looked;
  front = M.front ∙ L.front;
}

-- rule r strikes, at s or at a search that differs only in what it knows
abbrev pub Strikes : Search → ℕ → Bool
Strikes s r = strikes_at (book_in s) s.level.answers.now s.state.assumed r

same_strikes : (s t : Search) (r : ℕ) → Quiet s t → Strikes t r ≡ Strikes s r
same_strikes s t r L =
    ap₂ (λ (l : Level) (W : List Truth). strikes_at l.book.frame.bytes.now l.answers.now W r) L.level L.looked.assumed

module _ (s t : Search) (r : ℕ) (v : Bool) (L : Quiet s t) (l : r < rule_count (book_in s)) (p : v ≡ Strikes s r)
    (u : v ≡ true) where
  there : r < rule_count (book_in t)
  there = rw (same_level s t L.level) l

  strikes_now : Strikes t r ≡ true
  strikes_now = same_strikes s t r L ∙ sym p ∙ u

  pub strike_some : 1 ≤ t.state.left
  strike_some =
      omega (
        arith,
        one_fewer (book_in t) t.level.number t.level.answers.now t.state.assumed t.state.left r
            t.level.book.frame.framed t.level.book.indexed t.searched there strikes_now,
      )

  pub strike_lower : t.state.left - 1 < s.state.left
  strike_lower = omega (arith, strike_some, L.looked.left)

  module _ (x : RuleRecord) (e : x ≡ rule_in (book_in t) r) where
    pub strike_kept : Searched (book_in t) t.level.number t.level.answers.now
        (set t.state.assumed x.head Truth.Undefined) (t.state.left - 1)
    strike_kept =
        rw e (searched_struck (book_in t) t.level.number t.level.answers.now t.state.assumed t.state.left r
        t.level.book.frame.framed t.level.book.indexed t.searched there strikes_now)

    pub strike_known : Known (book_of t.state) (set t.state.assumed x.head Truth.Undefined) t.state.comparisons
        t.state.clear (t.state.left - 1)
    strike_known =
        let q : book_of t.state ≡ book_in t = ap (λ (k : Book). k.frame.bytes.now) t.same in
        rw e (known_at _ _ q _ _ _ _ (known_struck (book_in t) t.level.number t.level.answers.now t.state.assumed
        t.state.left r t.level.book.frame.framed t.level.book.indexed t.searched there strikes_now t.state.comparisons
        t.state.clear (known_at _ _ (sym q) _ _ _ _ t.state.known)))

-- A pass was at s, and is at t after the first k rules: where nothing was struck, none of them strikes.
pub record Passed (s t : Search) (struck : Bool) (k : ℕ) : Type 0 where
  pub level : t.level ≡ s.level
  pub lower : struck ≡ true → t.state.left < s.state.left
  pub same : struck ≡ false → Quiet s t
  pub none : struck ≡ false → NoneTo (Strikes s) k

module _ (s : Search) where
  pub passed_none : Passed s s false 0
  passed_none = record {
    level = refl;
    lower = λ e. absurd (true≢false (sym e));
    same = λ _. quiet_self s;
    none = λ _. none_start _;
  }

  module _ (t : Search) (x : Bool) (k : ℕ) (P : Passed s t x k) where
    fewer : t.state.left ≤ s.state.left
    fewer = by-test x (λ y. omega (arith, P.lower y)) (λ y. omega (arith, (P.same y).looked.left))

    pub passed_quiet : (u : Search) (v : Bool) → v ≡ Strikes t k → v ≡ false → Quiet t u → Passed s u x (k + 1)
    passed_quiet u v p f L = record {
      level = L.level ∙ P.level;
      lower = λ e. omega (arith, P.lower e, L.looked.left);
      same = λ e. quiet_on s t u (P.same e) L;
      none = λ e. none_more _ k (P.none e) (sym (same_strikes s t k (P.same e)) ∙ sym p ∙ f);
    }

    pub passed_struck : (u : Search) → u.level ≡ t.level → u.state.left < t.state.left → Passed s u true (k + 1)
    passed_struck u e l = record {
      level = e ∙ P.level;
      lower = λ _. omega (arith, l, fewer);
      same = λ y. absurd (true≢false y);
      none = λ y. absurd (true≢false y);
    }

    pub passed_exact : x ≡ false → rule_count (book_in s) ≤ k →
        Exact (book_in t) t.level.number t.level.answers.now t.state.assumed
    unfolding NoneTo
    passed_exact f m =
        quiet_exact (book_in t) t.level.number t.level.answers.now t.state.assumed t.level.whole t.searched.assumed
        (λ r o. same_strikes s t r (P.same f) ∙
        P.none f r (omega (arith, m, ap rule_count (same_level s t P.level), o)))

pub ruleset passing = (passed_none, passed_quiet, passed_struck, passed_exact)

-- the end, where nothing is left
pub left_none : (s : Search) → s.state.left ≡ 0 → Exact (book_in s) s.level.number s.level.answers.now s.state.assumed
left_none s e =
    settled_exact (book_in s) s.level.number s.level.answers.now s.state.assumed s.level.book.indexed s.level.whole
    s.searched.assumed
    (waiting_none s.level.answers.now s.state.assumed (atom_count (book_in s)) (sym s.searched.waits ∙ e))
