-- Why striking out finds the greatest unfounded set: the candidates are assumed at the start, no strike takes an atom
-- of an unfounded set out, and where no rule strikes, what is left is unfounded. Assumes nothing.
use mathlib.Core.Path.{◌≡◌, refl, sym, ap, ◌∙◌, subst, fun_ext}
use mathlib.Core.Logic.{by_cases}
use mathlib.Core.Bool.{Bool, true, false, not, cond, ◌&&◌, So}
use mathlib.Core.List.{List}
use Prim.Native.Nat.{ℕ, ◌<◌, ◌≤◌}
use native.Mathlib.Decide.{dec_lt}
use native.Mathlib.Omega.{arith}
use lib.Dec.{eqb}
use lib.ListN.{length, get_or, length-set, set}
use borrow.Author.Tests.{eq-eqb, eqb-false, eqb-true, not-false}
use Rattle.std.proofs.lemmas.List.{get_or_past}
use Rattle.std.proofs.Math.Bool.{and-false, and-true}
use Rattle.std.proofs.lemmas.Bool.{and_from, and_parts, both_ways}
use Rattle.laws.specs.Lists.{In}
use Rattle.laws.proofs.Entries.{get_or_in, in_get_or, in_map, map_in}
use Rattle.laws.proofs.Tests.{and_fails, by-test, not_of, of_not}
use Rattle.theory.specs.Truth.{is_false, is_true, is_undefined, ◌≼◌}
use Rattle.theory.specs.declared.answer.Truth.{Truth}
use Rattle.theory.specs.Answers.{Answers, Atoms, NoneTrue, ◌⊑◌, wipe}
use Rattle.theory.proofs.Truth.{by_answer, false_of, true_of, undefined_of, undefined_true, undefined_false}
use Rattle.theory.proofs.Answers.{⊑_refl, wipe_in}
use Rattle.meaning.specs.Format.{atom_count, no_rule, rule_at, rule_count, tables}
use Rattle.meaning.specs.Reading.{Hypothesis, Rule, is_closed, reading, rule_of}
use Rattle.meaning.specs.declared.codes.Kind.{Kind}
use Rattle.meaning.specs.Truth.{body_truth, hypothesis_truth}
use Rattle.meaning.specs.Model.{members_of, unfounded}
use Rattle.meaning.specs.Founded.{Fails, Unfounded}
use Rattle.meaning.proofs.Accepted.{kinds_length}
use Rattle.meaning.proofs.Bodies.{body_false→, →body_false}
use Rattle.meaning.proofs.Bytes.{atoms_length, body_length}
use Rattle.meaning.proofs.KindLaws.{closed_of}
use Rattle.meaning.proofs.Unfounded.{false→fails, greatest, is_unfounded, wider}
use Rattle.book.specs.Framed.{Indexed}
use Rattle.book.specs.Records.{kind_read, level_read, rule_in, rule_read}
use Rattle.judge.specs.Held.{held}
use Rattle.steps.specs.Work.{Exact, levels_in, rules_in}
use Rattle.steps.specs.Due.{Due, due_in, pending_in, steps_of}
use Rattle.steps.specs.Strike.{Assumed, candidate_in, chosen_in, only_assumed, strikes_at}
use Rattle.steps.proofs.DueLaws.{steps_three}
use Rattle.steps.proofs.WorkLaws.{read_held, held_other, held_out, held_same}

-- the greatest unfounded set, at the answers held in memory
module _ (b : List ℕ) (n : ℕ) (A : List Truth) (size : length A ≡ atom_count b) where
  abbrev found : Atoms
  found = members_of (unfounded (rules_in b) (levels_in b) n A)

  fits : length A ≡ length (rules_in b).kinds
  fits = size ∙ sym (atoms_length b) ∙ sym (kinds_length (tables b))

  found_unfounded : Unfounded (rules_in b) (levels_in b) n found (held A)
  found_unfounded =
      subst (Unfounded (rules_in b) (levels_in b) n found) (read_held A)
      (is_unfounded (rules_in b) (levels_in b) n A fits)

  found_greatest : (U : Atoms) → Unfounded (rules_in b) (levels_in b) n U (held A) → (a : ℕ) → So (U a) → So (found a)
  found_greatest U u =
      greatest (rules_in b) (levels_in b) n A fits U
      (subst (Unfounded (rules_in b) (levels_in b) n U) (sym (read_held A)) u)

-- what a candidate is
module _ (b : List ℕ) (n : ℕ) (A : List Truth) (a : ℕ) where
  abbrev here : Bool
  here = is_closed (kind_read b a) && eqb (level_read b a) n

  candidate_of : So (candidate_in b n A a) →
      (kind_read b a ≡ Kind.Closed) × (level_read b a ≡ n) × (held A a ≡ Truth.True → ⊥)
  unfolding candidate_in
  candidate_of c = let k = (and_parts here _ c).0 in (
    closed_of (kind_read b a) (and_parts (is_closed (kind_read b a)) _ k).0,
    eqb-true (level_read b a) n (and_parts (is_closed (kind_read b a)) _ k).1,
    λ t. not_of (is_true (held A a)) (and_parts here _ c).1 (ap is_true t),
  )

  of_candidate : kind_read b a ≡ Kind.Closed → level_read b a ≡ n → (held A a ≡ Truth.True → ⊥) →
      So (candidate_in b n A a)
  unfolding candidate_in
  of_candidate k l t =
      and_from _ _ (and_from _ _ (ap is_closed k) (eq-eqb (level_read b a) n l))
      (of_not (is_true (held A a)) (λ e. t (true_of _ e)))

  -- past the table no atom is one
  candidate_out : atom_count b ≤ a → candidate_in b n A a ≡ false
  unfolding candidate_in
  candidate_out l =
      let past : length (rules_in b).kinds ≤ a = omega (arith, l, kinds_length (tables b), atoms_length b) in
      let o : kind_read b a ≡ Kind.Open = get_or_past (rules_in b).kinds a Kind.Open past in
      rw o

-- at the start all candidates are assumed
pub assumed_start : (b : List ℕ) (n : ℕ) (A W : List Truth) → length A ≡ atom_count b → length W ≡ 2048 →
    ((a : ℕ) → a < atom_count b → held W a ≡ wipe (candidate_in b n A) (held A) a) →
    ((a : ℕ) → atom_count b ≤ a → held W a ≡ Truth.Undefined) → Assumed b n A W
assumed_start b n A W size long at rest = record {
  long = long;
  counted = λ a. counts_chosen (candidate_in b n A a) (held A a) (held W a) (whole a);
  every = λ U u a m. let c = member U u a m in and_from _ _ c (ap is_false (falls a c));
}
  where
    member : (U : Atoms) → Unfounded (rules_in b) (levels_in b) n U (held A) → (a : ℕ) → So (U a) →
        So (candidate_in b n A a)
    member U u a m = let (k, l) = u.closed a m in of_candidate b n A a k l (u.none_true a m)

    whole : (a : ℕ) → held W a ≡ wipe (candidate_in b n A) (held A) a
    whole a =
        by_cases (dec_lt a (atom_count b)) (at a)
        (λ out.
        let o : atom_count b ≤ a = omega (arith, out) in
        rest a o ∙ sym (rw (candidate_out b n A a o) (held_out A a (omega (arith, o, size)))))

    falls : (a : ℕ) → So (candidate_in b n A a) → held W a ≡ Truth.False
    falls a c = whole a ∙ rw c

    -- of the candidates, those that are false
    counts_chosen : (c : Bool) (x w : Truth) → w ≡ cond c Truth.False x → w ≡ cond (c && is_false w) Truth.False x
    counts_chosen true x w e = rw e
    counts_chosen false x w e = e

-- the candidates that are not false already are the atoms to which all three steps are due
counts_candidate : (x : Truth) (here : Bool) (k : Kind) →
    cond (eqb (cond (is_undefined x && here) (steps_of k) 0) 3) Truth.False x ≡
    cond (is_closed k && here && not (is_true x)) Truth.False x
counts_candidate Truth.Undefined true k = rw (steps_three k, and-true (is_closed k), and-true (is_closed k))
counts_candidate Truth.Undefined false k = rw (and-false (is_closed k))
counts_candidate Truth.True here k = rw (and-false (is_closed k && here))
counts_candidate Truth.False here k = by-test (is_closed k && here && true) (λ t. rw t) (λ f. rw f)

pub counts_wiped : (b : List ℕ) (n : ℕ) (A : List Truth) (D : List ℕ) → Due b n A D → (a : ℕ) → a < atom_count b →
    cond (eqb (get_or D a 0) 3) Truth.False (held A a) ≡ wipe (candidate_in b n A) (held A) a
unfolding due_in pending_in candidate_in
counts_wiped b n A D d a l = rw (d.steps a l) (counts_candidate (held A a) (eqb (level_read b a) n) (kind_read b a))

-- rule r of a book, among the rules as read
rules_length : (b : List ℕ) → length (tables b).rules ≡ rule_count b
unfolding tables
rules_length b = body_length rule_at b 2

rule_in_lem : (b : List ℕ) (r : ℕ) → r < rule_count b → In (rule_read b r) (rules_in b).rules
unfolding reading
rule_in_lem b r l =
    in_map (rule_of (tables b)) (tables b).rules (rule_in b r)
    (get_or_in no_rule (tables b).rules r (omega (arith, l, rules_length b)))

head_is : (b : List ℕ) (r : ℕ) → (rule_read b r).head ≡ (rule_in b r).head
unfolding rule_of
head_is b r = refl

module _ (b : List ℕ) (n : ℕ) (A W : List Truth) (w : Assumed b n A W) where
  is_wiped : held W ≡ wipe (chosen_in b n A W) (held A)
  is_wiped = fun_ext w.counted

  none_true : NoneTrue (chosen_in b n A W) (held A)
  none_true a m = (candidate_of b n A a (and_parts (candidate_in b n A a) _ m).0).2

  -- a rule whose head is in an unfounded set has a false body
  unfounded_false : (U : Atoms) → Unfounded (rules_in b) (levels_in b) n U (held A) → (r : ℕ) → r < rule_count b →
      So (U (rule_in b r).head) → body_truth (held W) (rule_read b r).body ≡ Truth.False
  unfounded_false U u r l m =
      let (h, i, f) = u.fails (rule_read b r) (rule_in_lem b r l) (rw (head_is b r) m) in
      →body_false (held W) (rule_read b r).body h i
      (rw is_wiped (wider U (chosen_in b n A W) (held A) (w.every U u) none_true h f))

-- what a strike says
module _ (b : List ℕ) (A W : List Truth) (r : ℕ) where
  abbrev only_assumed_lem : Bool
  only_assumed_lem = only_assumed A W (rule_in b r).head

  pub strike_of : strikes_at b A W r ≡ true → (held W (rule_in b r).head ≡ Truth.False)
      × (held A (rule_in b r).head ≡ Truth.Undefined)
      × (body_truth (held W) (rule_read b r).body ≡ Truth.False → ⊥)
  unfolding strikes_at
  strike_of s =
      let o = (and_parts only_assumed_lem _ s).0 in (
        false_of _ (and_parts (is_false (held W (rule_in b r).head)) _ o).0,
        undefined_of _ (and_parts (is_false (held W (rule_in b r).head)) _ o).1,
        λ f. not_of _ (and_parts only_assumed_lem _ s).1 (ap is_false f),
      )

  -- where a rule does not strike a head that is only assumed false, its body is false
  no_strike : strikes_at b A W r ≡ false → held W (rule_in b r).head ≡ Truth.False →
      held A (rule_in b r).head ≡ Truth.Undefined → body_truth (held W) (rule_read b r).body ≡ Truth.False
  unfolding strikes_at
  no_strike s f u =
      let o : So only_assumed_lem = and_from _ _ (ap is_false f) (ap is_undefined u) in
      false_of _ (not-false _ (and_fails only_assumed_lem _ o s))

  -- a strike leaves what is assumed so
  module _ (n : ℕ) (w : Assumed b n A W) (l : r < rule_count b) (m : (rule_in b r).head < length W)
      (s : strikes_at b A W r ≡ true) where
    not_unfounded : (U : Atoms) → Unfounded (rules_in b) (levels_in b) n U (held A) → So (U (rule_in b r).head) → ⊥
    not_unfounded U u i = (strike_of s).2 (unfounded_false b n A W w U u r l i)

    pub struck : Assumed b n A (set W (rule_in b r).head Truth.Undefined)
    struck = let h = (rule_in b r).head in record {
      long = length-set W h Truth.Undefined ∙ w.long;
      counted = λ a.
          by-test (eqb a h)
          (λ t. rw (eqb-true a h t, held_same W h Truth.Undefined m, and-false (candidate_in b n A h))
          (sym (strike_of s).1))
          (λ f. rw (held_other W h Truth.Undefined a (eqb-false a h f)) (w.counted a));
      every = λ U u a i.
          by-test (eqb a h) (λ t. absurd (not_unfounded U u (rw (← eqb-true a h t) i)))
          (λ f. rw (held_other W h Truth.Undefined a (eqb-false a h f)) (w.every U u a i));
    }

-- where each rule whose head is only assumed false has a false body, what is assumed is exact
module _ (b : List ℕ) (n : ℕ) (A W : List Truth) (size : length A ≡ atom_count b) (w : Assumed b n A W)
    (refuted : (r : ℕ) → r < rule_count b → held W (rule_in b r).head ≡ Truth.False →
    held A (rule_in b r).head ≡ Truth.Undefined → body_truth (held W) (rule_read b r).body ≡ Truth.False) where
  -- those that are undefined without it
  abbrev only : Atoms
  only a = chosen_in b n A W a && is_undefined (held A a)

  only_wiped : held W ≡ wipe only (held A)
  only_wiped = fun_ext (λ a. w.counted a ∙ go (chosen_in b n A W a) (held A a) (none_true b n A W w a))
    where
      go : (c : Bool) (x : Truth) → (So c → x ≡ Truth.True → ⊥) →
          cond c Truth.False x ≡ cond (c && is_undefined x) Truth.False x
      go true Truth.Undefined f = refl
      go true Truth.True f = absurd (f refl refl)
      go true Truth.False f = refl
      go false x f = refl

  only_none : NoneTrue only (held A)
  only_none a m = none_true b n A W w a (and_parts (chosen_in b n A W a) _ m).0

  -- each rule with such a head has a false body
  only_false : (r : ℕ) → r < rule_count b → So (only (rule_in b r).head) →
      body_truth (held W) (rule_read b r).body ≡ Truth.False
  only_false r l m =
      let h = (rule_in b r).head in
      let f : held W h ≡ Truth.False = rw only_wiped (wipe_in only (held A) h m) in
      refuted r l f (undefined_of _ (and_parts (chosen_in b n A W h) _ m).1)

  false_fails : (h : Hypothesis) → hypothesis_truth (held W) h ≡ Truth.False → Fails only (held A) h
  false_fails h f =
      false→fails only (held A) only_none h (subst (λ (X : Answers). hypothesis_truth X h ≡ Truth.False) only_wiped f)

  -- so a hypothesis of it fails
  only_fails : (r : Rule) → In r (rules_in b).rules → So (only r.head) →
      (h : Hypothesis) × In h r.body × Fails only (held A) h
  unfolding reading
  only_fails r i m =
      let (x, j, e) = map_in (rule_of (tables b)) (tables b).rules r i in
      let (p, l, q) = in_get_or no_rule (tables b).rules x j in
      let same : rule_read b p ≡ r = ap (rule_of (tables b)) q ∙ e in
      let t : So (only (rule_in b p).head) = rw (← head_is b p, same) m in
      let f : body_truth (held W) r.body ≡ Truth.False =
      rw (← same) (only_false p (omega (arith, l, rules_length b)) t) in
      let (h, o, v) = body_false→ (held W) r.body f in
      (h, o, false_fails h v)

  only_unfounded : Unfounded (rules_in b) (levels_in b) n only (held A)
  only_unfounded = record {
    closed = λ a m.
        let candidate = (and_parts (candidate_in b n A a) _ (and_parts (chosen_in b n A W a) _ m).0).0 in
        let (c, l, _) = candidate_of b n A a candidate in (c, l);
    none_true = only_none;
    fails = only_fails;
  }

  refuted_exact : Exact b n A W
  refuted_exact = record {
    long = w.long;
    counted = λ a.
        ap (λ (X : Answers). X a) only_wiped ∙
        by-test (only a) (λ m. rw (m, found_greatest b n A size only only_unfounded a m))
        (λ f. by-test (found b n A size a) (λ m. rw (f, m) (already a f m)) (λ g. rw (f, g)));
  }
    where
      -- an unfounded atom that is not undefined without it is false already
      already : (a : ℕ) → only a ≡ false → So (found b n A size a) → held A a ≡ Truth.False
      already a f m =
          let c = w.every (found b n A size) (found_unfounded b n A size) a m in
          by_answer (held A a) (λ u. absurd (both_ways _ f (and_from _ _ c (ap is_undefined u))))
          (λ t. absurd (none_true b n A W w a c t)) (λ v. v)

-- so it is where no rule strikes
pub quiet_exact : (b : List ℕ) (n : ℕ) (A W : List Truth) → length A ≡ atom_count b → Assumed b n A W →
    ((r : ℕ) → r < rule_count b → strikes_at b A W r ≡ false) → Exact b n A W
quiet_exact b n A W size w quiet = refuted_exact b n A W size w (λ r l f u. no_strike b A W r (quiet r l) f u)

-- and where no atom is only assumed false
pub settled_exact : (b : List ℕ) (n : ℕ) (A W : List Truth) → Indexed b → length A ≡ atom_count b → Assumed b n A W →
    ((a : ℕ) → a < atom_count b → only_assumed A W a ≡ false) → Exact b n A W
settled_exact b n A W I size w none =
    refuted_exact b n A W size w
    (λ r l f u.
    absurd (both_ways _ (none (rule_in b r).head (I.head r l)) (and_from _ _ (ap is_false f) (ap is_undefined u))))

-- an answer that is made undefined
pub less_known : (W : List Truth) (h : ℕ) → h < length W → held (set W h Truth.Undefined) ⊑ held W
less_known W h m a =
    by-test (eqb a h)
    (λ t. let u : held (set W h Truth.Undefined) a ≡ Truth.Undefined =
    rw (eqb-true a h t) (held_same W h Truth.Undefined m) in
    (λ e. absurd (undefined_true u e), λ e. absurd (undefined_false u e)))
    (λ n. subst (λ (x : Truth). x ≼ held W a) (sym (held_other W h Truth.Undefined a (eqb-false a h n)))
    (⊑_refl (held W) a))
