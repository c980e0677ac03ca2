-- An accepted book is sound: what the absent refusals 4, 5 and 7 to 11 say of its rules as read. Assumes nothing.
use mathlib.Core.Path.{◌≡◌, refl, sym, ap, ◌∙◌, subst}
use mathlib.Core.Logic.{inl, inr, by_cases}
use mathlib.Core.Bool.{Bool, true, false, not, cond, ◌&&◌, ◌||◌, beq, So, false≢true}
use mathlib.Core.List.{List, [], map}
use mathlib.Core.Option.{none}
use Prim.Native.Nat.{ℕ, zero, suc, ◌+◌, ◌<◌, ◌≤◌}
use native.Mathlib.Omega.{arith}
use native.Mathlib.Decide.{dec_lt}
use lib.Dec.{eqb, leb, ltb}
use lib.ListN.{length, get_or, length-map, take}
use lib.Seq.{get_or-take, length-take-le}
use borrow.Author.Tests.{eq-eqb, leb-false, ltb-false, ne_eqb, not-false}
use Rattle.std.proofs.lemmas.Bool.{both_ways, or_parts}
use Rattle.std.proofs.lemmas.List.{get_or-map}
use Rattle.laws.specs.Lists.{In}
use Rattle.laws.proofs.Tests.{and_fails}
use Rattle.laws.proofs.Entries.{any_none, gather_in, get_or_in, in_drop, in_take, map_in}
use Rattle.laws.proofs.Places.{place_in}
use Rattle.theory.specs.declared.answer.Truth.{Truth}
use Rattle.meaning.specs.Format.{Tables, tables}
use Rattle.meaning.specs.declared.records.Atom.{Atom}
use Rattle.meaning.specs.declared.records.ComparisonRecord.{ComparisonRecord}
use Rattle.meaning.specs.declared.records.HypothesisRecord.{HypothesisRecord}
use Rattle.meaning.specs.declared.records.Predicate.{Predicate}
use Rattle.meaning.specs.declared.records.RuleRecord.{RuleRecord}
use Rattle.meaning.specs.Format.{no_atom, no_comparison, no_element, no_hypothesis, no_predicate, no_rule}
use Rattle.meaning.specs.Reading.{Rule, atom_of, comparison_of, element_of, elements_of, given_in, given_of}
use Rattle.meaning.specs.declared.codes.Kind.{Kind}
use Rattle.meaning.specs.Reading.{hypothesis_in, hypothesis_of, is_certain, is_open, kind_at, kind_in, kind_of}
use Rattle.meaning.specs.Reading.{level_at, level_count, level_in, levels_of, literal_of, predicate_of, range, reading}
use Rattle.meaning.specs.Reading.{rule_of, truth_of}
use Rattle.meaning.specs.Refusal.{Use, concluded, element_use, given_wrongly, mixed, mixed_below, own_non_positive}
use Rattle.meaning.specs.Refusal.{refusal, refusal10, refusal11, refusal4, refusal5, refusal7, refusal8, refusal9}
use Rattle.meaning.specs.Refusal.{refusals, stray, stray_atom, stray_element, stray_hypothesis, stray_rule, unlisted}
use Rattle.meaning.specs.Refusal.{unlisted_predicate, uses, uses_higher, uses_non_positively, uses_of, uses_uncertain}
use Rattle.meaning.specs.Model.{answers_of}
use Rattle.meaning.proofs.Absent.{clear_at, clear_entry, none_each}
use Rattle.meaning.proofs.KindLaws.{certain_of, open_of}
use Rattle.meaning.proofs.Sound.{Sound}

-- a range of a list holds entries of the list
in_range : {X : Type 0} (first many : ℕ) (xs : List X) (x : X) → In x (range first many xs) → In x xs
in_range first many xs x i = in_take (first + many) xs x (in_drop first (take (first + many) xs) x i)

-- a literal is of its atom, whatever its sign
pub literal_atom : (sign a : ℕ) → atom_of (literal_of sign a) ≡ a
literal_atom zero a = refl
literal_atom (suc sign) a = refl

-- the columns of the atoms, read at a place
module _ (t : Tables) where
  abbrev pub atom_at : ℕ → Atom
  atom_at a = get_or t.atoms a no_atom

  pub kinds_length : length (reading t).kinds ≡ length t.atoms
  unfolding reading
  kinds_length = length-map t.atoms (kind_in t)

  pub levels_length : length (levels_of t) ≡ length t.atoms
  unfolding levels_of
  levels_length = length-map t.atoms (level_in t)

  pub given_length : length (given_of t) ≡ length t.atoms
  unfolding given_of
  given_length = length-map t.atoms given_in

  pub kind_at_lem : (a : ℕ) → a < length t.atoms → kind_at (reading t).kinds a ≡ kind_in t (atom_at a)
  unfolding reading
  kind_at_lem a l = get_or-map (kind_in t) t.atoms a no_atom Kind.Open l

  pub level_at_lem : (a : ℕ) → a < length t.atoms → level_at (levels_of t) a ≡ level_in t (atom_at a)
  unfolding levels_of
  level_at_lem a l = get_or-map (level_in t) t.atoms a no_atom level_count l

  pub given_at_lem : (a : ℕ) → a < length t.atoms → answers_of (given_of t) a ≡ given_in (atom_at a)
  unfolding given_of
  given_at_lem a l = get_or-map given_in t.atoms a no_atom Truth.Undefined l

  -- where a rule as read and its uses come from
  rule_of_lem : (r : Rule) → In r (reading t).rules → (x : RuleRecord) × In x t.rules × (rule_of t x ≡ r)
  unfolding reading
  rule_of_lem r i = map_in (rule_of t) t.rules r i

  use_of : (r : Rule) → In r (reading t).rules → (u : Use) → In u (uses r) →
      (h : HypothesisRecord) × In h t.hypotheses × In u (uses_of (hypothesis_in t h))
  unfolding uses rule_of
  use_of r i u j =
      let (x, _, q) = rule_of_lem r i in
      let (h, k, l) = gather_in uses_of r.body u j in
      let k' = subst (λ (z : Rule). In h z.body) (sym q) k in
      let (y, m, e) = map_in (hypothesis_in t) (range x.first x.many t.hypotheses) h k' in
      (y, in_range x.first x.many t.hypotheses y m, rw e l)

-- the refusals that are absent, each by its name
pub record Absent (t : Tables) : Type 0 where
  pub codes : refusal4 t ≡ none
  pub indices : refusal5 t ≡ none
  pub gifts : refusal7 (reading t) t.atoms ≡ none
  pub mixtures : refusal8 t.predicates ≡ none
  pub heights : refusal9 (reading t).rules (levels_of t) ≡ none
  pub signs : refusal10 (reading t) (levels_of t) ≡ none
  pub kinds : refusal11 (reading t) ≡ none

module _ (t : Tables) (A : Absent t) where
  abbrev atoms : ℕ
  atoms = length t.atoms

  abbrev kind : ℕ → Kind
  kind a = kind_at (reading t).kinds a

  abbrev level : ℕ → ℕ
  level a = level_at (levels_of t) a

  abbrev predicate : ℕ → Predicate
  predicate i = get_or t.predicates i no_predicate

  -- 4: a listed level
  predicate_low : (p : Predicate) → In p t.predicates → p.level < level_count
  unfolding refusal4
  predicate_low p i =
      let (e, _) = none_each (unlisted t) A.codes in
      let (_, f) = clear_entry 4 1 unlisted_predicate no_predicate t.predicates e p i in
      let l : p.level ≤ 127 = ltb-false 127 p.level (or_parts (ltb 3 p.kind) _ f).1 in
      omega (arith, l)

  -- 5: indices stand in their tables
  predicate_in_lem : (a : ℕ) → a < atoms → (atom_at t a).predicate < length t.predicates
  unfolding refusal5
  predicate_in_lem a l =
      let (e, _) = none_each (stray t) A.indices in
      leb-false (length t.predicates) (atom_at t a).predicate
      (clear_at 5 2 (stray_atom (length t.predicates)) no_atom t.atoms e a l)

  predicate_of_lem : (a : ℕ) → a < atoms → In (predicate_of t (atom_at t a)) t.predicates
  predicate_of_lem a l = get_or_in no_predicate t.predicates (atom_at t a).predicate (predicate_in_lem a l)

  -- 5: the head of a rule is in the table
  head_in : (r : Rule) → In r (reading t).rules → r.head < atoms
  unfolding refusal5 rule_of
  head_in r i =
      let (_, (e, _)) = none_each (stray t) A.indices in
      let (x, j, q) = rule_of_lem t r i in
      let (_, f) = clear_entry 5 3 (stray_rule atoms (length t.hypotheses)) no_rule t.rules e x j in
      let l : x.head < atoms = leb-false atoms x.head (or_parts (leb atoms x.head) _ f).0 in
      subst (λ (y : Rule). y.head < atoms) q l

  -- by sort: the index is an atom's, or a comparison's, whose elements speak of atoms that are there
  use_in_hypothesis : (sort index : ℕ) → leb (cond (ltb sort 2) atoms (length t.comparisons)) index ≡ false →
      (u : Use) → In u (uses_of (hypothesis_of t sort index)) → u.atom < atoms
  unfolding uses_of hypothesis_of comparison_of element_of elements_of refusal5
  use_in_hypothesis zero index f u (inr i) = elim i [ ]
  use_in_hypothesis zero index f u (inl e) = rw (← e) (leb-false atoms index f)
  use_in_hypothesis (suc zero) index f u (inr i) = elim i [ ]
  use_in_hypothesis (suc zero) index f u (inl e) = rw (← e) (leb-false atoms index f)
  use_in_hypothesis (suc (suc sort)) index f u i =
      let (_, (_, (_, (_, (z, _))))) = none_each (stray t) A.indices in
      let c : ComparisonRecord = get_or t.comparisons index no_comparison in
      let (e, j, q) = map_in (element_use (comparison_of t c)) (map element_of (elements_of t c)) u i in
      let (x, k, p) = map_in element_of (elements_of t c) e j in
      let there = in_range c.first c.many t.elements x k in
      let (_, g) = clear_entry 5 6 (stray_element atoms) no_element t.elements z x there in
      rw (← q, ← p, literal_atom x.sign x.atom) (leb-false atoms x.atom g)

  -- 5: a rule uses atoms of the table
  use_in : (r : Rule) → In r (reading t).rules → (u : Use) → In u (uses r) → u.atom < atoms
  unfolding refusal5
  use_in r i u j =
      let (_, (_, (e, _))) = none_each (stray t) A.indices in
      let (h, k, l) = use_of t r i u j in
      let fault : ℕ → HypothesisRecord → Bool = stray_hypothesis atoms (length t.comparisons) in
      use_in_hypothesis h.sort h.index (clear_entry 5 4 fault no_hypothesis t.hypotheses e h k).1 u l

  -- 7, at an atom with a given answer
  given_clear : (a : ℕ) → a < atoms → given_wrongly (reading t) a (atom_at t a) ≡ false
  unfolding refusal7
  given_clear a l = clear_at 7 2 (given_wrongly (reading t)) no_atom t.atoms A.gifts a l

  -- what it says, `g` for a given byte of 0, `o` for an open atom, `c` for one that a rule concludes
  wrongly : (g o c : Bool) → (not g && (not o || c)) ≡ false → g ≡ false → So o × (c ≡ false)
  wrongly g o c f e = let (p, q) = or_parts (not o) c (rw e at f) in (not-false o p, q)

  -- so what is given is given to an open atom that no rule concludes
  given_clean : (a : ℕ) → (answers_of (given_of t) a ≡ Truth.Undefined → ⊥) →
      So (is_open (kind a)) × (concluded (reading t) a ≡ false)
  given_clean a n =
      let l : a < atoms = omega (arith, place_in Truth.Undefined (given_of t) a n, given_length t) in
      wrongly (eqb (atom_at t a).given 0) (is_open (kind a)) (concluded (reading t) a) (given_clear a l)
      (ne_eqb (atom_at t a).given 0 (λ z. n (given_at_lem t a l ∙ ap truth_of z)))

  -- 8, of two predicates: the lower-numbered one stands before the other
  mixed_clear : (i j : ℕ) → i < j → j < length t.predicates → mixed (predicate j) (predicate i) ≡ false
  unfolding refusal8
  mixed_clear i j l k =
      let ps = t.predicates in
      let none-mixed = clear_at 8 1 (mixed_below ps) no_predicate ps A.mixtures j k in
      let short : i < length (take j ps) = omega (arith, l, length-take-le j ps (omega (arith, k))) in
      let before : In (predicate i) (take j ps) =
      rw (get_or-take j ps i no_predicate l) at (get_or_in no_predicate (take j ps) i short) in
      any_none (mixed (predicate j)) (take j ps) none-mixed (predicate i) before

  -- two predicates of a level that do not mix are both certain or both uncertain
  same_certainty : (e a b : Bool) → (e && not (beq a b)) ≡ false → So e → a ≡ b
  same_certainty true true true f s = refl
  same_certainty true true false f s = absurd (false≢true (sym f))
  same_certainty true false true f s = absurd (false≢true (sym f))
  same_certainty true false false f s = refl
  same_certainty false a b f s = absurd (false≢true s)

  -- whether a predicate is certain, and its level
  abbrev sure : ℕ → Bool
  sure i = is_certain (kind_of (predicate i).kind)

  abbrev height : ℕ → ℕ
  height i = (predicate i).level

  -- so predicates of a level are all certain or all uncertain
  sure_lower : (i j : ℕ) → i < j → j < length t.predicates → height j ≡ height i → sure j ≡ sure i
  sure_lower i j l k e =
      same_certainty (eqb (height j) (height i)) (sure j) (sure i) (mixed_clear i j l k)
      (eq-eqb (height j) (height i) e)

  sure_same : (i j : ℕ) → i < length t.predicates → j < length t.predicates → height i ≡ height j →
      sure i ≡ sure j
  sure_same i j ki kj e =
      by_cases (dec_lt i j) (λ l. sym (sure_lower i j l kj (sym e)))
      (λ n. by_cases (dec_lt j i) (λ l. sure_lower j i l ki e) (λ m. let q : i ≡ j = omega (arith, n, m) in ap sure q))

  -- and so are atoms of a level
  sure_level : (a b : ℕ) → a < atoms → b < atoms → level a ≡ level b → is_certain (kind a) ≡ is_certain (kind b)
  sure_level a b la lb e =
      ap is_certain (kind_at_lem t a la) ∙
      sure_same (atom_at t a).predicate (atom_at t b).predicate (predicate_in_lem a la) (predicate_in_lem b lb)
      (sym (level_at_lem t a la) ∙ e ∙ level_at_lem t b lb) ∙
      sym (ap is_certain (kind_at_lem t b lb))

  -- all of it together
  pub sound : Sound (reading t) (levels_of t) (given_of t)
  unfolding refusal9 refusal10 refusal11
  sound = record {
    of_kinds = kinds_length t ∙ sym (levels_length t);
    of_given = given_length t ∙ sym (levels_length t);
    low = λ a l.
        let k : a < atoms = omega (arith, l, levels_length t) in
        omega (arith, level_at_lem t a k, predicate_low (predicate_of t (atom_at t a)) (predicate_of_lem a k));
    head_in = λ r i. omega (arith, head_in r i, levels_length t);
    use_in = λ r i u j. omega (arith, use_in r i u j, levels_length t);
    given_open = λ a n. open_of (kind a) (given_clean a n).0;
    given_free = λ a n r i e.
        both_ways _ (any_none (λ r. eqb r.head a) (reading t).rules (given_clean a n).1 r i) (eq-eqb r.head a e);
    pure = λ a b la lb e c.
        let ka : a < atoms = omega (arith, la, levels_length t) in
        let kb : b < atoms = omega (arith, lb, levels_length t) in
        certain_of (kind b) (sym (sure_level a b ka kb e) ∙ ap is_certain c);
    lower = λ r i u j.
        let (_, f) = clear_entry 9 3 (uses_higher (levels_of t)) no_read (reading t).rules A.heights r i in
        ltb-false (level r.head) (level u.atom)
        (any_none (λ u. ltb (level r.head) (level u.atom)) (uses r) f u j);
    positive = λ r i c u j e.
        let fault : ℕ → Rule → Bool = uses_non_positively (reading t).kinds (levels_of t) in
        let (_, f) = clear_entry 10 3 fault no_read (reading t).rules A.signs r i in
        own_positive (level r.head) (level u.atom) u.positive e
        (any_none (own_non_positive (levels_of t) r) (uses r) (and_fails _ _ (ap is_certain c) f) u j);
    certain_only = λ r i c u j.
        let (_, f) = clear_entry 11 3 (uses_uncertain (reading t).kinds) no_read (reading t).rules A.kinds r i in
        let g = and_fails _ _ (ap is_certain c) f in
        certain_of (kind u.atom)
        (not-false (is_certain (kind u.atom)) (any_none (λ u. not (is_certain (kind u.atom))) (uses r) g u j));
  }
    where
      no_read : Rule
      no_read = record { head = 0; body = [] }

      own_positive : (m n : ℕ) (p : Bool) → m ≡ n → (eqb m n && not p) ≡ false → So p
      own_positive m n p e f = not-false p (and_fails (eqb m n) (not p) (eq-eqb m n e) f)

-- what an accepted book has
pub absent : (b : List ℕ) (room : ℕ) → refusal b room ≡ none → Absent (tables b)
unfolding refusal
absent b room e =
    let t : Tables = tables b in
    let (_, (_, (_, (r4, (r5, (_, (r7, (r8, (r9, (r10, (r11, _))))))))))) =
    none_each (refusals b t room) e in
    record { codes = r4; indices = r5; gifts = r7; mixtures = r8; heights = r9; signs = r10; kinds = r11 }
