-- A book whose given bytes are filled in, at open atoms that no rule concludes, reads as before but for what is given.
-- Assumes nothing.
use mathlib.Core.Path.{◌≡◌, refl, sym, ap, ap₂, ◌∙◌, subst, fun_ext}
use mathlib.Core.Logic.{◌⊎◌, inl, inr, ⊎_elim, by_cases}
use mathlib.Core.List.{List, map}
use Prim.Native.Nat.{ℕ, zero, suc, ◌+◌, ◌*◌, ◌≤◌, ◌<◌}
use native.Mathlib.Omega.{arith}
use native.Mathlib.Decide.{dec_lt}
use lib.ListN.{length, get_or, drop, length-map}
use lib.Seq.{ext_get_or, get_or-drop}
use Rattle.std.proofs.lemmas.List.{get_or-map, get_or_past}
use Rattle.theory.specs.declared.answer.Truth.{Truth}
use Rattle.theory.specs.Answers.{◌⊑◌}
use Rattle.theory.proofs.Truth.{undefined_false, undefined_true, ≼_refl}
use Rattle.meaning.specs.Format.{Tables, atom_at}
use Rattle.meaning.specs.declared.records.Atom.{Atom}
use Rattle.meaning.specs.declared.records.ComparisonRecord.{ComparisonRecord}
use Rattle.meaning.specs.declared.records.HypothesisRecord.{HypothesisRecord}
use Rattle.meaning.specs.declared.records.Predicate.{Predicate}
use Rattle.meaning.specs.declared.records.RuleRecord.{RuleRecord}
use Rattle.meaning.specs.Format.{atom_count, body, comparison_at, element_at, hypothesis_at, no_atom, no_comparison}
use Rattle.meaning.specs.Format.{predicate_at, predicate_count, rule_at, sizes, start, tables}
use Rattle.meaning.specs.Reading.{Hypothesis, Reading, Rule, comparison_of, elements_of, given_of, hypothesis_of}
use Rattle.meaning.specs.Reading.{kind_in, kind_of, level_in, levels_of, predicate_of, range, reading, rule_of}
use Rattle.meaning.specs.Model.{answers_of}
use Rattle.meaning.specs.Demands.{Gift, Gives}
use Rattle.meaning.proofs.Accepted.{given_at_lem, given_length}
use Rattle.meaning.proofs.Bytes.{Local, Same, atoms_length, body_at, body_same, comparison_local, count_same}
use Rattle.meaning.proofs.Bytes.{element_local, hypothesis_local, predicate_local, rule_local, start_rises}
use Rattle.meaning.proofs.Bytes.{start_same}

-- tables that differ in what is given of the atoms alone
pub record Alike (t t' : Tables) : Type 0 where
  pub predicates : t'.predicates ≡ t.predicates
  pub rules : t'.rules ≡ t.rules
  pub hypotheses : t'.hypotheses ≡ t.hypotheses
  pub comparisons : t'.comparisons ≡ t.comparisons
  pub elements : t'.elements ≡ t.elements
  pub long : length t'.atoms ≡ length t.atoms
  pub same : (a : ℕ) → a < length t.atoms →
      (get_or t'.atoms a no_atom).predicate ≡ (get_or t.atoms a no_atom).predicate

-- they are read alike: comparisons, hypotheses, rules
module _ (t t' : Tables) (A : Alike t t') where
  comparison_same : (c : ComparisonRecord) → comparison_of t' c ≡ comparison_of t c
  unfolding comparison_of elements_of
  comparison_same c = rw A.elements

  hypothesis_same : (s i : ℕ) → hypothesis_of t' s i ≡ hypothesis_of t s i
  unfolding hypothesis_of
  hypothesis_same zero i = refl
  hypothesis_same (suc zero) i = refl
  hypothesis_same (suc (suc s)) i =
      ap Hypothesis.comparison
      (comparison_same (get_or t'.comparisons i no_comparison) ∙
      ap (λ (cs : List ComparisonRecord). comparison_of t (get_or cs i no_comparison)) A.comparisons)

  rule_same : rule_of t' ≡ rule_of t
  unfolding rule_of
  rule_same = fun_ext (λ r.
      ap₂ {C = Rule}
      (λ (f : HypothesisRecord → Hypothesis) (hs : List HypothesisRecord).
      record { head = r.head; body = map f (range r.first r.many hs) })
      (fun_ext (λ h. hypothesis_same h.sort h.index)) A.hypotheses)

  -- an atom's record in the first and in the second
  abbrev old : ℕ → Atom
  old a = get_or t.atoms a no_atom

  abbrev new : ℕ → Atom
  new a = get_or t'.atoms a no_atom

  -- a column of the atoms that does not look at what is given
  column : {Y : Type 0} (f g : Atom → Y) → ((a : ℕ) → a < length t.atoms → f (new a) ≡ g (old a)) →
      map f t'.atoms ≡ map g t.atoms
  column f g h =
      let long = length-map t'.atoms f ∙ A.long ∙ sym (length-map t.atoms g) in
      ext_get_or (g no_atom) (map f t'.atoms) (map g t.atoms) long
      (λ a l.
      let k : a < length t.atoms = omega (arith, l, length-map t'.atoms f, A.long) in
      get_or-map f t'.atoms a no_atom (g no_atom) (omega (arith, k, A.long)) ∙ h a k ∙
      sym (get_or-map g t.atoms a no_atom (g no_atom) k))

  -- an atom has the same predicate in both
  predicate_same : (a : ℕ) → a < length t.atoms → predicate_of t' (new a) ≡ predicate_of t (old a)
  predicate_same a l = rw (A.predicates, A.same a l)

  -- so the rules as read and the levels are the same
  pub reading_same : reading t' ≡ reading t
  unfolding reading
  reading_same =
      ap₂ {C = Reading} (λ rs ks. record { rules = rs; kinds = ks })
      (ap₂ {C = List Rule} (λ (f : RuleRecord → Rule) (xs : List RuleRecord). map f xs) rule_same A.rules)
      (column (kind_in t') (kind_in t) (λ a l. ap (λ (p : Predicate). kind_of p.kind) (predicate_same a l)))

  pub levels_same : levels_of t' ≡ levels_of t
  unfolding levels_of
  levels_same = column (level_in t') (level_in t) (λ a l. ap (λ (p : Predicate). p.level) (predicate_same a l))

-- the bytes: all but given bytes of some atoms are the same
module _ (b b' : List ℕ) (G : Gives b b') where
  abbrev t : Tables
  t = tables b

  abbrev t' : Tables
  t' = tables b'

  -- the atoms stand after the predicates, and the other tables after the atoms
  start_one : start b 1 ≡ 48 + 2 * predicate_count b
  unfolding start
  start_one = refl

  start_two : start b 2 ≡ start b 1 + 3 * atom_count b
  unfolding start
  start_two = refl

  -- outside the atoms every byte is the same
  outside : (i : ℕ) → (i < start b 1) ⊎ (start b 2 ≤ i) → get_or b i 0 ≡ get_or b' i 0
  outside i o =
      ⊎_elim sym
      (λ (a, g). absurd (⊎_elim (λ l. omega (arith, l, g.place))
      (λ l. omega (arith, l, g.place, g.atom, start_two)) o))
      (G.only i)

  -- the table of contents is the same
  pub header : Same 48 b b'
  header j l = outside j (inl (omega (arith, l, start_one)))

  -- every body but the atoms'
  later_same : {X : Type 0} (read : List ℕ → X) (k : ℕ) → k < 6 → 2 ≤ k → Local read (get_or sizes k 0) →
      body read b' k ≡ body read b k
  later_same read k low l loc =
      sym (body_same b b' header read k low loc (λ i p _. outside i (inr (omega (arith, p, start_rises b 2 k l)))))

  -- the atoms: as many, and each at the same place
  pub count_atoms : atom_count b ≡ atom_count b'
  count_atoms = count_same b b' header 1 (omega arith)

  -- where an atom's record starts
  abbrev place : ℕ → ℕ
  place a = start b 1 + 3 * a

  atom_first : (a : ℕ) → a < atom_count b → get_or t.atoms a no_atom ≡ atom_at (drop (place a) b)
  unfolding tables
  atom_first a l = body_at atom_at no_atom b 1 a l

  atom_second : (a : ℕ) → a < atom_count b → get_or t'.atoms a no_atom ≡ atom_at (drop (place a) b')
  unfolding tables
  atom_second a l =
      body_at atom_at no_atom b' 1 a (omega (arith, l, count_atoms)) ∙
      ap (λ (m : ℕ). atom_at (drop (m + 3 * a) b')) (sym (start_same b b' header 1 (omega arith)))

  -- the two bytes of an atom's predicate are no given byte
  predicate_byte : (a j : ℕ) → j < 2 → get_or (drop (place a) b') j 0 ≡ get_or (drop (place a) b) j 0
  predicate_byte a j l =
      get_or-drop (place a) b' j 0 ∙
      ⊎_elim (λ e. e) (λ (a', g). absurd (omega (arith, g.place, l))) (G.only (place a + j)) ∙
      sym (get_or-drop (place a) b j 0)

  -- the tables differ in what is given alone
  pub alike : Alike t t'
  unfolding tables
  alike = record {
    predicates = sym (body_same b b' header predicate_at 0 (omega arith) predicate_local (λ i _ l. outside i (inl l)));
    rules = later_same rule_at 2 (omega arith) (omega arith) rule_local;
    hypotheses = later_same hypothesis_at 3 (omega arith) (omega arith) hypothesis_local;
    comparisons = later_same comparison_at 4 (omega arith) (omega arith) comparison_local;
    elements = later_same element_at 5 (omega arith) (omega arith) element_local;
    long = atoms_length b' ∙ sym count_atoms ∙ sym (atoms_length b);
    same = λ a k.
        let l : a < atom_count b = omega (arith, k, atoms_length b) in
        ap (λ (x : Atom). x.predicate) (atom_second a l) ∙
        ap₂ {C = ℕ} (λ (x y : ℕ). x + 256 * y) (predicate_byte a 0 (omega arith)) (predicate_byte a 1 (omega arith)) ∙
        sym (ap (λ (x : Atom). x.predicate) (atom_first a l));
  }

  -- an atom's given byte is its third
  given_first : (a : ℕ) → a < atom_count b → (get_or t.atoms a no_atom).given ≡ get_or b (place a + 2) 0
  given_first a l = ap (λ (x : Atom). x.given) (atom_first a l) ∙ get_or-drop (place a) b 2 0

  pub given_second : (a : ℕ) → a < atom_count b →
      (get_or t'.atoms a no_atom).given ≡ get_or b' (start b 1 + 3 * a + 2) 0
  given_second a l = ap (λ (x : Atom). x.given) (atom_second a l) ∙ get_or-drop (place a) b' 2 0

  -- what is given of an atom stays, or is a gift
  pub given_either : (a : ℕ) → a < atom_count b → ((get_or t'.atoms a no_atom).given ≡ (get_or t.atoms a no_atom).given)
      ⊎ Gift b b' (start b 1 + 3 * a + 2) a
  given_either a l =
      ⊎_elim (λ e. inl (given_second a l ∙ e ∙ sym (given_first a l)))
      (λ (a', g). let q : a' ≡ a = omega (arith, g.place) in inr (subst (Gift b b' (place a + 2)) q g))
      (G.only (place a + 2))

  -- the given answers of the first are kept
  pub given_grows : answers_of (given_of t) ⊑ answers_of (given_of t')
  given_grows a =
      by_cases (dec_lt a (atom_count b))
      (λ l.
      let k : a < length t.atoms = omega (arith, l, atoms_length b) in
      let k' : a < length t'.atoms = omega (arith, l, count_atoms, atoms_length b') in
      rw (given_at_lem t a k, given_at_lem t' a k')
      (⊎_elim (λ e. rw e (≼_refl _))
      (λ g. let z : (get_or t.atoms a no_atom).given ≡ 0 = given_first a l ∙ g.before in
      rw z (λ e. absurd (undefined_true refl e), λ e. absurd (undefined_false refl e))) (given_either a l)))
      (λ out.
      let z : answers_of (given_of t) a ≡ Truth.Undefined =
      get_or_past (given_of t) a Truth.Undefined (omega (arith, out, given_length t, atoms_length b)) in
      (λ e. absurd (undefined_true z e), λ e. absurd (undefined_false z e)))
