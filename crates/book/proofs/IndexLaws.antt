-- A book without refusal 5 has every index in its table. Assumes nothing.
use mathlib.Core.Path.{◌≡◌}
use mathlib.Core.Bool.{false}
use mathlib.Core.List.{List}
use mathlib.Core.Option.{none}
use Prim.Native.Nat.{ℕ, ◌+◌, ◌<◌}
use native.Mathlib.Omega.{arith}
use lib.Dec.{leb, ltb}
use lib.ListN.{length}
use borrow.Author.Tests.{leb-false, ltb-false}
use Rattle.std.proofs.lemmas.Bool.{or_parts}
use Rattle.meaning.specs.Format.{Tables, no_atom, no_comparison, no_element, no_hypothesis, no_rule, rule_count, tables}
use Rattle.meaning.specs.Refusal.{refusal5, stray, stray_atom, stray_comparison, stray_element, stray_hypothesis}
use Rattle.meaning.specs.Refusal.{stray_rule}
use Rattle.meaning.proofs.Absent.{clear_at, none_each}
use Rattle.meaning.proofs.Bytes.{atoms_length}
use Rattle.book.specs.Framed.{Indexed}
use Rattle.book.specs.Records.{rule_in}
use Rattle.book.proofs.Counts.{comparisons_length, elements_length, hypotheses_length, predicates_length}
use Rattle.book.proofs.Counts.{rules_length}

pub indexed : (b : List ℕ) → refusal5 (tables b) ≡ none → Indexed b
unfolding refusal5
indexed b e =
    let t : Tables = tables b in
    let (atoms, (rules, (hypotheses, (comparisons, (elements, _))))) = none_each (stray t) e in
    let n0 = predicates_length b in
    let n1 = atoms_length b in
    let n3 = hypotheses_length b in
    let n4 = comparisons_length b in
    let n5 = elements_length b in
    let atom-clear = clear_at 5 2 (stray_atom (length t.predicates)) no_atom t.atoms atoms in
    let rule-clear = clear_at 5 3 (stray_rule (length t.atoms) (length t.hypotheses)) no_rule t.rules rules in
    let hypothesis-clear =
    clear_at 5 4 (stray_hypothesis (length t.atoms) (length t.comparisons)) no_hypothesis t.hypotheses
    hypotheses in
    let comparison_clear =
    clear_at 5 5 (stray_comparison (length t.elements)) no_comparison t.comparisons comparisons in
    let element-clear = clear_at 5 6 (stray_element (length t.atoms)) no_element t.elements elements in
    let rule_fails : (r : ℕ) → r < rule_count b →
    (leb (length t.atoms) (rule_in b r).head ≡ false) ×
    (ltb (length t.hypotheses) ((rule_in b r).first + (rule_in b r).many) ≡ false) =
    λ r l. or_parts _ _ (rule-clear r (omega (arith, l, rules_length b))) in
    record {
      atom = λ a l. rw (← n0) (leb-false _ _ (atom-clear a (omega (arith, l, n1))));
      head = λ r l. rw (← n1) (leb-false _ _ (rule_fails r l).0);
      rule = λ r l. rw (← n3) (ltb-false _ _ (rule_fails r l).1);
      hypothesis = λ h l. rw (← n1, ← n4) (leb-false _ _ (hypothesis-clear h (omega (arith, l, n3))));
      comparison = λ c l. rw (← n5) (ltb-false _ _ (comparison_clear c (omega (arith, l, n4))));
      element = λ x l. rw (← n1) (leb-false _ _ (element-clear x (omega (arith, l, n5))));
    }
