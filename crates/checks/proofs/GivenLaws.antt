-- Check 7: marks at the heads of rules, the test at an atom, and the search through the atoms. Assumes nothing.
use mathlib.Core.Path.{◌≡◌, refl, sym, ◌∙◌}
use mathlib.Core.Bool.{Bool, true, false, not, ◌&&◌, ◌||◌}
use mathlib.Core.List.{List}
use Prim.Native.Nat.{ℕ, ◌+◌, ◌<◌, ◌≤◌}
use native.Mathlib.Numerals.{add-one}
use native.Mathlib.Omega.{arith}
use lib.Dec.{eqb}
use lib.ListN.{length, get_or, get_or-replicate, length-replicate, length-set, replicate, set, take}
use lib.Seq.{get_or-set_other, get_or-set_same, take_all, take-suc}
use borrow.Author.Tests.{eqb-false, eqb-true}
use Rattle.laws.specs.Lists.{any}
use Rattle.laws.proofs.Ranges.{any_last, any_map}
use Rattle.laws.proofs.Tests.{by-test}
use Rattle.meaning.specs.Format.{atom_count, no_atom, no_rule, rule_count, tables}
use Rattle.meaning.specs.declared.records.RuleRecord.{RuleRecord}
use Rattle.meaning.specs.Reading.{is_open, reading, rule_of}
use Rattle.meaning.specs.Refusal.{given_wrongly, refusal7}
use Rattle.meaning.proofs.Bytes.{atoms_length}
use Rattle.book.specs.Framed.{Framed}
use Rattle.checks.specs.Marks.{Marked, wrong_in}
use Rattle.book.specs.Records.{atom_in, kind_read, rule_in}
use Rattle.book.proofs.Counts.{rules_length}
use Rattle.checks.proofs.LowestLaws.{Found, Seeks, Through, found, lowest_is, through, turns}

-- the marks after the first m rules
abbrev headed : ℕ → RuleRecord → Bool
headed a r = eqb r.head a

pub record MarkedTo (b : List ℕ) (marks : List Bool) (m : ℕ) : Type 0 where
  pub room : length marks ≡ 2048
  pub at : (a : ℕ) → a < atom_count b → get_or marks a false ≡ any (headed a) (take m (tables b).rules)

pub mark_none : (b : List ℕ) → Framed b → MarkedTo b (replicate 2048 false) 0
mark_none b F = record {
  room = length-replicate {A = Bool} 2048 false;
  at = λ a l. get_or-replicate {A = Bool} 2048 a false false (omega (arith, F.counts 1 (omega arith)));
}

-- rule i, as it was read
module _ (b : List ℕ) (i : ℕ) (x : RuleRecord) (p : x ≡ rule_in b i) (l : i < rule_count b) where
  more : (a : ℕ) →
      any (headed a) (take (i + 1) (tables b).rules) ≡ (eqb x.head a || any (headed a) (take i (tables b).rules))
  more a =
      rw (add-one, take-suc (tables b).rules i no_rule (omega (arith, l, rules_length b)), p)
      (any_last (headed a) (take i (tables b).rules) (rule_in b i))

  pub mark_more : (marks : List Bool) → x.head < length marks → MarkedTo b marks i →
      MarkedTo b (set marks x.head true) (i + 1)
  mark_more marks m M =
      let h = x.head in record {
        room = length-set marks h true ∙ M.room;
        at = λ a k.
            by-test (eqb h a)
            (λ t. rw (more a, t, ← eqb-true h a t) (get_or-set_same marks h true false (omega (arith, m))))
            (λ f. rw (more a, f) (get_or-set_other marks h a true false (λ q. eqb-false h a f (sym q)) ∙ M.at a k));
      }

pub mark_all : (b : List ℕ) (marks : List Bool) (i : ℕ) → rule_count b ≤ i → MarkedTo b marks i → Marked b marks
unfolding reading rule_of
mark_all b marks i l M =
    record {
      room = M.room;
      at = λ a k.
          rw (any_map (λ r. eqb r.head a) (rule_of (tables b)) (tables b).rules)
          (rw (take_all i (tables b).rules (omega (arith, l, rules_length b))) at (M.at a k));
    }

-- the test at an atom
module _ (b : List ℕ) (marks : List Bool) (a : ℕ) (l : a < atom_count b) where
  pub wrong_is : Marked b marks →
      (not (eqb (atom_in b a).given 0) && (not (is_open (kind_read b a)) || get_or marks a false)) ≡ wrong_in b a
  unfolding wrong_in
  wrong_is M = rw (M.at a l)

-- the search through the atoms
given_seek : (b : List ℕ) →
    Seeks (refusal7 (reading (tables b)) (tables b).atoms) 7 2 (wrong_in b) (atom_count b)
unfolding refusal7 wrong_in
given_seek b =
    lowest_is 7 2 (given_wrongly (reading (tables b))) (wrong_in b) no_atom (tables b).atoms (atoms_length b)
    (λ i l. refl)

pub given_found : (b : List ℕ) →
    Found (refusal7 (reading (tables b)) (tables b).atoms) 7 2 (wrong_in b) (atom_count b)
given_found b = found (given_seek b)

pub given_through : (b : List ℕ) →
    Through (refusal7 (reading (tables b)) (tables b).atoms) (wrong_in b) (atom_count b)
given_through b = through (given_seek b)

pub ruleset checking = (turns, given_found, given_through)
