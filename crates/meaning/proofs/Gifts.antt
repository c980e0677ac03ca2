-- A book with more given atoms is accepted with the same room. Assumes nothing.
use mathlib.Core.Path.{◌≡◌, refl, sym, ap, ◌∙◌}
use mathlib.Core.Logic.{◌⊎◌, ⊎_elim}
use mathlib.Core.Bool.{Bool, true, false, not, ◌&&◌, ◌||◌, So}
use mathlib.Core.List.{List}
use mathlib.Core.Option.{none}
use Prim.Native.Nat.{ℕ, ◌+◌, ◌*◌, ◌<◌}
use native.Mathlib.Omega.{arith}
use lib.Dec.{eqb}
use lib.ListN.{length}
use borrow.Author.Tests.{eqb-true, le-ltb}
use Rattle.std.proofs.lemmas.Bool.{false_from_ne_true}
use Rattle.laws.proofs.Entries.{none_any}
use Rattle.meaning.specs.Format.{Tables, start, tables, no_atom}
use Rattle.meaning.specs.declared.records.Atom.{Atom}
use Rattle.meaning.specs.Reading.{elements_of, is_open, kind_at, reading}
use Rattle.meaning.specs.Refusal.{concluded, given_wrongly, lowest, misplaced, refusal, refusal1, refusal12}
use Rattle.meaning.specs.Refusal.{refusal2, refusal3, refusal4, refusal5, refusal6, refusal7, refusal8, refusals}
use Rattle.meaning.specs.Refusal.{stray, stray_atom, unlisted, unlisted_atom}
use Rattle.meaning.specs.Demands.{Accepted, Gift, Gives}
use Rattle.meaning.proofs.Absent.{at_clear, clear_at, each_none, none_each}
use Rattle.meaning.proofs.Accepted.{atom_at}
use Rattle.meaning.proofs.Bytes.{Same, atoms_length, start_same}
use Rattle.meaning.proofs.Longer.{counts_same, offsets_same}
use Rattle.meaning.proofs.Given.{Alike, alike, given_either, given_second, header, levels_same, reading_same}

module _ (b b' : List ℕ) (G : Gives b b') where
  abbrev t : Tables
  t = tables b

  abbrev t' : Tables
  t' = tables b'

  -- the contents are the same, and so are the tables but for what is given
  abbrev H : Same 48 b b'
  H = header b b' G

  abbrev A : Alike t t'
  A = alike b b' G

  -- 1 to 3 look at the length and the contents alone
  one : refusal1 b ≡ none → refusal1 b' ≡ none
  unfolding refusal1
  one e = rw G.long e

  two : refusal2 b ≡ none → refusal2 b' ≡ none
  two e = sym (counts_same b b' H) ∙ e

  three : refusal3 b ≡ none → refusal3 b' ≡ none
  unfolding refusal3
  three e =
      let (p, (q, _)) = none_each (misplaced b) e in
      each_none (misplaced b')
      (sym (offsets_same b b' H) ∙ p, (rw (G.long, ← start_same b b' H 6 (omega arith)) q, tt))

  -- there are as many atoms
  atom_in_lem : (a : ℕ) → a < length t'.atoms → a < length t.atoms
  atom_in_lem a l = omega (arith, l, A.long)

  -- what is given of an atom stays, or is a gift
  either : (a : ℕ) → a < length t'.atoms →
      ((atom_at t' a).given ≡ (atom_at t a).given) ⊎ Gift b b' (start b 1 + 3 * a + 2) a
  either a l = given_either b b' G a (omega (arith, atom_in_lem a l, atoms_length b))

  -- 4: a gift is a listed code, and the other tables are the same
  four : refusal4 t ≡ none → refusal4 t' ≡ none
  unfolding refusal4
  four e =
      let (p, (q, later)) = none_each (unlisted t) e in
      each_none (unlisted t')
      (rw (A.predicates, A.hypotheses, A.comparisons, A.elements)
      (p, (at_clear 4 2 unlisted_atom no_atom t'.atoms (listed q), later)))
    where
      listed : lowest 4 2 unlisted_atom t.atoms ≡ none → (a : ℕ) → a < length t'.atoms →
          unlisted_atom a (atom_at t' a) ≡ false
      listed q a l =
          ⊎_elim (λ same. rw same (clear_at 4 2 unlisted_atom no_atom t.atoms q a (atom_in_lem a l)))
          (λ g. le-ltb 2 (atom_at t' a).given (omega (arith, g.after, given_second b b' G a g.atom)))
          (either a l)

  -- 5: given bytes are no indices, and the other tables are the same
  five : refusal5 t ≡ none → refusal5 t' ≡ none
  unfolding refusal5
  five e =
      let (p, later) = none_each (stray t) e in
      let fault : ℕ → Atom → Bool = stray_atom (length t.predicates) in
      let clear : (a : ℕ) → a < length t'.atoms → fault a (atom_at t' a) ≡ false =
      λ a l. let k = atom_in_lem a l in rw (A.same a k) (clear_at 5 2 fault no_atom t.atoms p a k) in
      each_none (stray t')
      (rw (A.predicates, A.rules, A.hypotheses, A.comparisons, A.elements, A.long)
      (at_clear 5 2 fault no_atom t'.atoms clear, later))

  -- 6 and 8 look at tables that are the same
  six : refusal6 t ≡ none → refusal6 t' ≡ none
  unfolding refusal6 elements_of
  six e = rw (A.elements, A.comparisons) e

  -- 7: a gift is at an open atom that no rule concludes
  seven : refusal7 (reading t) t.atoms ≡ none → refusal7 (reading t) t'.atoms ≡ none
  unfolding refusal7
  seven e = at_clear 7 2 (given_wrongly (reading t)) no_atom t'.atoms clean
    where
      rightly : (g o c : Bool) → So o → c ≡ false → (not g && (not o || c)) ≡ false
      rightly true o c p q = refl
      rightly false o c p q = rw (p, q)

      free : {i a : ℕ} → Gift b b' i a → concluded (reading t) a ≡ false
      free {i} {a} g =
          none_any (λ r. eqb r.head a) (reading t).rules
          (λ r j. false_from_ne_true (eqb r.head a) (λ e. g.unconcluded r j (eqb-true r.head a e)))

      clean : (a : ℕ) → a < length t'.atoms → given_wrongly (reading t) a (atom_at t' a) ≡ false
      clean a l =
          ⊎_elim (λ same. rw same (clear_at 7 2 (given_wrongly (reading t)) no_atom t.atoms e a (atom_in_lem a l)))
          (λ g. let o : So (is_open (kind_at (reading t).kinds a)) = ap is_open g.opened in
          rightly (eqb (atom_at t' a).given 0) _ _ o (free g))
          (either a l)

  eight : refusal8 t.predicates ≡ none → refusal8 t'.predicates ≡ none
  eight e = rw A.predicates e

  -- 9 to 12 look at the rules as read, the levels and the number of atoms, which are the same
  pub accepted_more : (room : ℕ) → Accepted b room → Accepted b' room
  unfolding refusal refusal12
  accepted_more room e =
      let (r1, (r2, (r3, (r4, (r5, (r6, (r7, (r8, later)))))))) =
      none_each (refusals b t room) e in
      each_none (refusals b' t' room)
      (rw (reading_same t t' A, levels_same t t' A, A.long)
      (one r1, (two r2, (three r3, (four r4, (five r5, (six r6, (seven r7, (eight r8, later)))))))))
