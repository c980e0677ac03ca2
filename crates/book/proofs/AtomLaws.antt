-- The kind and the level of an atom, from its predicate's record. Assumes nothing.
use mathlib.Core.Path.{◌≡◌, sym, ◌∙◌}
use mathlib.Core.List.{List}
use Prim.Native.Nat.{ℕ, ◌<◌}
use native.Mathlib.Omega.{arith}
use Rattle.meaning.specs.Format.{atom_count, predicate_count, tables}
use Rattle.meaning.specs.Reading.{kind_of}
use Rattle.meaning.specs.declared.codes.Kind.{Kind}
use Rattle.meaning.specs.declared.records.Atom.{Atom}
use Rattle.meaning.specs.declared.records.Predicate.{Predicate}
use Rattle.meaning.proofs.Accepted.{kind_at_lem, level_at_lem}
use Rattle.meaning.proofs.Bytes.{atoms_length}
use Rattle.book.specs.Framed.{Indexed}
use Rattle.book.specs.Records.{atom_in, kind_read, level_read, predicate_in}

module _ (b : List ℕ) (a : ℕ) (l : a < atom_count b) (x : Atom) (e : x ≡ atom_in b a) where
  -- its predicate is in the table
  pub predicate_there : Indexed b → x.predicate < predicate_count b
  predicate_there I = rw e (I.atom a l)

  -- what is read of the predicate is the atom's
  module _ (p : Predicate) (f : p ≡ predicate_in b x.predicate) where
    pub kind_is : (k : Kind) → k ≡ kind_of p.kind → k ≡ kind_read b a
    kind_is k q = q ∙ rw (f, e) (sym (kind_at_lem (tables b) a (omega (arith, l, atoms_length b))))

    pub level_is : p.level ≡ level_read b a
    level_is = rw (f, e) (sym (level_at_lem (tables b) a (omega (arith, l, atoms_length b))))
