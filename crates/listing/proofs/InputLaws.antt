-- What two reads, one after the other, gave. Assumes nothing.
use mathlib.Core.Path.{◌≡◌, sym, ap, subst, ◌∙◌}
use mathlib.Core.List.{List, ◌++◌}
use Prim.Native.Nat.{ℕ, ◌+◌, ◌≤◌}
use lib.ListN.{length, take}
use lib.Seq.{length-take-le, take-append-add, take-append-le}
use borrow.Rule.Slice.PartMut.{post_of, put_mid}
use Rattle.std.proofs.Common.{Option}
use Rattle.std.proofs.KnownBytes.{Consumes-trans}
use Rattle.std.specs.Io.KnownBytes.{Consumes}

module _ (buf part : List ℕ) (at k n : ℕ) (l : at ≤ length buf) (m : n ≤ length part) where
  -- the first bytes of a buffer stay, and what was read into the rest of it follows them
  both_read : take (at + n) (put_mid at k buf part) ≡ take at buf ++ take n part
  both_read =
      ap (λ (i : ℕ). take (i + n) (put_mid at k buf part)) (sym (length-take-le at buf l)) ∙
      take-append-add (take at buf) (part ++ post_of at k buf) n ∙
      ap (λ (xs : List ℕ). take at buf ++ xs) (take-append-le n part (post_of at k buf) m)

  pub read_more : (old mid new : Option (List ℕ)) → Consumes old mid (take at buf) → Consumes mid new (take n part) →
      Consumes old new (take (at + n) (put_mid at k buf part))
  read_more old mid new p q =
      subst (Consumes old new) (sym both_read) (Consumes-trans old mid new (take at buf) (take n part) p q)
