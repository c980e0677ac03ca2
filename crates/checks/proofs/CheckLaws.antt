-- What passing gives: a book with none of the refusals 1 to 3 is framed, and one without refusal 5 has every index in
-- its table; so has one with none of 1 to 7. Assumes nothing.
use mathlib.Core.Path.{◌≡◌, sym, ◌∙◌}
use mathlib.Core.List.{List, ◌++◌}
use mathlib.Core.Option.{Option, none}
use Prim.Native.Nat.{ℕ}
use Rattle.meaning.specs.Format.{tables}
use Rattle.meaning.specs.Refusal.{Refusal, code_refusals, first_of, frame_refusals, record_refusals, refusal5}
use Rattle.meaning.proofs.Absent.{none_each}
use Rattle.book.specs.Framed.{Framed, Indexed}
use Rattle.book.proofs.IndexLaws.{indexed}
use Rattle.checks.proofs.FrameLaws.{framed}

-- the groups 1 to 7, one after the other
abbrev table_refusals : List ℕ → List (Option Refusal)
table_refusals b = frame_refusals b ++ code_refusals (tables b) ++ record_refusals (tables b)

-- o is what a check gives
module _ (b : List ℕ) (o : Option Refusal) where
  pub passed_framed : o ≡ first_of (frame_refusals b) → o ≡ none → Framed b
  passed_framed p e =
      let (r1, (r2, (r3, _))) = none_each (frame_refusals b) (sym p ∙ e) in framed b (sym r1) (sym r2) (sym r3)

  pub passed_indexed : o ≡ refusal5 (tables b) → o ≡ none → Indexed b
  passed_indexed p e = indexed b (sym p ∙ e)

  pub tables_framed : o ≡ first_of (table_refusals b) → o ≡ none → Framed b
  tables_framed p e =
      let (r1, (r2, (r3, _))) = none_each (table_refusals b) (sym p ∙ e) in framed b (sym r1) (sym r2) (sym r3)

  pub tables_indexed : o ≡ first_of (table_refusals b) → o ≡ none → Indexed b
  tables_indexed p e = let (_, (_, (_, (_, (r5, _))))) = none_each (table_refusals b) (sym p ∙ e) in indexed b r5
