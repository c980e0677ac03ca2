-- The model of a book: the same for any two level tables, never taken back by more given answers, and two-valued at
-- its certain atoms. Assumes nothing.
use mathlib.Core.Path.{◌≡◌}
use mathlib.Core.Logic.{inr}
use Prim.Native.Nat.{ℕ}
use Rattle.theory.specs.declared.answer.Truth.{Truth}
use Rattle.theory.specs.Answers.{Answers, ◌⊑◌}
use Rattle.theory.specs.Steps.{Run, Final, Fresh}
use Rattle.theory.specs.Levels.{Book, Layers, whole, under, Under, Model}
use Rattle.theory.proofs.Answers.{⊑_refl, ⊑_antisym}
use Rattle.theory.proofs.Steps.{below}
use Rattle.theory.proofs.Embed.{Embeds, run_embeds, final_embeds}
use Rattle.theory.proofs.Merge.{merged}

-- where all rules lie below level `n`, the levels below `n` are the whole book
under_whole : {B : Book} (L : Layers B) (n : ℕ) → Embeds (under B L n) (whole B)
under_whole L n = record {
  has = λ r has. has.0;
  complete = λ a c. c.0;
  closed = λ a c. c.0;
  own_complete = λ r has c. (has, c.1);
  own_closed = λ r has c. (has, c.1);
}

whole_under : {B : Book} {L : Layers B} {n : ℕ} → Under B L n → Embeds (whole B) (under B L n)
whole_under F = record {
  has = λ r has. (has, F.rules r has);
  complete = λ a c. (c, F.completes a c);
  closed = λ a c. (c, F.closeds a c);
  own_complete = λ r has _. has.0;
  own_closed = λ r has _. has.0;
}

module _ {B : Book} {L : Layers B} {G J : Answers} (fresh : Fresh B.rules (whole B) G) (m : Model B L G J) where
  -- so the model is the final end of a run that mentions no level
  whole_run : Run B.rules (whole B) G J
  whole_run = run_embeds (under_whole L m.most) (merged fresh m.levels).run

  whole_final : Final B.rules (whole B) J
  whole_final = final_embeds (whole_under m.covers) (merged fresh m.levels).final

-- demand 3, whatever the two level tables: more given answers take none back
pub grows : {B : Book} {L L' : Layers B} {G G' J J' : Answers} → Fresh B.rules (whole B) G →
    Fresh B.rules (whole B) G' → G ⊑ G' → Model B L G J → Model B L' G' J' → J ⊑ J'
grows g g' p m m' = below g'.closeds (whole_run g' m') (whole_final g' m') p (whole_run g m)

-- one model, whatever the level table and the order and grouping of the steps
pub one_model : {B : Book} {L L' : Layers B} {G J J' : Answers} → Fresh B.rules (whole B) G →
    Model B L G J → Model B L' G J' → J ≡ J'
one_model {G = G} {J} {J'} g m m' = ⊑_antisym J J' (grows g g (⊑_refl G) m m') (grows g g (⊑_refl G) m' m)

-- a certain atom is never undefined
pub two_valued : {B : Book} {L : Layers B} {G J : Answers} → Fresh B.rules (whole B) G → Model B L G J →
    (a : ℕ) → B.rules.Certain a → J a ≡ Truth.Undefined → ⊥
two_valued g m a c = (merged g m.levels).decided a c (m.covers.closeds a (inr c))
