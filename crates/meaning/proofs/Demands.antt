-- The three demands hold of each call that is answered as the outcome says, and of no other. Assumes nothing.
use mathlib.Core.Path.{◌≡◌, refl, sym, ap, ap₂, ◌∙◌, subst}
use mathlib.Core.Logic.{by_cases}
use mathlib.Core.Option.{Option, none, some}
use mathlib.Core.List.{List}
use Prim.Native.Nat.{ℕ, ◌≤◌}
use native.Mathlib.Decide.{dec_lt}
use native.Mathlib.Omega.{arith}
use lib.ListN.{length}
use lib.Seq.{ext_get_or}
use Rattle.theory.specs.Truth.{◌≼◌}
use Rattle.theory.specs.declared.answer.Truth.{Truth}
use Rattle.theory.specs.Answers.{◌⊑◌}
use Rattle.meaning.specs.Format.{Tables, tables}
use Rattle.meaning.specs.Reading.{code_of, given_of, levels_of, reading}
use Rattle.meaning.specs.Refusal.{Refusal, refusal}
use Rattle.meaning.specs.Model.{answers_of}
use Rattle.meaning.specs.Outcome.{Answered, Call, Outcome, model_of, outcome, written}
use Rattle.meaning.specs.Founded.{Founded}
use Rattle.meaning.specs.Demands.{Accepted, AcceptedCall, Demands, Filled, FoundedIn, Gives, Keeps, More}
use Rattle.meaning.proofs.Accepted.{absent, given_length, sound}
use Rattle.meaning.proofs.Sound.{Sound}
use Rattle.meaning.proofs.Worked.{model_founded}
use Rattle.meaning.proofs.Unique.{founded_grows, founded_unique}
use Rattle.meaning.proofs.Given.{alike, count_atoms, given_grows, levels_same, reading_same}
use Rattle.meaning.proofs.Gifts.{accepted_more}
use Rattle.meaning.proofs.Bytes.{atoms_length}
use Rattle.meaning.proofs.Rooms.{accepted, refused, room_enough, written_fills}

-- an accepted book is sound
pub accepted_sound : (b : List ℕ) (n : ℕ) → Accepted b n →
    Sound (reading (tables b)) (levels_of (tables b)) (given_of (tables b))
accepted_sound b n e = sound (tables b) (absent b n e)

-- demand 2: the model is founded
pub founded : (b : List ℕ) (n : ℕ) → Accepted b n → FoundedIn b (model_of b)
unfolding model_of
founded b n e =
    let S = accepted_sound b n e in
    model_founded (reading (tables b)) (levels_of (tables b)) S.of_kinds S.pure (given_of (tables b)) S.of_given

-- it has an answer for each atom
pub model_length : (b : List ℕ) (n : ℕ) → Accepted b n → length (model_of b) ≡ length (tables b).atoms
model_length b n e = (founded b n e).long ∙ given_length (tables b)

-- demand 2: and there is no other
pub unique : (b : List ℕ) (n : ℕ) → Accepted b n → (A A' : List Truth) → FoundedIn b A → FoundedIn b A' → A ≡ A'
unique b n e = founded_unique (reading (tables b)) (levels_of (tables b)) (given_of (tables b)) (accepted_sound b n e)

-- demand 3: the second book has the same rules and levels, and more is given
pub keeps : (b b' : List ℕ) (n : ℕ) → Gives b b' → Accepted b n → (A A' : List Truth) → FoundedIn b A →
    FoundedIn b' A' → answers_of A ⊑ answers_of A'
keeps b b' n G e A A' f f' =
    let t : Tables = tables b in
    let t' : Tables = tables b' in
    let R = reading_same t t' (alike b b' G) in
    let L = levels_same t t' (alike b b' G) in
    let S = accepted_sound b n e in
    let S' : Sound (reading t) (levels_of t) (given_of t') =
    rw (R, L) at (accepted_sound b' n (accepted_more b b' G n e)) in
    let g : Founded (reading t) (levels_of t) (given_of t') A' = rw (R, L) at f' in
    founded_grows (reading t) (levels_of t) (given_of t) (given_of t') S S' (given_grows b b' G) A A' f g

-- and the room of an accepted book has place for them
model_fills : (b room : List ℕ) → Accepted b (length room) → Filled (model_of b) room (written (model_of b) room)
model_fills b room e =
    written_fills (model_of b) room (omega (arith, model_length b (length room) e, room_enough b (length room) e))

-- demands 1 and 2, of a call that is answered
module _ (c : Call) (is : Answered c) where
  -- what it returns and leaves, where the outcome is known
  returned : (o : Outcome) → outcome c.book c.room ≡ o → (c.number ≡ o.number) × (c.after ≡ o.room)
  returned o e = (
    is.returns ∙ ap (λ (o : Outcome). o.number) e,
    is.leaves ∙ ap (λ (o : Outcome). o.room) e,
  )

  -- acceptance leaves the model's answers
  fills : AcceptedCall c → Filled (model_of c.book) c.room c.after
  fills e =
      subst (Filled (model_of c.book) c.room) (sym (returned _ (accepted c.book c.room e)).1)
      (model_fills c.book c.room e)

  pub demands : Demands c
  demands = record {
    refuses = λ r e. returned _ (refused c.book c.room r e);
    accepts = λ e. (returned _ (accepted c.book c.room e)).0;
    answers = λ e.
        let n = length c.room in
        (model_of c.book, founded c.book n e, model_length c.book n e ∙ atoms_length c.book, fills e);
    unique = unique c.book (length c.room);
  }

-- the code of an answer that is kept
code_kept : (x y : Truth) → x ≼ y → (code_of x ≡ 0 → ⊥) → code_of y ≡ code_of x
code_kept Truth.Undefined y p n = absurd (n refl)
code_kept Truth.True y p n = ap code_of (p.0 refl)
code_kept Truth.False y p n = ap code_of (p.1 refl)

-- demand 3, of two calls that are answered
pub kept : (c c' : Call) → Answered c → Answered c' → More c c' → Keeps c c'
kept c c' is is' m = record {
  accepts_more = (demands c' is').accepts also;
  keeps = grow;
  stays = λ a l n.
      let (A, f, k, F) = (demands c is).answers m.first in
      let (A', f', k', F') = (demands c' is').answers also in
      let p = F.answer a (omega (arith, l, k)) in
      let p' = F'.answer a (omega (arith, l, k', count_atoms c.book c'.book m.gives)) in
      p' ∙ code_kept (answers_of A a) (answers_of A' a) (grow A A' f f' a) (λ z. n (omega (arith, p, z))) ∙ sym p;
}
  where
    also : AcceptedCall c'
    also = rw m.long (accepted_more c.book c'.book m.gives (length c.room) m.first)

    grow : (A A' : List Truth) → FoundedIn c.book A → FoundedIn c'.book A' → answers_of A ⊑ answers_of A'
    grow = keeps c.book c'.book (length c.room) m.gives m.first

-- a room that is filled has its bytes from the answers and from what it was
filled_unique : (A : List Truth) (room after other : List ℕ) → Filled A room after → Filled A room other →
    after ≡ other
filled_unique A room after other F G =
    ext_get_or 0 after other (F.long ∙ sym G.long)
    (λ i _. by_cases (dec_lt i (length A)) (λ l. F.answer i l ∙ sym (G.answer i l))
    (λ n. let l : length A ≤ i = omega (arith, n) in F.later i l ∙ sym (G.later i l)))

-- a call that meets demands 1 and 2 is answered: they say no less than the outcome
pub answered : (c : Call) → Demands c → Answered c
answered c D = go (refusal b (length room)) refl
  where
    b : List ℕ
    b = c.book

    room : List ℕ
    room = c.room

    go : (o : Option Refusal) → refusal b (length room) ≡ o → Answered c
    go none e =
        let (A, f, _, F) = D.answers e in
        let same : A ≡ model_of b = D.unique e A (model_of b) f (founded b (length room) e) in
        let F' = subst (λ (X : List Truth). Filled X room c.after) same F in
        record {
          returns = rw (accepted b room e) (D.accepts e);
          leaves = rw (accepted b room e)
              (filled_unique (model_of b) room c.after (written (model_of b) room) F' (model_fills b room e));
        }
    go (some r) e =
        let (p, q) = D.refuses r e in
        record { returns = rw (refused b room r e) p; leaves = rw (refused b room r e) q }

-- a book and a room admit one number and one room afterwards
module _ (c d : Call) (p : c.book ≡ d.book) (q : c.room ≡ d.room) where
  pub answered_unique : Answered c → Answered d → (c.number ≡ d.number) × (c.after ≡ d.after)
  answered_unique C D = (
    C.returns ∙ ap₂ (λ (b room : List ℕ). (outcome b room).number) p q ∙ sym D.returns,
    C.leaves ∙ ap₂ (λ (b room : List ℕ). (outcome b room).room) p q ∙ sym D.leaves,
  )

  pub demands_unique : Demands c → Demands d → (c.number ≡ d.number) × (c.after ≡ d.after)
  demands_unique C D = answered_unique (answered c C) (answered d D)
