-- The room after all answers are written: that of the outcome. Assumes nothing.
use mathlib.Core.Path.{◌≡◌, sym, ap, ◌∙◌}
use mathlib.Core.Logic.{by_cases}
use mathlib.Core.List.{List}
use Prim.Native.Nat.{ℕ, ◌<◌, ◌≤◌, min}
use native.Mathlib.Decide.{dec_lt}
use native.Mathlib.Omega.{arith}
use lib.ListN.{length, get_or, length-take, take}
use lib.Seq.{ext_get_or, get_or-take}
use Rattle.theory.specs.Truth.{code_of}
use Rattle.theory.specs.declared.answer.Truth.{Truth}
use Rattle.meaning.specs.Outcome.{written}
use Rattle.meaning.proofs.Rooms.{written_fills}

-- as many answers as the room has a place for
pub written_all : (A : List Truth) (room now : List ℕ) (i : ℕ) → length now ≡ length room →
    min (length room) (length A) ≤ i → i ≤ min (length room) (length A) →
    ((k : ℕ) → k < i → get_or now k 0 ≡ code_of (get_or A k Truth.Undefined)) →
    ((k : ℕ) → i ≤ k → get_or now k 0 ≡ get_or room k 0) → now ≡ written (take (length room) A) room
written_all A room now i s l m h g =
    let T = take (length room) A in
    let t : length T ≡ i = omega (arith, length-take (length room) A, l, m) in
    let W = written_fills T room (omega (arith, t, m)) in
    ext_get_or 0 now (written T room) (s ∙ sym W.long)
    (λ k _. by_cases (dec_lt k i)
    (λ p. h k p ∙
    ap code_of (sym (get_or-take (length room) A k Truth.Undefined (omega (arith, p, m)))) ∙
    sym (W.answer k (omega (arith, p, t))))
    (λ p. g k (omega (arith, p)) ∙ sym (W.later k (omega (arith, p, t)))))
