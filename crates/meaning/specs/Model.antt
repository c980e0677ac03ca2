-- The founded model, worked out level by level. Document 01, "The model". The given answers and the levels stand
-- beside the rules. A round takes all three steps at once from the answers before it. Assumes nothing.
use Rattle.std.specs.Prelude.{ℕ, zero, suc, Bool, false, not, cond, ◌&&◌, ◌||◌, List, eqb, length, get_or}
use Rattle.laws.specs.Lists.{all, any, map_at, times}
use Rattle.theory.specs.Truth.{is_true, is_false, is_undefined}
use Rattle.theory.specs.declared.answer.Truth.{Truth}
use Rattle.theory.specs.Answers.{Answers, Atoms, wipe}
use Rattle.meaning.specs.Reading.{Reading, is_certain, is_closed, is_complete, kind_at, level_at, level_count}
use Rattle.meaning.specs.Truth.{body_truth}

-- a list of answers and a list of tests, read at any atom
abbrev pub answers_of : List Truth → Answers
answers_of A a = get_or A a Truth.Undefined

abbrev pub members_of : List Bool → Atoms
members_of U a = get_or U a false

-- some rule that concludes `a` has a true body
unfoldable pub derived : Reading → Answers → ℕ → Bool
derived R A a = any (λ r. eqb r.head a && is_true (body_truth A r.body)) R.rules

-- each rule that concludes `a` has a false body
unfoldable pub refuted : Reading → Answers → ℕ → Bool
refuted R A a = all (λ r. not (eqb r.head a) || is_false (body_truth A r.body)) R.rules

-- The greatest unfounded set: from the closed atoms of level n that are not true, strike out those that a rule
-- supports once the others count as false, until none is left to strike.
abbrev pub candidate : Reading → List ℕ → ℕ → ℕ → Truth → Bool
candidate R levels n a x = is_closed (kind_at R.kinds a) && eqb (level_at levels a) n && not (is_true x)

unfoldable pub candidates : Reading → List ℕ → ℕ → List Truth → List Bool
candidates R levels n A = map_at (candidate R levels n) 0 A

abbrev pub stays : Reading → List Truth → List Bool → ℕ → Bool → Bool
stays R A U a u = u && refuted R (wipe (members_of U) (answers_of A)) a

unfoldable pub strike : Reading → List Truth → List Bool → List Bool
strike R A U = map_at (stays R A U) 0 U

unfoldable pub unfounded : Reading → List ℕ → ℕ → List Truth → List Bool
unfounded R levels n A = times (length A) (strike R A) (candidates R levels n A)

-- (a) heads of true bodies become true; (b) complete or closed atoms with false bodies alone become false; (c) so do
-- those of the greatest unfounded set
unfoldable pub falls : Reading → List Truth → List Bool → ℕ → Bool
falls R A U a = is_complete (kind_at R.kinds a) && refuted R (answers_of A) a || members_of U a

unfoldable pub decide : Reading → List Truth → List Bool → ℕ → Truth
decide R A U a = cond (derived R (answers_of A) a) Truth.True (cond (falls R A U a) Truth.False Truth.Undefined)

-- an answer that is decided stays, and so does one of another level
unfoldable pub next : Reading → List ℕ → ℕ → List Truth → List Bool → ℕ → Truth → Truth
next R levels n A U a x = cond (is_undefined x && eqb (level_at levels a) n) (decide R A U a) x

unfoldable pub round : Reading → List ℕ → ℕ → List Truth → List Truth
round R levels n A = map_at (next R levels n A (unfounded R levels n A)) 0 A

-- a certain level that is finished: all its other atoms become false
unfoldable pub closing : Reading → List ℕ → ℕ → ℕ → Truth → Truth
closing R levels n a x =
    cond (is_undefined x && eqb (level_at levels a) n && is_certain (kind_at R.kinds a)) Truth.False x

unfoldable pub close : Reading → List ℕ → ℕ → List Truth → List Truth
close R levels n A = map_at (closing R levels n) 0 A

unfoldable pub level : Reading → List ℕ → ℕ → List Truth → List Truth
level R levels n A = close R levels n (times (length A) (round R levels n) A)

-- Levels run from 0 upward; each starts from the lower levels' answers and the given atoms.
unfoldable pub levels_below : Reading → List ℕ → ℕ → List Truth → List Truth
levels_below R levels zero A = A
levels_below R levels (suc n) A = level R levels n (levels_below R levels n A)

unfoldable pub model : Reading → List ℕ → List Truth → List Truth
model R levels given = levels_below R levels level_count given
