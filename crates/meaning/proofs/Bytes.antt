-- Records are read from their own bytes alone, so books that agree there have the same records. Assumes nothing.
use mathlib.Core.Path.{◌≡◌, refl, sym, ap, ap₂, ◌∙◌}
use mathlib.Core.Logic.{by_cases}
use mathlib.Core.List.{List, ◌∷◌}
use Prim.Native.Nat.{ℕ, zero, suc, ◌+◌, ◌*◌, ◌≤◌, ◌<◌}
use native.Mathlib.Omega.{arith}
use native.Mathlib.Decide.{dec_lt}
use native.Mathlib.Nat.{mul-suc}
use lib.ListN.{length, get_or, drop}
use lib.Seq.{drop-drop, get_or-drop}
use Rattle.meaning.specs.Format.{atom_at, atom_count, body, comparison_at, count_of, element_at, hypothesis_at}
use Rattle.meaning.specs.Format.{offset_of, predicate_at, rows, rule_at, sizes, start, tables, u16_at, u32_at, u8_at}

-- the first n bytes are the same
abbrev pub Same : ℕ → List ℕ → List ℕ → Type 0
Same n s s' = (j : ℕ) → j < n → get_or s j 0 ≡ get_or s' j 0

-- a record is read from its first z bytes
abbrev pub Local : {X : Type 0} → (List ℕ → X) → ℕ → Type 0
Local read z = (s s' : List ℕ) → Same z s s' → read s ≡ read s'

module _ {X : Type 0} (read : List ℕ → X) (z : ℕ) where
  -- n records of z bytes each, from bytes that are the same
  pub rows_same : Local read z → (n : ℕ) (s s' : List ℕ) → Same (z * n) s s' → rows read z n s ≡ rows read z n s'
  rows_same loc zero s s' h = refl
  rows_same loc (suc n) s s' h =
      let q : z * suc n ≡ z * n + z = mul-suc z n in
      ap₂ {C = List X} (λ y ys. y ∷ ys) (loc s s' (λ j l. h j (omega (arith, l, q))))
      (rows_same loc n (drop z s) (drop z s')
      (λ j l. get_or-drop z s j 0 ∙ h (z + j) (omega (arith, l, q)) ∙ sym (get_or-drop z s' j 0)))

  pub rows_length : (n : ℕ) (s : List ℕ) → length (rows read z n s) ≡ n
  rows_length zero s = refl
  rows_length (suc n) s = ap suc (rows_length n (drop z s))

  -- the k-th record stands after k others
  pub rows_at : (d : X) (n : ℕ) (s : List ℕ) (k : ℕ) → k < n → get_or (rows read z n s) k d ≡ read (drop (z * k) s)
  rows_at d zero s k l = absurd (omega (arith, l))
  rows_at d (suc n) s zero l =
      let q : z * 0 ≡ 0 = omega arith in
      ap (λ (m : ℕ). read (drop m s)) (sym q)
  rows_at d (suc n) s (suc k) l =
      let q : z + z * k ≡ z * suc k = omega (arith, mul-suc z k) in
      rows_at d n (drop z s) k (omega (arith, l)) ∙ ap read (drop-drop (z * k) z s ∙ ap (λ (m : ℕ). drop m s) q)

-- numbers that stand in the first z bytes
module _ {z : ℕ} (s s' : List ℕ) (h : Same z s s') where
  u8 : (i : ℕ) → i + 1 ≤ z → u8_at s i ≡ u8_at s' i
  u8 i l = h i (omega (arith, l))

  u16 : (i : ℕ) → i + 2 ≤ z → u16_at s i ≡ u16_at s' i
  u16 i l = rw (u8 i (omega (arith, l)), u8 (i + 1) (omega (arith, l)))

  u32 : (i : ℕ) → i + 4 ≤ z → u32_at s i ≡ u32_at s' i
  u32 i l = rw (u16 i (omega (arith, l)), u16 (i + 2) (omega (arith, l)))

-- the records
pub predicate_local : Local predicate_at 2
predicate_local s s' h = rw (u8 s s' h 0 (omega arith), u8 s s' h 1 (omega arith))

pub rule_local : Local rule_at 6
rule_local s s' h = rw (u16 s s' h 0 (omega arith), u16 s s' h 2 (omega arith), u16 s s' h 4 (omega arith))

pub hypothesis_local : Local hypothesis_at 3
hypothesis_local s s' h = rw (u8 s s' h 0 (omega arith), u16 s s' h 1 (omega arith))

pub comparison_local : Local comparison_at 10
comparison_local s s' h =
    rw (
      u8 s s' h 0 (omega arith),
      u8 s s' h 1 (omega arith),
      u32 s s' h 2 (omega arith),
      u16 s s' h 6 (omega arith),
      u16 s s' h 8 (omega arith),
    )

pub element_local : Local element_at 7
element_local s s' h = rw (u8 s s' h 0 (omega arith), u16 s s' h 1 (omega arith), u32 s s' h 3 (omega arith))

-- the table of contents
module _ (b b' : List ℕ) (h : Same 48 b b') where
  pub offset_same : (k : ℕ) → k < 6 → offset_of b k ≡ offset_of b' k
  unfolding offset_of
  offset_same k l = u32 b b' h (8 * k) (omega (arith, l))

  pub count_same : (k : ℕ) → k < 6 → count_of b k ≡ count_of b' k
  unfolding count_of
  count_same k l = u32 b b' h (8 * k + 4) (omega (arith, l))

  -- so each body starts at the same place
  pub start_same : (k : ℕ) → k ≤ 6 → start b k ≡ start b' k
  unfolding start
  start_same zero l = refl
  start_same (suc k) l = rw (start_same k (omega (arith, l)), count_same k (omega (arith, l)))

-- bodies follow one another
pub start_rises : (b : List ℕ) (k m : ℕ) → k ≤ m → start b k ≤ start b m
unfolding start
start_rises b k zero l = let e : k ≡ 0 = omega (arith, l) in rw e (omega arith)
start_rises b k (suc m) l =
    by_cases (dec_lt k (suc m)) (λ g. omega (arith, start_rises b k m (omega (arith, g))))
    (λ g. let e : k ≡ suc m = omega (arith, l, g) in rw e (omega arith))

-- a body whose bytes are the same has the same records
module _ (b b' : List ℕ) (h : Same 48 b b') {X : Type 0} (read : List ℕ → X) (k : ℕ) (low : k < 6)
    (loc : Local read (get_or sizes k 0)) where
  pub body_same : ((i : ℕ) → start b k ≤ i → i < start b (suc k) → get_or b i 0 ≡ get_or b' i 0) →
      body read b k ≡ body read b' k
  unfolding body start
  body_same same =
      let s = start b k in
      let z = get_or sizes k 0 in
      rw (← count_same b b' h k low, ← start_same b b' h k (omega (arith, low)))
      (rows_same read z loc (count_of b k) (drop s b) (drop s b')
      (λ j l. get_or-drop s b j 0 ∙ same (s + j) (omega arith) (omega (arith, l)) ∙ sym (get_or-drop s b' j 0)))

-- how many records a body has, and one of them
pub body_length : {X : Type 0} (read : List ℕ → X) (b : List ℕ) (k : ℕ) → length (body read b k) ≡ count_of b k
unfolding body
body_length read b k = rows_length read (get_or sizes k 0) (count_of b k) (drop (start b k) b)

pub body_at : {X : Type 0} (read : List ℕ → X) (d : X) (b : List ℕ) (k i : ℕ) → i < count_of b k →
    get_or (body read b k) i d ≡ read (drop (start b k + get_or sizes k 0 * i) b)
unfolding body
body_at read d b k i l =
    let z = get_or sizes k 0 in
    rows_at read z d (count_of b k) (drop (start b k) b) i l ∙ ap read (drop-drop (z * i) (start b k) b)

-- how many atoms there are
pub atoms_length : (b : List ℕ) → length (tables b).atoms ≡ atom_count b
unfolding tables
atoms_length b = body_length atom_at b 1
