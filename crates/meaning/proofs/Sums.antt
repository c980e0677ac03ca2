-- Count and sum: how the least and the most move as answers change, for any weighing of the elements. Assumes nothing.
use mathlib.Core.Path.{◌≡◌, refl}
use mathlib.Core.Logic.{inl, inr, ⊎_elim}
use mathlib.Core.Bool.{Bool, false, not, cond, So, false≢true}
use mathlib.Core.List.{List, [], ◌∷◌}
use native.Mathlib.Omega.{arith}
use lib.IntN.{ℤ, pos}
use lib.Signed.{lt_z, ◌≤ℤ◌}
use Rattle.std.proofs.lemmas.Int.{ints}
use Rattle.std.proofs.lemmas.Bool.{and_from, and_parts, or_cases}
use Rattle.laws.specs.Lists.{In}
use Rattle.laws.proofs.Tests.{by-test, not_of, or_map, not_map}
use Rattle.theory.specs.Truth.{is_true, is_false}
use Rattle.theory.specs.declared.answer.Truth.{Truth}
use Rattle.theory.specs.Answers.{Answers}
use Rattle.meaning.specs.Reading.{Element}
use Rattle.meaning.specs.declared.codes.Relation.{Relation}
use Rattle.meaning.specs.Truth.{above, between, element_truth, least, least_share, most, most_share, opposite}
use Rattle.meaning.specs.Truth.{related, total, weighed}
use Rattle.meaning.specs.Refusal.{is_above, is_below}
use Rattle.meaning.proofs.Relations.{by_opposites, by_above, by_below}
use Rattle.meaning.proofs.Elements.{Definite, Possible, FromTrue, FromFalse, stays_true, stays_false}

-- An element's share of the least, by an order of the weights; its share of the most is that by the reversed order.
abbrev share : (ℤ → ℤ → Bool) → Truth → ℤ → ℤ
share below Truth.Undefined w = cond (below w (pos 0)) w (pos 0)
share below Truth.True w = w
share below Truth.False w = pos 0

module _ (below : ℤ → ℤ → Bool) (Upto : ℤ → ℤ → Type 0) (self : (a : ℤ) → Upto a a)
    (passes : (a b : ℤ) → So (below a b) → Upto a b) (fails : (a b : ℤ) → below a b ≡ false → Upto b a) (w : ℤ) where
  -- an undefined share is the lesser of the weight and 0
  lesser : (P : ℤ → Type 0) → (So (below w (pos 0)) → P w) → (below w (pos 0) ≡ false → P (pos 0)) →
      P (share below Truth.Undefined w)
  lesser P p q = by-test (below w (pos 0)) (λ t. rw t (p t)) (λ f. rw f (q f))

  -- A share rises if only a weight of at most 0 stops being true and only one of at least 0 stops being false.
  share_rises : (x y : Truth) → (So (is_true x) → So (not (is_true y)) → Upto w (pos 0)) →
      (So (is_false x) → So (not (is_false y)) → Upto (pos 0) w) → Upto (share below x w) (share below y w)
  share_rises Truth.Undefined Truth.Undefined p q = self (share below Truth.Undefined w)
  share_rises Truth.Undefined Truth.True p q = lesser (λ v. Upto v w) (λ t. self w) (fails w (pos 0))
  share_rises Truth.Undefined Truth.False p q = lesser (λ v. Upto v (pos 0)) (passes w (pos 0)) (λ f. self (pos 0))
  share_rises Truth.True Truth.Undefined p q = lesser (Upto w) (λ t. self w) (λ f. p refl refl)
  share_rises Truth.True Truth.True p q = self w
  share_rises Truth.True Truth.False p q = p refl refl
  share_rises Truth.False Truth.Undefined p q = lesser (Upto (pos 0)) (λ t. q refl refl) (λ f. self (pos 0))
  share_rises Truth.False Truth.True p q = q refl refl
  share_rises Truth.False Truth.False p q = self (pos 0)

-- the two shares are the one by an order and by its reverse
least_is : (x : Truth) (w : ℤ) → least_share x w ≡ share lt_z x w
least_is Truth.Undefined w = refl
least_is Truth.True w = refl
least_is Truth.False w = refl

most_is : (x : Truth) (w : ℤ) → most_share x w ≡ share above x w
most_is Truth.Undefined w = refl
most_is Truth.True w = refl
most_is Truth.False w = refl

-- laws of the order
at_most_self : (a : ℤ) → a ≤ℤ a
at_most_self a = omega (arith, ints)

lt_weak : (a b : ℤ) → So (lt_z a b) → a ≤ℤ b
lt_weak a b t = omega (arith, ints, t)

lt_fails : (a b : ℤ) → lt_z a b ≡ false → b ≤ℤ a
lt_fails a b f = omega (arith, ints, f)

module _ (w : ℤ) (x y : Truth) where
  -- how a share of the least rises, and one of the most falls
  least_share_lem : (So (is_true x) → So (not (is_true y)) → w ≤ℤ pos 0) →
      (So (is_false x) → So (not (is_false y)) → pos 0 ≤ℤ w) → least_share x w ≤ℤ least_share y w
  least_share_lem p q = rw (least_is x w, least_is y w) (share_rises lt_z ◌≤ℤ◌ at_most_self lt_weak lt_fails w x y p q)

  most_share_lem : (So (is_true x) → So (not (is_true y)) → pos 0 ≤ℤ w) →
      (So (is_false x) → So (not (is_false y)) → w ≤ℤ pos 0) → most_share y w ≤ℤ most_share x w
  most_share_lem p q =
      rw (most_is x w, most_is y w)
      (share_rises above (λ a b. b ≤ℤ a) at_most_self (λ a b. lt_weak b a) (λ a b. lt_fails b a) w x y p q)

-- a total rises if each share does
total_rises : (f g : Element → ℤ) (es : List Element) → ((e : Element) → In e es → f e ≤ℤ g e) →
    total f es ≤ℤ total g es
total_rises f g [] h = at_most_self (pos 0)
total_rises f g (e ∷ es) h = omega (arith, ints, h e (inl refl), total_rises f g es (λ x i. h x (inr i)))

-- the least is at most the most
least_most : (weigh : Element → ℤ) (A : Answers) (es : List Element) → least weigh A es ≤ℤ most weigh A es
unfolding least most
least_most weigh A es = total_rises _ _ es (λ e i. apart (element_truth A e) (weigh e))
  where
    no : {X : Type 0} → So false → X
    no t = absurd (false≢true t)

    apart : (x : Truth) (w : ℤ) → least_share x w ≤ℤ most_share x w
    apart Truth.Undefined w =
        omega (
          arith,
          ints,
          least_share_lem w Truth.Undefined Truth.False no no,
          most_share_lem w Truth.Undefined Truth.False no no,
        )
    apart Truth.True w = at_most_self w
    apart Truth.False w = at_most_self (pos 0)

-- a test of order, as its end rises or falls
rises : (k a b : ℤ) → a ≤ℤ b → So (lt_z k a) → So (lt_z k b)
rises k a b h t = grind (arith, ints)

falls : (k a b : ℤ) → a ≤ℤ b → So (lt_z b k) → So (lt_z a k)
falls k a b h t = grind (arith, ints)

-- Above, a relation asks for the least alone; below, for the most alone.
module _ (low high low' high' k : ℤ) where
  abbrev Kept : Relation → Type 0
  Kept r = So (between r low high k) → So (between r low' high' k)

  between_above : low ≤ℤ low' → (r : Relation) → So (is_above r) → Kept r
  unfolding between
  between_above l = by_above Kept (rises k low low' l) (not_map (lt_z low k) (lt_z low' k) (falls k low low' l))

  between_below : high' ≤ℤ high → (r : Relation) → So (is_below r) → Kept r
  unfolding between
  between_below h = by_below Kept (falls k high' high h) (not_map (lt_z k high) (lt_z k high') (rises k high' high h))

-- = says ≥ and ≤, and is said by them
module _ (low high k : ℤ) where
  eq_ge : So (between Relation.Eq low high k) → So (between Relation.Ge low high k)
  unfolding between
  eq_ge t = (and_parts (not (lt_z low k)) (not (lt_z k low)) (and_parts _ (related lt_z Relation.Eq high k) t).0).0

  eq_le : So (between Relation.Eq low high k) → So (between Relation.Le low high k)
  unfolding between
  eq_le t = (and_parts (not (lt_z high k)) (not (lt_z k high)) (and_parts (related lt_z Relation.Eq low k) _ t).1).1

  module _ (m : low ≤ℤ high) where
    ge_le_eq : So (between Relation.Ge low high k) → So (between Relation.Le low high k) →
        So (between Relation.Eq low high k)
    unfolding between
    ge_le_eq p q =
        and_from _ _ (and_from _ _ p (not_map (lt_z k high) (lt_z k low) (rises k low high m) q))
        (and_from _ _ (not_map (lt_z low k) (lt_z high k) (falls k low high m) p) q)

    between_clash : (r : Relation) → So (between r low high k) → So (between (opposite r) low high k) → ⊥
    unfolding between
    between_clash =
        by_opposites (λ r. So (between r low high k))
        (λ t n. ⊎_elim (λ g. gt_le g (eq_le t)) (λ l. lt_ge l (eq_ge t)) (or_cases (lt_z k low) (lt_z high k) n))
        lt_ge gt_le
      where
        lt_ge : So (lt_z high k) → So (not (lt_z low k)) → ⊥
        lt_ge l g = not_of (lt_z low k) g (falls k low high m l)

        gt_le : So (lt_z k low) → So (not (lt_z k high)) → ⊥
        gt_le g l = not_of (lt_z k high) l (rises k low high m g)

-- Ends that come closer keep every relation.
module _ (low high low' high' k : ℤ) (l : low ≤ℤ low') (h : high' ≤ℤ high) (m : low' ≤ℤ high') where
  between_keeps : (r : Relation) → So (between r low high k) → So (between r low' high' k)
  unfolding between
  between_keeps Relation.Eq t =
      ge_le_eq low' high' k m (between_above low high low' high' k l Relation.Ge refl (eq_ge low high k t))
      (between_below low high low' high' k h Relation.Le refl (eq_le low high k t))
  between_keeps Relation.Ne t =
      or_map (lt_z k low) (lt_z high k) (lt_z k low') (lt_z high' k) (rises k low low' l) (falls k high' high h) t
  between_keeps Relation.Lt t = between_below low high low' high' k h Relation.Lt refl t
  between_keeps Relation.Le t = between_below low high low' high' k h Relation.Le refl t
  between_keeps Relation.Gt t = between_above low high low' high' k l Relation.Gt refl t
  between_keeps Relation.Ge t = between_above low high low' high' k l Relation.Ge refl t

-- no relation holds beside its opposite
pub weighed_clash : (weigh : Element → ℤ) (A : Answers) (es : List Element) (k : ℤ) (r : Relation) →
    So (weighed weigh r A es k) → So (weighed weigh (opposite r) A es k) → ⊥
weighed_clash weigh A es k = between_clash (least weigh A es) (most weigh A es) k (least_most weigh A es)

module _ (weigh : Element → ℤ) (A B : Answers) (es : List Element) where
  -- the sign of an element's weight
  abbrev AtLeast0 : Element → Type 0
  AtLeast0 e = pos 0 ≤ℤ weigh e

  abbrev AtMost0 : Element → Type 0
  AtMost0 e = weigh e ≤ℤ pos 0

  -- The least rises if only weights of at most 0 stop being true and only ones of at least 0 stop being false.
  least_rises : FromTrue A B es AtMost0 → FromFalse A B es AtLeast0 → least weigh A es ≤ℤ least weigh B es
  unfolding least
  least_rises p q =
      total_rises _ _ es (λ e i. least_share_lem (weigh e) (element_truth A e) (element_truth B e) (p e i) (q e i))

  -- the most falls with the two the other way round
  most_falls : FromTrue A B es AtLeast0 → FromFalse A B es AtMost0 → most weigh B es ≤ℤ most weigh A es
  unfolding most
  most_falls p q =
      total_rises _ _ es (λ e i. most_share_lem (weigh e) (element_truth A e) (element_truth B e) (p e i) (q e i))

  -- With more definite and fewer possible elements every relation is kept.
  pub weighed_keeps : Definite A B es → Possible A B es → (r : Relation) (k : ℤ) → So (weighed weigh r A es k) →
      So (weighed weigh r B es k)
  weighed_keeps d p r k =
      between_keeps (least weigh A es) (most weigh A es) (least weigh B es) (most weigh B es) k
      (least_rises (stays_true A B es AtMost0 d) (stays_false A B es AtLeast0 p))
      (most_falls (stays_true A B es AtLeast0 d) (stays_false A B es AtMost0 p)) (least_most weigh B es) r

  -- Where no weight is negative the least depends on definite elements alone and the most on possible ones alone.
  module _ (n : (e : Element) → In e es → AtLeast0 e) where
    pub weighed_grows : Definite A B es → (r : Relation) → So (is_above r) → (k : ℤ) → So (weighed weigh r A es k) →
        So (weighed weigh r B es k)
    weighed_grows d r s k =
        between_above (least weigh A es) (most weigh A es) (least weigh B es) (most weigh B es) k
        (least_rises (stays_true A B es AtMost0 d) (λ e i t f. n e i)) r s

    pub weighed_shrinks : Possible A B es → (r : Relation) → So (is_below r) → (k : ℤ) → So (weighed weigh r A es k) →
        So (weighed weigh r B es k)
    weighed_shrinks p r s k =
        between_below (least weigh A es) (most weigh A es) (least weigh B es) (most weigh B es) k
        (most_falls (λ e i t f. n e i) (stays_false A B es AtMost0 p)) r s
