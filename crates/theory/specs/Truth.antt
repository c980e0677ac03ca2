-- The three answers, and what it means that a later answer keeps an earlier one. Assumes nothing.
use Rattle.std.specs.Prelude.{◌≡◌, Bool, [], ◌∷◌, ℕ, get_or}
pub use Rattle.theory.specs.declared.answer.Truth.{Truth}
pub use Rattle.theory.specs.declared.answer.Truth.TheVariants.{Undefined, True, False}

abbrev pub flip : Truth → Truth
flip Undefined = Undefined
flip True = False
flip False = True

abbrev pub is_true : Truth → Bool
is_true Undefined = Bool.false
is_true True = Bool.true
is_true False = Bool.false

abbrev pub is_false : Truth → Bool
is_false Undefined = Bool.false
is_false True = Bool.false
is_false False = Bool.true

abbrev pub is_undefined : Truth → Bool
is_undefined Undefined = Bool.true
is_undefined True = Bool.false
is_undefined False = Bool.false

-- 0 undefined (or not given), 1 true, 2 false
abbrev pub truth_of : ℕ → Truth
truth_of code = get_or (Undefined ∷ True ∷ False ∷ []) code Undefined

abbrev pub code_of : Truth → ℕ
code_of Undefined = 0
code_of True = 1
code_of False = 2

infix 40 ◌≼◌
-- `y` keeps what `x` decides
abbrev pub ◌≼◌ : Truth → Truth → Type 0
x ≼ y = (x ≡ True → y ≡ True) × (x ≡ False → y ≡ False)
