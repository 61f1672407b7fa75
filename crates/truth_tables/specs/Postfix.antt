-- Expressions as lists of parts, each behind its operands.
use Rattle.std.specs.Prelude.{ℕ, List, [], ◌∷◌, Option, Some, None}
use Rattle.truth_tables.specs.Formulas.{Formula, Constant, Variable, Opposite, Binary, Ternary}
use Rattle.truth_tables.specs.declared.part.Part.{Part}
use Rattle.truth_tables.specs.declared.part.Part.TheVariants.{Const, Var, Not, Two, Three}

-- A part behind these formulas, the newest first, takes its operands from them. Where they are fewer, nothing is left.
abbrev pub taken : Part → List (Formula ℕ) → List (Formula ℕ)
taken (Const b) fs = Constant b ∷ fs
taken (Var k) fs = Variable k ∷ fs
taken Not (f ∷ fs) = Opposite f ∷ fs
taken (Two t) (g ∷ f ∷ fs) = Binary t f g ∷ fs
taken (Three t) (h ∷ g ∷ f ∷ fs) = Ternary t f g h ∷ fs
taken _ _ = []

abbrev pub built_onto : List (Formula ℕ) → List Part → List (Formula ℕ)
built_onto fs [] = fs
built_onto fs (p ∷ ps) = built_onto (taken p fs) ps

-- the formulas that parts build, the newest first
abbrev pub built : List Part → List (Formula ℕ)
built ps = built_onto [] ps

abbrev pub first : List (Formula ℕ) → Option (Formula ℕ)
first [] = None
first (f ∷ fs) = Some f

-- a part that takes no operands
abbrev pub leaf : Part → Option Part
leaf (Const b) = Some (Const b)
leaf (Var k) = Some (Var k)
leaf _ = None

-- the newest formula as a part, if it is a constant or a variable
abbrev pub newest_leaf : List (Formula ℕ) → Option Part
newest_leaf (Constant b ∷ fs) = Some (Const b)
newest_leaf (Variable k ∷ fs) = Some (Var k)
newest_leaf _ = None

-- with each variable by another number
abbrev pub part_renamed : (ℕ → ℕ) → Part → Part
part_renamed r (Var k) = Var (r k)
part_renamed r p = p
