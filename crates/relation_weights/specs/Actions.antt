-- What actions allow, as pairs of an old and a new state.
use Rattle.std.specs.Prelude.{◌≡◌, ℕ, ◌<◌, IsTrue, Bool, true, false, not, ◌&&◌, ◌||◌, nat_eq, List, [], ◌∷◌, map, Option, None, Some, if◌then◌else◌}
use Rattle.truth_tables.specs.Tables.{value2_of, value3_of}
use Rattle.truth_tables.specs.Formulas.{Formula, Constant, Variable, Opposite, Binary, Ternary, is_over}
use Rattle.diagram_ops.specs.Quantifying.{is_listed}
use Rattle.relation_laws.specs.States.{same_bit, each_below}
use Rattle.relation_laws.specs.Relations.{Pairs, identity}

-- the value of a formula in a state
abbrev pub value_in : (ℕ → Bool) → Formula ℕ → Bool
value_in x (Constant b) = b
value_in x (Variable k) = x k
value_in x (Opposite f) = not (value_in x f)
value_in x (Binary t f g) = value2_of t (value_in x f) (value_in x g)
value_in x (Ternary t f g h) = value3_of t (value_in x f) (value_in x g) (value_in x h)

-- the identity where the formula is true in the old state
abbrev pub assumed : ℕ → Formula ℕ → Pairs
assumed n f x y = value_in x f && identity n x y

-- what a target may become, by the old state: the value of a formula, and without one either bit
abbrev pub allows : Option (Formula ℕ) → (ℕ → Bool) → Bool → Bool
allows None x b = true
allows (Some f) x b = same_bit b (value_in x f)

-- what number k may become: as its target says, and without one its own bit
abbrev pub becomes : List (ℕ × Option (Formula ℕ)) → ℕ → (ℕ → Bool) → Bool → Bool
becomes [] k x b = same_bit (x k) b
becomes (t ∷ ts) k x b = if nat_eq t.0 k then allows t.1 x b else becomes ts k x b

-- All values are taken in the old state, and numbers that are no targets stay.
abbrev pub assigned : ℕ → List (ℕ × Option (Formula ℕ)) → Pairs
assigned n targets x y = each_below n (λ k. becomes targets k x (y k))

-- each number below n keeps its bit, but for those that are listed, which may have either
abbrev pub frame_pairs : ℕ → List ℕ → Pairs
frame_pairs n freed x y = each_below n (λ k. is_listed freed k || same_bit (x k) (y k))

-- a target's value is over n variables
abbrev pub IsValueOver : ℕ → Option (Formula ℕ) → Type 0
IsValueOver n None = Unit {0}
IsValueOver n (Some f) = IsTrue (is_over n f)

abbrev pub numbers : List (ℕ × Option (Formula ℕ)) → List ℕ
numbers targets = map (λ t. t.0) targets

-- targets below n, distinct, with values over n variables
abbrev pub AreTargets : ℕ → List (ℕ × Option (Formula ℕ)) → Type 0
AreTargets n [] = Unit {0}
AreTargets n (t ∷ ts) = (t.0 < n) × IsValueOver n t.1 × (is_listed (numbers ts) t.0 ≡ false) × AreTargets n ts
