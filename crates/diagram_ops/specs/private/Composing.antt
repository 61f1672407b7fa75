-- What the walk through two relations keeps, whose nodes stay where they are. For each number i the old value
-- of the first stands at place 4 i, the value in the middle at 4 i + 1, and the new value of the second at
-- 4 i + 2. So what stays, variable v of the result, has place 2 v.
use Rattle.std.specs.Prelude.{◌≡◌, ◌↔◌, ℕ, ◌+◌, ◌*◌, ◌/◌, ◌%◌, Bool, ◌||◌, IsTrue, nat_eq, List, Option, Some, if◌then◌else◌}
use Rattle.diagram_store.specs.declared.branch.Branch.{Branch}
use Rattle.diagram_store.specs.Nodes.{IsReduced}
use Rattle.diagram_store.specs.Meaning.{value_at}
use Rattle.diagram_ops.specs.declared.composing.Operand.{Operand}
use Rattle.diagram_ops.specs.declared.composing.Operand.TheVariants.{First, Second}
use Rattle.diagram_ops.specs.private.Scratch.{Keeps, Stands, IsPast}
use Rattle.diagram_ops.specs.private.Applying.{AreApplied}

-- the place of a variable of a relation
abbrev pub position : Operand → ℕ → ℕ
position First v = 4 * (v / 2) + v % 2
position Second v = 4 * (v / 2) + v % 2 + 1

-- the value of a relation where each place has a bit
abbrev pub placed_value : Operand → List Branch → ℕ → (ℕ → Bool) → Bool
placed_value operand nodes r all = value_at nodes r (λ v. all (position operand v))

-- both relations are true on some values in the middle
abbrev pub IsTrueBetween : List Branch → List Branch → ℕ → ℕ → (ℕ → Bool) → Type 0
IsTrueBetween xs ys x y bits = (all : ℕ → Bool) × ((v : ℕ) → all (2 * v) ≡ bits v) × IsTrue (placed_value First xs x all) × IsTrue (placed_value Second ys y all)

abbrev pub IsComposed : List Branch → List Branch → ℕ → ℕ → (ℕ → Bool) → Bool → Type 0
IsComposed xs ys x y bits b = IsTrue b ↔ IsTrueBetween xs ys x y bits

abbrev pub ComesBeforeBoth : List Branch → List Branch → ℕ → ℕ → ℕ → Type 0
ComesBeforeBoth xs ys x y v = IsPast (position First) xs (2 * v) x × IsPast (position Second) ys (2 * v) y

abbrev pub IsComposition : List Branch → List Branch → List Branch → ℕ → ℕ → ℕ → Type 0
IsComposition xs ys nodes x y r = Stands nodes r (IsComposed xs ys x y) (ComesBeforeBoth xs ys x y)

-- each result that a table knows is one
abbrev pub AreComposed : List Branch → List Branch → List Branch → (ℕ → ℕ → ℕ → Option ℕ) → Type 0
AreComposed xs ys nodes results = (x y r : ℕ) → results x y 0 ≡ Some r → IsComposition xs ys nodes x y r

pub record Composes (xs ys old new : List Branch) (results joins : ℕ → ℕ → ℕ → Option ℕ) (x y r : ℕ) : Type 0 where
  pub reduced : IsReduced new
  pub keeps : Keeps old new
  pub known : AreComposed xs ys new results
  pub applied : AreApplied 252 new joins
  pub composed : IsComposition xs ys new x y r

-- the disjunction at the place of a value in the middle, else the choice by the variable that stays
abbrev pub joined : ℕ → (ℕ → Bool) → Bool → Bool → Bool
joined p bits low high = if nat_eq (p % 2) 1 then low || high else (if bits (p / 2) then high else low)

abbrev pub IsJoined : List Branch → ℕ → ℕ → ℕ → (ℕ → Bool) → Bool → Type 0
IsJoined nodes p low high bits b = b ≡ joined p bits (value_at nodes low bits) (value_at nodes high bits)
