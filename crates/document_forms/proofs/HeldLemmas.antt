-- What an expression that is held in place says.
use Rattle.std.proofs.Common.{◌≡◌, ℕ, Bool, false, Some, None, List, [], ◌∷◌}
use Rattle.std.specs.Prelude.{unwrap_or}
use Rattle.truth_tables.specs.Formulas.{Formula, Constant, Variable, Opposite, Binary, Ternary}
use Rattle.truth_tables.specs.Postfix.{first, newest_leaf}
use Rattle.truth_tables.specs.declared.part.Part.TheVariants.{Const, Var}

pub constant_held : (fs : List (Formula ℕ)) (b : Bool) → Some (Const b) ≡ newest_leaf fs → Constant b ≡ unwrap_or (first fs) (Constant false)
constant_held [] b h = let f : Some (Const b) ≡ None = h in cc
constant_held (Constant c ∷ fs) b h = let f : Some (Const b) ≡ Some (Const c) = h in cc
constant_held (Variable k ∷ fs) b h = let f : Some (Const b) ≡ Some (Var k) = h in cc
constant_held (Opposite e ∷ fs) b h = let f : Some (Const b) ≡ None = h in cc
constant_held (Binary t e g ∷ fs) b h = let f : Some (Const b) ≡ None = h in cc
constant_held (Ternary t e g i ∷ fs) b h = let f : Some (Const b) ≡ None = h in cc

pub variable_held : (fs : List (Formula ℕ)) (k : ℕ) → Some (Var k) ≡ newest_leaf fs → Variable k ≡ unwrap_or (first fs) (Constant false)
variable_held [] k h = let f : Some (Var k) ≡ None = h in cc
variable_held (Constant c ∷ fs) k h = let f : Some (Var k) ≡ Some (Const c) = h in cc
variable_held (Variable j ∷ fs) k h = let f : Some (Var k) ≡ Some (Var j) = h in cc
variable_held (Opposite e ∷ fs) k h = let f : Some (Var k) ≡ None = h in cc
variable_held (Binary t e g ∷ fs) k h = let f : Some (Var k) ≡ None = h in cc
variable_held (Ternary t e g i ∷ fs) k h = let f : Some (Var k) ≡ None = h in cc
