-- Answers to an operator at once, from which references are constants and which are equal.
use Rattle.std.specs.Prelude.{◌≡◌, ℕ, ◌<◌, Bool, true, false, ◌⊎◌}
use Rattle.truth_tables.specs.Tables.{value3_of}

-- a bit for each reference, where 0 is false and 1 is true
abbrev pub IsValuation : (ℕ → Bool) → Type 0
IsValuation bit = (bit 0 ≡ false) × (bit 1 ≡ true)

-- a bit that a reference has in some valuation
abbrev pub CanBe : ℕ → Bool → Type 0
CanBe r b = (r ≡ 0 → b ≡ false) × (r ≡ 1 → b ≡ true)

-- the bits that three references have in some valuation
pub record IsPossibleRow (x y z : ℕ) (a b c : Bool) : Type 0 where
  pub bit : ℕ → Bool
  pub valuation : IsValuation bit
  pub first : bit x ≡ a
  pub second : bit y ≡ b
  pub third : bit z ≡ c

-- a constant or an operand, whose value is the table's whatever the references mean
pub record IsShortCut (table x y z r : ℕ) : Type 0 where
  pub among : (r < 2) ⊎ ((r ≡ x) ⊎ ((r ≡ y) ⊎ (r ≡ z)))
  pub value : (bit : ℕ → Bool) → IsValuation bit → bit r ≡ value3_of table (bit x) (bit y) (bit z)
