-- A number of a cell, or none, in one number.
use Rattle.std.proofs.Common.{◌≡◌, ℕ, Bool, true, false, refl, sym}
use Rattle.std.specs.Prelude.{nat_eq, Option, None, Some, if◌then◌else◌}
use Rattle.std.proofs.lemmas.Bool.{eqb-true}

-- the cells that can be numbered
abbrev pub most_cells : ℕ
most_cells = 4294967295

-- which cell a number leads to
abbrev pub linked : ℕ → Option ℕ
linked n = if nat_eq n most_cells then None else Some n

-- the number that leads there
abbrev pub unlinked : Option ℕ → ℕ
unlinked None = most_cells
unlinked (Some n) = n

either : (b : Bool) (n : ℕ) → (b ≡ true → n ≡ most_cells) → unlinked (if b then None else Some n) ≡ n
either true n e = sym (e refl)
either false n e = refl

pub unlinked_again : (n : ℕ) → unlinked (linked n) ≡ n
unlinked_again n = either (nat_eq n most_cells) n (eqb-true n most_cells)
