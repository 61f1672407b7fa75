-- Patterns of stacks over so many symbols, with one control.
use Rattle.std.specs.Prelude.{ℕ, true, false, [], ◌∷◌}
use Rattle.std.specs.List.{range_with_len}
use Rattle.config_patterns.specs.Membership.{PatternValue}

-- one symbol alone
abbrev pub alone : ℕ → ℕ → PatternValue
alone symbols g = record { control = 0; symbols = symbols; items = record { set = g ∷ []; star = false } ∷ [] }

-- one symbol on any others
abbrev pub on_top : ℕ → ℕ → PatternValue
on_top symbols g = record {
  control = 0;
  symbols = symbols;
  items = record { set = g ∷ []; star = false } ∷ record { set = range_with_len 0 symbols; star = true } ∷ [];
}
