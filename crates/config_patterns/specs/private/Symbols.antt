-- The symbols that a set stands for.
use Rattle.std.specs.Prelude.{ℕ, List}
use Rattle.std.specs.List.{range_with_len}
use Rattle.config_patterns.specs.declared.symbol_set.Symbols.{Symbols}
use Rattle.config_patterns.specs.declared.symbol_set.Symbols.TheVariants.{All, Listed}

-- all below the count, or those listed
abbrev pub symbols_of : Symbols → List ℕ
symbols_of (All count) = range_with_len 0 count
symbols_of (Listed v) = v.items
