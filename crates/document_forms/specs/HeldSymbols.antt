-- Which symbols are held.
use Rattle.std.specs.Prelude.{ℕ, List, []}
use Rattle.document_forms.specs.declared.symbols.Held.{Held}
use Rattle.document_forms.specs.declared.symbols.Held.TheVariants.{Zero, One, Two, More}

abbrev pub held_symbols : Held → List ℕ
held_symbols Zero = []
held_symbols (One symbols) = symbols
held_symbols (Two symbols) = symbols
held_symbols (More symbols) = symbols.value.items
