-- The pairs of a diagram.
use Rattle.std.specs.Prelude.{◌≡◌, ℕ, Bool}
use Rattle.diagram_store.specs.declared.diagram.Diagram.{Diagram}
use Rattle.diagram_ops.specs.Relations.{relates}
use Rattle.relation_laws.specs.Relations.{Pairs}

-- the diagram leads from an old state to a new one where the pairs do
abbrev pub HasPairs : Diagram → Pairs → Type 0
HasPairs d a = (x y : ℕ → Bool) → relates d x y ≡ a x y
