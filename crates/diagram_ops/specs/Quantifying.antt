-- Variables that are quantified.
use Rattle.std.specs.Prelude.{◌≡◌, ℕ, Bool, false, IsTrue, nat_eq, List}
use Rattle.std.specs.List.{list_any}
use Rattle.diagram_store.specs.declared.diagram.Diagram.{Diagram}
use Rattle.diagram_store.specs.Diagrams.{meaning}

abbrev pub is_listed : List ℕ → ℕ → Bool
is_listed vars k = list_any (λ v. nat_eq v k) vars

-- the bits differ in the listed variables at most
abbrev pub AgreeOutside : List ℕ → (ℕ → Bool) → (ℕ → Bool) → Type 0
AgreeOutside vars bits other = (k : ℕ) → is_listed vars k ≡ false → other k ≡ bits k

-- the diagram is true on some bits that differ from these in the listed variables at most
abbrev pub IsTrueOnSome : Diagram → List ℕ → (ℕ → Bool) → Type 0
IsTrueOnSome d vars bits = (other : ℕ → Bool) × AgreeOutside vars bits other × IsTrue (meaning d other)
