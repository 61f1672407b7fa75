-- A diagram as a relation between states, each a bit for each number: variable 2 i has the old value of i,
-- and 2 i + 1 the new one.
use Rattle.std.specs.Prelude.{ℕ, ◌/◌, ◌%◌, Bool, IsTrue, nat_eq, if◌then◌else◌}
use Rattle.diagram_store.specs.declared.diagram.Diagram.{Diagram}
use Rattle.diagram_store.specs.Diagrams.{meaning}

abbrev pub of_states : (ℕ → Bool) → (ℕ → Bool) → ℕ → Bool
of_states old new v = if nat_eq (v % 2) 0 then old (v / 2) else new (v / 2)

-- whether the relation leads from the old state to the new one
abbrev pub relates : Diagram → (ℕ → Bool) → (ℕ → Bool) → Bool
relates d old new = meaning d (of_states old new)

-- the first relation leads from the old state to some state in the middle, and the second from there to
-- the new one
abbrev pub RelatesThrough : Diagram → Diagram → (ℕ → Bool) → (ℕ → Bool) → Type 0
RelatesThrough a b old new = (middle : ℕ → Bool) × IsTrue (relates a old middle) × IsTrue (relates b middle new)
