-- What a diagram means as a whole.
use Rattle.std.specs.Prelude.{◌≡◌, ℕ, ◌<◌, Bool, List}
use Rattle.diagram_store.specs.declared.diagram.Diagram.{Diagram}
use Rattle.diagram_store.specs.Nodes.{HasVariablesBelow}
use Rattle.diagram_store.specs.Meaning.{value_at, bits_of}

-- the value of a diagram on these bits
abbrev pub meaning : Diagram → (ℕ → Bool) → Bool
meaning d bits = value_at d.nodes d.root bits

-- each variable of the diagram is below a limit
abbrev pub IsOver : ℕ → Diagram → Type 0
IsOver limit d = HasVariablesBelow limit d.nodes

-- the roots are equal, and the nodes are
abbrev pub HaveSameParts : Diagram → Diagram → Type 0
HaveSameParts a b = (a.root ≡ b.root) × (a.nodes ≡ b.nodes)

-- equal values on all bits
abbrev pub MeanTheSame : Diagram → Diagram → Type 0
MeanTheSame a b = (bits : ℕ → Bool) → meaning a bits ≡ meaning b bits

-- equal values on all lists of bits, each false past its end
abbrev pub MeanTheSameOnLists : Diagram → Diagram → Type 0
MeanTheSameOnLists a b = (list : List Bool) → meaning a (bits_of list) ≡ meaning b (bits_of list)

-- no bit from a limit on makes a difference
abbrev pub ReadsBelow : ℕ → Diagram → Type 0
ReadsBelow limit d = (bits other : ℕ → Bool) → ((k : ℕ) → k < limit → bits k ≡ other k) → meaning d bits ≡ meaning d other
