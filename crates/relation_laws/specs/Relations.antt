-- Relations between states as canonical diagrams: union, composition, and what return maps do.
use Rattle.std.specs.Prelude.{◌≡◌, ℕ, ◌*◌, Bool, false, ◌&&◌, ◌||◌}
use Rattle.diagram_store.specs.Meaning.{value_at}
use Rattle.diagram_ops.specs.Relations.{of_states}
use Rattle.relation_laws.specs.Building.{Parts, diagram_of}
use Rattle.relation_laws.specs.States.{AgreeBelow, old_state, new_state, same_bit, each_below, some_state}

-- a test on pairs of states
abbrev pub Pairs : Type 0
Pairs = (ℕ → Bool) → (ℕ → Bool) → Bool

-- pairs that read the first n bits alone
abbrev pub ReadsPairs : ℕ → Pairs → Type 0
ReadsPairs n a = (x y x' y' : ℕ → Bool) → AgreeBelow n x x' → AgreeBelow n y y' → a x y ≡ a x' y'

-- whether a diagram leads from the old state to the new one
abbrev pub leads : Parts → Pairs
leads w old new = value_at w.nodes w.root (of_states old new)

-- the canonical diagram of the pairs of n bits each
unfoldable pub relation_of : ℕ → Pairs → Parts
relation_of n pairs = diagram_of (2 * n) (λ bits. pairs (old_state bits) (new_state bits))

abbrev pub no_pairs : Pairs
no_pairs old new = false

abbrev pub identity : ℕ → Pairs
identity n old new = each_below n (λ k. same_bit (old k) (new k))

abbrev pub union : Pairs → Pairs → Pairs
union a b old new = a old new || b old new

-- a first, then b
abbrev pub composition : ℕ → Pairs → Pairs → Pairs
composition n a b old new = some_state n (λ middle. a old middle && b middle new)

-- The pairs (x, y) for which some z has (x, z) among the pairs, and each bit v of y is `source v x z`.
abbrev pub returned : ℕ → (ℕ → (ℕ → Bool) → (ℕ → Bool) → Bool) → Pairs → Pairs
returned n source pairs old new = some_state n (λ inner. pairs old inner && each_below n (λ v. same_bit (new v) (source v old inner)))
