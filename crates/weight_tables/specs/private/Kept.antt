-- What kept weights stand for.
use Rattle.std.specs.Prelude.{◌≡◌, List, map, Option, None, Some, IfSome}
use Rattle.std.specs.List.{AllByRecursion}
use Rattle.pushdown_rules.specs.Pushdown.{Pushdown}
use Rattle.weight_tables.specs.declared.layers.Layers.{Layers}
use Rattle.weight_tables.specs.Entries.{TableEntry}
use Rattle.weight_tables.specs.Tables.{TablesValue}

-- what a kept weight stands for, and nothing where there is none
abbrev pub worth_or : {W V : Type 0} → V → (W → V) → Option W → V
worth_or nothing worth o = elim o [ None ↦ nothing | Some w ↦ worth w ]

module _ {W V : Type 0} (worth : W → V) where
  -- an entry by what its weight stands for
  abbrev pub valued_entry : TableEntry W → TableEntry V
  valued_entry e = record { place = e.place; weight = worth e.weight; waits = e.waits }

  abbrev pub valued : List (TableEntry W) → List (TableEntry V)
  valued es = map valued_entry es

  abbrev pub valued_layers : Layers W → Layers V
  valued_layers ls = record { base = valued ls.base; target = valued ls.target; walk = valued ls.walk }

-- the tables of a system, by the weights of their layers
abbrev pub tables_of : {S V Map : Type 0} → Pushdown S V Map → V → Layers V → TablesValue S V Map
tables_of p hand ls = record { system = p; hand = hand; base = ls.base; target = ls.target; walk = ls.walk }

-- each weight is known
abbrev pub AllKnown : {W : Type 0} → (W → Type 0) → List (TableEntry W) → Type 0
AllKnown Known es = AllByRecursion (λ e. Known e.weight) es

-- each weight of each layer is known
pub record AreKnown {W : Type 0} (Known : W → Type 0) (ls : Layers W) : Type 0 where
  pub base : AllKnown Known ls.base
  pub target : AllKnown Known ls.target
  pub walk : AllKnown Known ls.walk

-- The weights in hand and in the layers are known to one that makes weights of this system.
pub record AreKept {M W P : Type 0} (pushdown : M → P) (Knows : M → W → Type 0) (p : P) (m : M) (hand : Option W) (ls : Layers W) : Type 0 where
  pub system : pushdown m ≡ p
  pub held : IfSome hand (Knows m)
  pub layers : AreKnown (Knows m) ls
