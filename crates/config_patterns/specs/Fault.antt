-- Which items are refused.
use Rattle.std.specs.Prelude.{ℕ, Bool, nat_le, nat_lt, List, [], ◌∷◌, length, Option, None, Some, Result, Ok, Err, ◌<◌, ◌≤◌, All}
use Rattle.std.specs.List.{list_any}
use Rattle.wpds_base.specs.Faults.{first_fault}
use Rattle.wpds_base.specs.Limits.{most_items, most_edges}
use Rattle.config_patterns.specs.declared.pattern.PatternFault.{PatternFault}
use Rattle.config_patterns.specs.declared.pattern.PatternFault.TheVariants.{NoSymbol, TooManyItems, TooManyEdges, Memory}
use Rattle.config_patterns.specs.Membership.{PatternValue, with_item}
use Rattle.config_patterns.specs.Edges.{edges_of}

-- The refusals of an item, in the order in which they count.
abbrev pub item_fault : PatternValue → List ℕ → Bool → Option PatternFault
item_fault p set star = first_fault (
    (list_any (λ g. nat_le p.symbols g) set, NoSymbol)
    ∷ (nat_le most_items (length p.items), TooManyItems)
    ∷ (nat_lt most_edges (length (edges_of (with_item p set star).items)), TooManyEdges)
    ∷ [])

-- The refusal that an answer is, if it is one. Out of memory is none.
abbrev pub refusal_of : {X : Type 0} → Result X PatternFault → Option PatternFault
refusal_of (Ok x) = None
refusal_of (Err Memory) = None
refusal_of (Err NoSymbol) = Some NoSymbol
refusal_of (Err TooManyItems) = Some TooManyItems
refusal_of (Err TooManyEdges) = Some TooManyEdges

-- what holds of an item that is not refused
pub record IsAccepted (p : PatternValue) (symbols_of : List ℕ) (starred : Bool) : Type 0 where
  pub below : All (λ g. g < p.symbols) symbols_of
  pub few_items : length p.items < most_items
  pub few_edges : length (edges_of (with_item p symbols_of starred).items) ≤ most_edges
