-- Which configurations a pattern has.
use Rattle.std.specs.Prelude.{ℕ, Bool, true, false, ◌||◌, ◌&&◌, nat_eq, List, [], ◌∷◌, ◌++◌, if◌then◌else◌}
use Rattle.std.specs.List.{list_any}
use Rattle.pushdown_rules.specs.Configuration.{Configuration}
use Rattle.config_patterns.specs.declared.item.Item.{Item}

-- A control, and the items that a stack is to match. Their symbols are below a count.
pub record PatternValue : Type 0 where
  pub control : ℕ
  pub symbols : ℕ
  pub items : List Item

-- the pattern with one item more
abbrev pub with_item : PatternValue → List ℕ → Bool → PatternValue
with_item p set star = record p { items = p.items ++ record { set = set; star = star } ∷ [] }

-- the symbol is in the set
abbrev pub has_symbol : ℕ → List ℕ → Bool
has_symbol g set = list_any (λ h. nat_eq h g) set

-- one symbol of the set is taken, and the rest matches what is left
abbrev pub takes_one : List ℕ → (List ℕ → Bool) → List ℕ → Bool
takes_one set rest [] = false
takes_one set rest (g ∷ stack) = has_symbol g set && rest stack

-- the item is skipped, or takes one symbol of its set and stays
abbrev pub takes_any : List ℕ → (List ℕ → Bool) → List ℕ → Bool
takes_any set rest [] = rest []
takes_any set rest (g ∷ stack) = rest (g ∷ stack) || (has_symbol g set && takes_any set rest stack)

-- an item and what follows it match the stack
abbrev pub item_matches : Item → (List ℕ → Bool) → List ℕ → Bool
item_matches x rest stack = if x.star then takes_any x.set rest stack else takes_one x.set rest stack

abbrev pub is_bare : List ℕ → Bool
is_bare [] = true
is_bare (g ∷ stack) = false

-- the items match the stack; no items match the empty stack alone
abbrev pub items_match : List Item → List ℕ → Bool
items_match [] stack = is_bare stack
items_match (x ∷ xs) stack = item_matches x (items_match xs) stack

-- the configuration is a member of the pattern
abbrev pub has_member : PatternValue → Configuration → Bool
has_member p c = nat_eq c.control p.control && items_match p.items c.stack
