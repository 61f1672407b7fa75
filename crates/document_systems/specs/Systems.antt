-- The pushdown system and the patterns that a document means.
use Rattle.std.specs.Prelude.{ℕ, false, All, IfSome, List, [], ◌∷◌, length, map, option_map}
use Rattle.std.specs.List.{range_with_len}
use Rattle.document_forms.specs.Documents.{Document}
use Rattle.document_forms.specs.declared.document.RuleLine.{RuleLine}
use Rattle.document_forms.specs.declared.pattern.SetText.{SetText}
use Rattle.document_forms.specs.declared.pattern.SetText.TheVariants.{All as AllSymbols, Listed}
use Rattle.document_forms.specs.declared.pattern.ItemText.{ItemText}
use Rattle.document_forms.specs.declared.pattern.PatternText.{PatternText}
use Rattle.config_patterns.specs.declared.item.Item.{Item}
use Rattle.config_patterns.specs.Membership.{PatternValue}
use Rattle.pushdown_rules.specs.Configuration.{Configuration}
use Rattle.pushdown_rules.specs.Pushdown.{Pushdown, map_of}
use Rattle.pushdown_rules.specs.declared.rule.Rule.{Rule}
use Rattle.document_systems.specs.Kinds.{Kind}

module _ {S W Map : Type 0} (kind : Kind S W Map) (semiring : S) where
  abbrev pub rule_of : RuleLine → Rule S W Map
  rule_of r = record {
    control = r.control;
    symbol = r.symbol;
    to = r.to;
    right = r.right;
    weight = kind.weight semiring r.weight;
    map = map_of (kind.operations semiring) r.right (option_map (kind.map semiring) r.map);
  }

  -- the system of a document, over a semiring of this kind
  abbrev pub system_of : Document → Pushdown S W Map
  system_of d = record {
    semiring = semiring;
    controls = length d.controls;
    symbols = length d.symbols;
    rules = map rule_of d.rules;
  }

  -- the weight and the return map of a rule are such as this semiring takes
  abbrev pub IsTaken : RuleLine → Type 0
  IsTaken r = kind.takes semiring r.weight × IfSome r.map (kind.takes_map semiring)

  abbrev pub AreTaken : Document → Type 0
  AreTaken d = All IsTaken d.rules

-- ---- the pattern that a side of a query is, over so many symbols

-- `.` takes all of them
abbrev pub set_of : ℕ → SetText → List ℕ
set_of symbols AllSymbols = range_with_len 0 symbols
set_of symbols (Listed gs) = gs

abbrev pub item_of : ℕ → ItemText → Item
item_of symbols i = record { set = set_of symbols i.set; star = i.star }

abbrev pub pattern_of : ℕ → PatternText → PatternValue
pattern_of symbols p = record {
  control = p.control;
  symbols = symbols;
  items = map (item_of symbols) p.items;
}

-- the pattern that a side of a query of a document is
abbrev pub side_of : Document → PatternText → PatternValue
side_of d p = pattern_of (length d.symbols) p

-- ---- a configuration as a side of a query

abbrev pub one_symbol : ℕ → ItemText
one_symbol g = record { set = Listed (g ∷ []); star = false }

abbrev pub as_pattern : Configuration → PatternText
as_pattern c = record { control = c.control; items = map one_symbol c.stack }
