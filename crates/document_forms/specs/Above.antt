-- What the lines above say: the weights, the names that are declared, how many rules and queries.
use Rattle.std.specs.Prelude.{ℕ, ◌+◌, Bool, true, false, if◌then◌else◌, List, [], ◌∷◌, ◌++◌, flat_map, count_by}
use Rattle.wpds_base.specs.Limits.{most_controls, most_symbols, most_facts, most_copied, most_related}
use Rattle.truth_tables.specs.Grammar.{number_of}
use Rattle.document_forms.specs.declared.weight.WeightsLine.{WeightsLine}
use Rattle.document_forms.specs.declared.weight.WeightsLine.TheVariants.{Reach, Cost, GenKill, Copy, Relation}
use Rattle.document_forms.specs.Names.{once}
use Rattle.document_forms.specs.Forms.{WeightsForm, ReachWeights, CostWeights, GenKillWeights, CopyWeights, RelationWeights, Class, Controls, Symbols, Facts, Variables, LineForm, OfWeights, OfNames, OfRule, OfQuery}

-- ---- weights

abbrev pub weights_line : WeightsForm → WeightsLine
weights_line ReachWeights = Reach
weights_line (CostWeights n) = Cost (number_of n)
weights_line GenKillWeights = GenKill
weights_line CopyWeights = Copy
weights_line RelationWeights = Relation

-- what the weights line declares, which is the first of the lines
abbrev pub weights_on : List LineForm → WeightsLine
weights_on (OfWeights w ∷ ls) = weights_line w
weights_on _ = Reach

-- the class of the names that weights have
abbrev pub item_class : WeightsLine → Class
item_class GenKill = Facts
item_class _ = Variables

-- lines of the class may stand in a document with these weights
abbrev pub has_class : WeightsLine → Class → Bool
has_class weights Controls = true
has_class weights Symbols = true
has_class GenKill Facts = true
has_class Copy Variables = true
has_class Relation Variables = true
has_class _ _ = false

abbrev pub most_names : WeightsLine → Class → ℕ
most_names weights Controls = most_controls
most_names weights Symbols = most_symbols
most_names weights Facts = most_facts
most_names Copy Variables = most_copied
most_names weights Variables = most_related

-- ---- names

abbrev pub same_class : Class → Class → Bool
same_class Controls Controls = true
same_class Symbols Symbols = true
same_class Facts Facts = true
same_class Variables Variables = true
same_class _ _ = false

abbrev pub names_on : Class → LineForm → List (List ℕ)
names_on c (OfNames d xs) = if same_class c d then xs else []
names_on c _ = []

-- the names of a class that lines declare, each once, in order
abbrev pub declared : Class → List LineForm → List (List ℕ)
declared c ls = once (flat_map (names_on c) ls)

-- ---- all

abbrev pub is_rule : LineForm → Bool
is_rule (OfRule r) = true
is_rule _ = false

abbrev pub is_query : LineForm → Bool
is_query (OfQuery p q) = true
is_query _ = false

pub record Above : Type 0 where
  pub weights : WeightsLine
  pub controls : List (List ℕ)
  pub symbols : List (List ℕ)
  -- facts or variables
  pub items : List (List ℕ)
  -- how many
  pub rules : ℕ
  pub queries : ℕ

abbrev pub above_of : List LineForm → Above
above_of ls = record {
  weights = weights_on ls;
  controls = declared Controls ls;
  symbols = declared Symbols ls;
  items = declared (item_class (weights_on ls)) ls;
  rules = count_by is_rule ls;
  queries = count_by is_query ls;
}

-- the names of a class, where the weights have it
abbrev pub class_names : Above → Class → List (List ℕ)
class_names a Controls = a.controls
class_names a Symbols = a.symbols
class_names a _ = a.items

-- what is said with an accepted line more
abbrev pub with_line : Above → LineForm → Above
with_line a (OfWeights w) = a
with_line a (OfNames Controls xs) = record a { controls = a.controls ++ xs }
with_line a (OfNames Symbols xs) = record a { symbols = a.symbols ++ xs }
with_line a (OfNames _ xs) = record a { items = a.items ++ xs }
with_line a (OfRule r) = record a { rules = a.rules + 1 }
with_line a (OfQuery p q) = record a { queries = a.queries + 1 }
