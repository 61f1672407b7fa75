-- What every document keeps to: its numbers are those of its names, its counts are within the
-- limits, and what may stand once stands once.
use Rattle.std.specs.Prelude.{◌≡◌, ◌≢◌, IsTrue, IsFalse, ℕ, ◌+◌, ◌<◌, ◌≤◌, ◌^◌, max, nat_le, ◌⊎◌, Bool, true, ◌&&◌, ℤ, pos, negsuc, IfSome, List, [], ◌++◌, length, map, All, Option, Some, None}
use Rattle.wpds_base.specs.Limits.{longest_name, most_controls, most_symbols, most_rules, most_queries, most_cost, most_pushed, most_items, most_edges, most_depth, most_table3}
use Rattle.wpds_base.specs.Lists.{IsOnce}
use Rattle.wpds_port.specs.Tokens.{is_name_text}
use Rattle.truth_tables.specs.Formulas.{Formula, Constant, Variable, Opposite, Binary, Ternary, is_over}
use Rattle.document_forms.specs.declared.weight.WeightsLine.{WeightsLine}
use Rattle.document_forms.specs.declared.weight.WeightsLine.TheVariants.{Cost, GenKill, Copy, Relation}
use Rattle.document_forms.specs.declared.weight.FormText.{FormText}
use Rattle.document_forms.specs.declared.weight.FormText.TheVariants.{Varying, Meet}
use Rattle.document_forms.specs.declared.weight.ValueText.{ValueText}
use Rattle.document_forms.specs.declared.weight.ValueText.TheVariants.{Free, Is}
use Rattle.document_forms.specs.declared.weight.Action.{Action}
use Rattle.document_forms.specs.declared.weight.Action.TheVariants.{Assume, Choose, Assign}
use Rattle.document_forms.specs.declared.weight.WeightText.{WeightText}
use Rattle.document_forms.specs.declared.weight.WeightText.TheVariants.{One, Zero, Number, Facts, Forms, Actions}
use Rattle.document_forms.specs.declared.pattern.SetText.{SetText}
use Rattle.document_forms.specs.declared.pattern.SetText.TheVariants.{All as AllSymbols, Listed}
use Rattle.document_forms.specs.declared.pattern.ItemText.{ItemText}
use Rattle.document_forms.specs.declared.pattern.PatternText.{PatternText}
use Rattle.document_forms.specs.declared.document.MapText.{MapText}
use Rattle.document_forms.specs.declared.document.RuleLine.{RuleLine}
use Rattle.document_forms.specs.declared.document.QueryLine.{QueryLine}
use Rattle.document_forms.specs.Names.{is_reserved}
use Rattle.document_forms.specs.Above.{item_class, has_class, most_names}
use Rattle.document_forms.specs.Kinds.{allows_restore, allows_moves, edges}
use Rattle.document_forms.specs.Documents.{Document}

abbrev pub AreBelow : ℕ → List ℕ → Type 0
AreBelow n ks = All (λ k. k < n) ks

-- One number or more, each once.
pub record AreSome (n : ℕ) (ks : List ℕ) : Type 0 where
  pub some : ks ≢ []
  pub below : AreBelow n ks
  pub once : IsOnce ks

-- ---- expressions over so many variables

-- how deep operators stand in one another
abbrev pub nesting : Formula ℕ → ℕ
nesting (Constant b) = 1
nesting (Variable k) = 1
nesting (Opposite f) = nesting f + 1
nesting (Binary t f g) = max (nesting f) (nesting g) + 1
nesting (Ternary t f g h) = max (nesting f) (max (nesting g) (nesting h)) + 1

-- each table of three places has a number that one may have
abbrev pub has_small_ternaries : Formula ℕ → Bool
has_small_ternaries (Constant b) = true
has_small_ternaries (Variable k) = true
has_small_ternaries (Opposite f) = has_small_ternaries f
has_small_ternaries (Binary t f g) = has_small_ternaries f && has_small_ternaries g
has_small_ternaries (Ternary t f g h) =
    nat_le t most_table3
    && (has_small_ternaries f && (has_small_ternaries g && has_small_ternaries h))

pub record IsExpressionText (items : ℕ) (f : Formula ℕ) : Type 0 where
  pub over : IsTrue (is_over items f)
  pub ternaries : IsTrue (has_small_ternaries f)
  pub shallow : nesting f ≤ most_depth

-- ---- weights over so many facts or variables

-- a whole number that 64 bits with a sign hold; `negsuc n` is -n - 1
abbrev pub IsConstant : ℤ → Type 0
IsConstant (pos n) = n < 2 ^ 63
IsConstant (negsuc n) = n < 2 ^ 63

abbrev pub IsFormText : ℕ → FormText → Type 0
IsFormText items Varying = Unit {0}
IsFormText items (Meet c bits) = IfSome c IsConstant × (bits < 2 ^ items)

abbrev pub IsValueText : ℕ → ValueText → Type 0
IsValueText items Free = Unit {0}
IsValueText items (Is f) = IsExpressionText items f

abbrev pub IsAction : ℕ → Action → Type 0
IsAction items (Assume f) = IsExpressionText items f
IsAction items (Choose ks) = (ks ≢ []) × AreBelow items ks
IsAction items (Assign ps) =
    AreSome items (map (λ p. p.variable) ps) × All (λ p. IsValueText items p.value) ps

-- a weight of a document with these weights
abbrev pub IsWeightText : WeightsLine → ℕ → WeightText → Type 0
IsWeightText weights items One = Unit {0}
IsWeightText weights items Zero = Unit {0}
IsWeightText (Cost cap) items (Number n) = n < 2 ^ 64
IsWeightText GenKill items (Facts ss) = AreSome items (map (λ s. s.fact) ss)
IsWeightText Copy items (Forms ps) =
    AreSome items (map (λ p. p.variable) ps) × All (λ p. IsFormText items p.form) ps
IsWeightText Relation items (Actions acts) = (acts ≢ []) × All (IsAction items) acts
IsWeightText _ _ _ = ⊥

-- ---- return maps, rules and patterns

-- A map that is not plain stands on a push, and has what the weights allow alone.
pub record IsPushMap (u : WeightsLine) (items : ℕ) (right : List ℕ) (m : MapText) : Type 0 where
  pub push : length right ≡ most_pushed
  pub restore : AreBelow items m.restore
  pub to : AreBelow items (map (λ v. v.to) m.moves)
  pub from : AreBelow items (map (λ v. v.from) m.moves)
  pub restores : IsTrue (allows_restore u) ⊎ (m.restore ≡ [])
  pub moves : IsTrue (allows_moves u) ⊎ (m.moves ≡ [])
  pub once : IsOnce (m.restore ++ map (λ v. v.to) m.moves)

abbrev pub IsMapText : WeightsLine → ℕ → (right : List ℕ) → Option MapText → Type 0
IsMapText weights items right None = Unit {0}
IsMapText weights items right (Some m) = IsPushMap weights items right m

-- A rule over so many controls, symbols, and facts or variables.
pub record IsRuleLine (u : WeightsLine) (controls symbols items : ℕ) (r : RuleLine) : Type 0 where
  pub control : r.control < controls
  pub symbol : r.symbol < symbols
  pub to : r.to < controls
  pub right : AreBelow symbols r.right
  pub short : length r.right ≤ most_pushed
  pub weight : IsWeightText u items r.weight
  pub map : IsMapText u items r.right r.map

abbrev pub IsSetText : ℕ → SetText → Type 0
IsSetText symbols AllSymbols = Unit {0}
IsSetText symbols (Listed gs) = AreBelow symbols gs × IsOnce gs

-- how many symbols a set has, where `.` has so many
abbrev pub set_count : ℕ → SetText → ℕ
set_count all AllSymbols = all
set_count all (Listed gs) = length gs

abbrev pub item_count : ℕ → ItemText → ℕ × Bool
item_count all i = (set_count all i.set, i.star)

-- A pattern over so many controls and symbols, in a document that declares so many symbols in all.
pub record IsPatternText (all controls symbols : ℕ) (p : PatternText) : Type 0 where
  pub control : p.control < controls
  pub items : All (λ i. IsSetText symbols i.set) p.items
  pub few : length p.items ≤ most_items
  pub edges : edges 1 (map (item_count all) p.items) ≤ most_edges

pub record IsQueryLine (all controls symbols : ℕ) (q : QueryLine) : Type 0 where
  pub from : IsPatternText all controls symbols q.from
  pub to : IsPatternText all controls symbols q.to

-- ---- what is written in a row has one at least

abbrev pub HasSymbol : SetText → Type 0
HasSymbol AllSymbols = Unit {0}
HasSymbol (Listed gs) = gs ≢ []

abbrev pub HasSymbols : PatternText → Type 0
HasSymbols p = All (λ i. HasSymbol i.set) p.items

abbrev pub HasSets : QueryLine → Type 0
HasSets q = HasSymbols q.from × HasSymbols q.to

-- a map that is not plain restores a name or moves one
abbrev pub HasMap : Option MapText → Type 0
HasMap None = Unit {0}
HasMap (Some m) = (m.restore ≢ []) ⊎ (m.moves ≢ [])

-- ---- documents

abbrev pub IsWeightsLine : WeightsLine → Type 0
IsWeightsLine (Cost cap) = (1 ≤ cap) × (cap ≤ most_cost)
IsWeightsLine _ = Unit {0}

-- A name that may be declared: one word, which is not too long and is not reserved.
pub record IsName (x : List ℕ) : Type 0 where
  pub text : IsTrue (is_name_text x)
  pub short : length x ≤ longest_name
  pub free : IsFalse (is_reserved x)

-- Names of a class, at most so many, and none twice.
pub record AreNames (most : ℕ) (names : List (List ℕ)) : Type 0 where
  pub few : length names ≤ most
  pub once : IsOnce names
  pub lawful : All IsName names

-- a rule or a query over the names of a document
abbrev pub IsRuleOf : Document → RuleLine → Type 0
IsRuleOf d r = IsRuleLine d.weights (length d.controls) (length d.symbols) (length d.items) r

abbrev pub IsQueryOf : Document → QueryLine → Type 0
IsQueryOf d q = IsQueryLine (length d.symbols) (length d.controls) (length d.symbols) q

-- A document over its own names, within the limits.
pub record IsDocument (d : Document) : Type 0 where
  pub weights : IsWeightsLine d.weights
  pub controls : AreNames most_controls d.controls
  pub symbols : AreNames most_symbols d.symbols
  pub items : AreNames (most_names d.weights (item_class d.weights)) d.items
  -- weights that have no such names go without
  pub has_items : IsTrue (has_class d.weights (item_class d.weights)) ⊎ (d.items ≡ [])
  pub rules : All (IsRuleOf d) d.rules
  pub maps : All HasMap (map (λ r. r.map) d.rules)
  pub few_rules : length d.rules ≤ most_rules
  pub queries : All (IsQueryOf d) d.queries
  pub sets : All HasSets d.queries
  pub asked : d.queries ≢ []
  pub few_queries : length d.queries ≤ most_queries
