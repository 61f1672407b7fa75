-- What reading the line of a rule gives.
use Rattle.std.specs.Prelude.{◌≡◌, ◌≤◌, ℕ, List, length, Option, None, Some, MatchOption}
use Rattle.wpds_base.specs.Faults.{first_fault}
use Rattle.wpds_port.specs.declared.Word.{Word}
use Rattle.document_forms.specs.Forms.{RuleForm, rule_of}
use Rattle.document_forms.specs.Above.{Above, item_class, most_names}
use Rattle.document_forms.specs.Kinds.{rule_conditions}
use Rattle.document_forms.specs.Documents.{rule_value}
use Rattle.rule_reader.specs.declared.rules.RuleRead.{RuleRead}
use Rattle.rule_reader.specs.declared.scope.Scope.{Scope}

-- what is said above a line in this scope, behind so many rules and queries
abbrev pub above_in : Scope → (rules queries : ℕ) → Above
above_in s rules queries = record {
  weights = s.weights;
  controls = s.controls;
  symbols = s.symbols;
  items = s.items;
  rules = rules;
  queries = queries;
}

-- There are no more facts or variables than the weights may have.
abbrev pub HasFewItems : Above → Type 0
HasFewItems a = length a.items ≤ most_names a.weights (item_class a.weights)

-- This rule is read: the kind by which it is refused, and its value where none is.
pub record IsReadRule (a : Above) (f : RuleForm) (r : RuleRead) : Type 0 where
  pub kind : r.kind ≡ first_fault (rule_conditions a f)
  pub value : HasFewItems a → r.kind ≡ None → r.rule ≡ rule_value a f

-- Words are read as a rule, exactly where they are one.
abbrev pub IsRuleRead : Above → List Word → Option RuleRead → Type 0
IsRuleRead a ws read =
    MatchOption read (rule_of ws ≡ None) (λ r. (f : RuleForm) × (rule_of ws ≡ Some f) × IsReadRule a f r)
