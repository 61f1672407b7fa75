-- Documents: what accepted bytes are.
use Rattle.std.specs.Prelude.{◌≡◌, IsTrue, ℕ, ◌^◌, Bool, ◌&&◌, if◌then◌else◌, List, [], ◌∷◌, ◌++◌, zip, fold, flat_map, map, Option, Some, None, option_map, unwrap_or, Result, Ok, Err, ℤ, pos, neg_ℤ, int_le, bit_or}
use Rattle.truth_tables.specs.Formulas.{Formula, Constant, Variable, Opposite, Binary, Ternary}
use Rattle.truth_tables.specs.Grammar.{Tree, number_of, formula_of}
use Rattle.document_forms.specs.declared.weight.FactSign.{FactSign}
use Rattle.document_forms.specs.declared.weight.FormText.{FormText}
use Rattle.document_forms.specs.declared.weight.FormText.TheVariants.{Varying, Meet}
use Rattle.document_forms.specs.declared.weight.VariableForm.{VariableForm}
use Rattle.document_forms.specs.declared.weight.ValueText.{ValueText}
use Rattle.document_forms.specs.declared.weight.ValueText.TheVariants.{Free, Is}
use Rattle.document_forms.specs.declared.weight.Assignment.{Assignment}
use Rattle.document_forms.specs.declared.weight.Action.{Action}
use Rattle.document_forms.specs.declared.weight.Action.TheVariants.{Assume, Choose, Assign}
use Rattle.document_forms.specs.declared.weight.WeightText.{WeightText}
use Rattle.document_forms.specs.declared.weight.WeightText.TheVariants.{One, Zero, Number, Facts, Forms, Actions}
use Rattle.document_forms.specs.declared.pattern.SetText.{SetText}
use Rattle.document_forms.specs.declared.pattern.SetText.TheVariants.{All, Listed}
use Rattle.document_forms.specs.declared.pattern.ItemText.{ItemText}
use Rattle.document_forms.specs.declared.pattern.PatternText.{PatternText}
use Rattle.document_forms.specs.declared.document.Move.{Move}
use Rattle.document_forms.specs.declared.document.MapText.{MapText}
use Rattle.document_forms.specs.declared.document.RuleLine.{RuleLine}
use Rattle.document_forms.specs.declared.document.QueryLine.{QueryLine}
use Rattle.document_forms.specs.declared.document.Document.{Document as DocumentOf}
use Rattle.document_forms.specs.Names.{number_in}
use Rattle.document_forms.specs.Patterns.{SetForm, Dotted, Bare, Braced, ItemForm, PatternForm}
use Rattle.document_forms.specs.Returns.{MoveForm, ReturnForm, PlainReturn, GivenMap}
use Rattle.document_forms.specs.Weights.{SignForm, PartForm, OfVariable, OfNumber, PartsForm, VaryingParts, Undefined, Parts, PairForm, ValueForm, FreeValue, TreeValue, ActionForm, AssumeForm, ChooseForm, AssignForm, WeightForm, OneForm, NoneForm, NumberForm, SignsForm, PairsForm, ActionsForm}
use Rattle.document_forms.specs.Forms.{RuleForm, LineForm, OfRule, OfQuery}
use Rattle.wpds_port.specs.declared.Refusal.{Refusal}
use Rattle.document_forms.specs.Above.{Above, above_of}
use Rattle.document_forms.specs.Kinds.{rule_weight, restored, moved}
use Rattle.document_forms.specs.FirstRefusal.{Counted, forms, all_symbols, counted_lines, AreAccepted, is_short, missing, refusal_of}

-- a document whose names are lists of texts, in the order in which they are declared
abbrev pub Document : Type 0
Document = DocumentOf (List (List ℕ))

-- ---- numbers in place of names

-- an expression over names, with their numbers
abbrev pub over_numbers : List (List ℕ) → Formula (List ℕ) → Formula ℕ
over_numbers names (Constant b) = Constant b
over_numbers names (Variable x) = Variable (number_in names x)
over_numbers names (Opposite f) = Opposite (over_numbers names f)
over_numbers names (Binary t f g) = Binary t (over_numbers names f) (over_numbers names g)
over_numbers names (Ternary t f g h) =
    Ternary t (over_numbers names f) (over_numbers names g) (over_numbers names h)

-- what an expression says, without its brackets, each operator by its table
abbrev pub expression_value : List (List ℕ) → Tree → Formula ℕ
expression_value names e = over_numbers names (formula_of e)

-- ---- weights

abbrev pub constants_in : PartForm → List ℤ
constants_in (OfVariable x) = []
constants_in (OfNumber negative n) =
    (if negative then neg_ℤ (pos (number_of n)) else pos (number_of n)) ∷ []

abbrev pub variables_in : List (List ℕ) → PartForm → List ℕ
variables_in names (OfVariable x) = number_in names x ∷ []
variables_in names (OfNumber negative n) = []

abbrev pub same_integer : ℤ → ℤ → Bool
same_integer x y = int_le x y && int_le y x

-- The number that is there, if one is; nothing where two are different.
abbrev pub one_constant : List ℤ → Option (Option ℤ)
one_constant [] = Some None
one_constant (x ∷ []) = Some (Some x)
one_constant (x ∷ y ∷ xs) = if same_integer x y then one_constant (y ∷ xs) else None

-- the bits at these places
abbrev pub bits_at : List ℕ → ℕ
bits_at ks = fold (λ n k. bit_or n (2 ^ k)) 0 ks

abbrev pub meet_of : Option (Option ℤ) → ℕ → FormText
meet_of None bits = Varying
meet_of (Some c) bits = Meet c bits

abbrev pub parts_value : List (List ℕ) → PartsForm → FormText
parts_value names VaryingParts = Varying
parts_value names Undefined = Meet None 0
parts_value names (Parts ps) =
    meet_of (one_constant (flat_map constants_in ps)) (bits_at (flat_map (variables_in names) ps))

abbrev pub sign_value : List (List ℕ) → SignForm → FactSign
sign_value names s = record { fact = number_in names s.fact; plus = s.plus }

abbrev pub pair_value : List (List ℕ) → PairForm → VariableForm
pair_value names p = record {
  variable = number_in names p.variable;
  form = parts_value names p.parts;
}

abbrev pub value_of : List (List ℕ) → ValueForm → ValueText
value_of names FreeValue = Free
value_of names (TreeValue e) = Is (expression_value names e)

-- a target and its value
abbrev pub assignment_of : List (List ℕ) → List ℕ × ValueForm → Assignment
assignment_of names p = record { variable = number_in names p.0; value = value_of names p.1 }

abbrev pub action_value : List (List ℕ) → ActionForm → Action
action_value names (AssumeForm e) = Assume (expression_value names e)
action_value names (ChooseForm xs) = Choose (map (number_in names) xs)
action_value names (AssignForm xs vs) = Assign (map (assignment_of names) (zip xs vs))

abbrev pub weight_value : List (List ℕ) → WeightForm → WeightText
weight_value names OneForm = One
weight_value names NoneForm = Zero
weight_value names (NumberForm n) = Number (number_of n)
weight_value names (SignsForm ss) = Facts (map (sign_value names) ss)
weight_value names (PairsForm ps) = Forms (map (pair_value names) ps)
weight_value names (ActionsForm acts) = Actions (map (action_value names) acts)

-- ---- return maps and patterns

abbrev pub move_value : List (List ℕ) → MoveForm → Move
move_value names m = record { to = number_in names m.to; from = number_in names m.from }

-- a plain map is no map
abbrev pub map_value : List (List ℕ) → ReturnForm → Option MapText
map_value names PlainReturn = None
map_value names (GivenMap m) = Some (record {
  restore = map (number_in names) (restored m);
  moves = map (move_value names) (moved m);
})

abbrev pub set_value : List (List ℕ) → SetForm → SetText
set_value symbols Dotted = All
set_value symbols (Bare x) = Listed (number_in symbols x ∷ [])
set_value symbols (Braced xs) = Listed (map (number_in symbols) xs)

abbrev pub item_value : List (List ℕ) → ItemForm → ItemText
item_value symbols i = record { set = set_value symbols i.set; star = i.star }

abbrev pub pattern_value : (controls symbols : List (List ℕ)) → PatternForm → PatternText
pattern_value controls symbols p = record {
  control = number_in controls p.control;
  items = map (item_value symbols) p.items;
}

-- ---- lines: a line's names have their numbers by the lines above it

abbrev pub rule_value : Above → RuleForm → RuleLine
rule_value a r = record {
  control = number_in a.controls r.control;
  symbol = number_in a.symbols r.symbol;
  to = number_in a.controls r.to;
  right = map (number_in a.symbols) r.right;
  weight = unwrap_or (option_map (weight_value a.items) (rule_weight a.weights r.weight)) One;
  map = map_value a.items (unwrap_or r.back PlainReturn);
}

abbrev pub query_value : Above → (from to : PatternForm) → QueryLine
query_value a p q = record {
  from = pattern_value a.controls a.symbols p;
  to = pattern_value a.controls a.symbols q;
}

abbrev pub rules_on : Above → LineForm → List RuleLine
rules_on a (OfRule r) = rule_value a r ∷ []
rules_on a _ = []

abbrev pub queries_on : Above → LineForm → List QueryLine
queries_on a (OfQuery p q) = query_value a p q ∷ []
queries_on a _ = []

-- what each line gives below the lines above it
abbrev pub gathered :
    {A : Type 0} → (Above → LineForm → List A) → (above ls : List LineForm) → List A
gathered f above [] = []
gathered f above (l ∷ ls) = f (above_of above) l ++ gathered f (above ++ l ∷ []) ls

-- ---- the document

-- the forms of the lines behind the header
abbrev pub body : List Counted → List LineForm
body [] = []
body (h ∷ ls) = forms ls

-- the document that lines are, by their forms
abbrev pub document_of : List LineForm → Document
document_of ls =
    let a = above_of ls in
    record {
      weights = a.weights;
      controls = a.controls;
      symbols = a.symbols;
      items = a.items;
      rules = gathered rules_on [] ls;
      queries = gathered queries_on [] ls;
    }

-- The bytes are the document: they are no more than may be read, each line that counts is accepted,
-- nothing is missing, and the document is that of the lines behind the header.
pub record reads_as (bytes : List ℕ) (d : Document) : Type 0 where
  pub short : IsTrue (is_short bytes)
  pub accepted : AreAccepted (all_symbols (counted_lines bytes)) (counted_lines bytes)
  pub whole : missing (counted_lines bytes) ≡ None
  pub document : d ≡ document_of (body (counted_lines bytes))

-- ---- found line by line

-- the document, or the first refusal
abbrev pub read_as : List ℕ → Result Document Refusal
read_as bytes = elim (refusal_of bytes) [
  | Some r ↦ Err r
  | None ↦ Ok (document_of (body (counted_lines bytes)))
]
