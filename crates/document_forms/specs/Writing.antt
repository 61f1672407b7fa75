-- How a document is written.
use Rattle.std.specs.Prelude.{ℕ, ◌^◌, ◌/◌, ◌%◌, Bool, true, false, ◌==◌, if◌then◌else◌, List, [], ◌∷◌, ◌++◌, length, filter, flat_map, map, Option, Some, None, codes, ℤ, decimal}
use Rattle.std.specs.List.{join_with_byte, range_with_len}
use Rattle.std.specs.Fmt.{signed_decimal}
use Rattle.truth_tables.specs.Formulas.{Formula, Constant, Variable, Opposite, Binary, Ternary}
use Rattle.document_forms.specs.declared.weight.WeightsLine.{WeightsLine}
use Rattle.document_forms.specs.declared.weight.WeightsLine.TheVariants.{Reach, Cost, GenKill, Copy, Relation}
use Rattle.document_forms.specs.declared.weight.FactSign.{FactSign}
use Rattle.document_forms.specs.declared.weight.FormText.{FormText}
use Rattle.document_forms.specs.declared.weight.FormText.TheVariants.{Varying, Meet}
use Rattle.document_forms.specs.declared.weight.VariableForm.{VariableForm}
use Rattle.document_forms.specs.declared.weight.ValueText.{ValueText}
use Rattle.document_forms.specs.declared.weight.ValueText.TheVariants.{Free, Is}
use Rattle.document_forms.specs.declared.weight.Action.{Action}
use Rattle.document_forms.specs.declared.weight.Action.TheVariants.{Assume, Choose, Assign}
use Rattle.document_forms.specs.declared.weight.WeightText.{WeightText}
use Rattle.document_forms.specs.declared.weight.WeightText.TheVariants.{One, Zero, Number, Facts, Forms, Actions}
use Rattle.document_forms.specs.declared.pattern.SetText.{SetText}
use Rattle.document_forms.specs.declared.pattern.SetText.TheVariants.{All, Listed}
use Rattle.document_forms.specs.declared.pattern.ItemText.{ItemText}
use Rattle.document_forms.specs.declared.pattern.PatternText.{PatternText}
use Rattle.document_forms.specs.declared.document.Move.{Move}
use Rattle.document_forms.specs.declared.document.MapText.{MapText}
use Rattle.document_forms.specs.declared.document.RuleLine.{RuleLine}
use Rattle.document_forms.specs.declared.document.QueryLine.{QueryLine}
use Rattle.document_forms.specs.Names.{name}
use Rattle.document_forms.specs.Documents.{Document}

-- ---- texts in a row

-- with one blank between
abbrev pub spaced : List (List ℕ) → List ℕ
spaced texts = join_with_byte 32 texts

-- an end behind each but the last
abbrev pub ended_but_last : List ℕ → List (List ℕ) → List (List ℕ)
ended_but_last end [] = []
ended_but_last end (t ∷ []) = t ∷ []
ended_but_last end (t ∷ u ∷ ts) = (t ++ end) ∷ ended_but_last end (u ∷ ts)

-- `A, B, C`
abbrev pub listed : List (List ℕ) → List ℕ
listed texts = spaced (ended_but_last (codes ",") texts)

-- `A ; B ; C`
abbrev pub in_turn : List (List ℕ) → List ℕ
in_turn texts = spaced (ended_but_last (codes " ;") texts)

-- a word before texts, where there are texts
abbrev pub headed : List ℕ → List (List ℕ) → List (List ℕ)
headed word [] = []
headed word (t ∷ ts) = word ∷ t ∷ ts

-- ---- weights and return maps, with the names of facts or variables

abbrev pub digit_text : Bool → List ℕ
digit_text true = codes "1"
digit_text false = codes "0"

module _ (names : List (List ℕ)) where
  abbrev pub expression_text : Formula ℕ → List ℕ
  expression_text (Constant b) = digit_text b
  expression_text (Variable k) = name names k
  expression_text (Opposite f) = codes "! " ++ expression_text f
  expression_text (Binary t f g) =
      codes "tab2 " ++ decimal t ++ codes " ( " ++ expression_text f ++ codes ", "
      ++ expression_text g ++ codes " )"
  expression_text (Ternary t f g h) =
      codes "tab3 " ++ decimal t ++ codes " ( " ++ expression_text f ++ codes ", "
      ++ expression_text g ++ codes ", " ++ expression_text h ++ codes " )"

  -- the variables of a set of bits, in order
  abbrev pub members : ℕ → List ℕ
  members bits = filter (λ k. bits / 2 ^ k % 2 == 1) (range_with_len 0 (length names))

  abbrev pub constant_texts : Option ℤ → List (List ℕ)
  constant_texts None = []
  constant_texts (Some c) = signed_decimal c ∷ []

  abbrev pub or_undef : List (List ℕ) → List ℕ
  or_undef [] = codes "undef"
  or_undef (t ∷ ts) = listed (t ∷ ts)

  -- the constant first, then the variables
  abbrev pub form_text : FormText → List ℕ
  form_text Varying = codes "?"
  form_text (Meet c bits) = or_undef (constant_texts c ++ map (name names) (members bits))

  abbrev pub sign_text : FactSign → List ℕ
  sign_text s = (if s.plus then codes "+" else codes "-") ++ name names s.fact

  abbrev pub pair_text : VariableForm → List ℕ
  pair_text p = name names p.variable ++ codes "=" ++ form_text p.form

  abbrev pub value_text : ValueText → List ℕ
  value_text Free = codes "*"
  value_text (Is e) = expression_text e

  abbrev pub action_text : Action → List ℕ
  action_text (Assume e) = codes "assume " ++ expression_text e
  action_text (Choose ks) = spaced (codes "choose" ∷ map (name names) ks)
  action_text (Assign ps) =
      listed (map (λ p. name names p.variable) ps) ++ codes " := "
      ++ listed (map (λ p. value_text p.value) ps)

  abbrev pub weight_texts : WeightText → List (List ℕ)
  weight_texts One = []
  weight_texts Zero = codes ":" ∷ codes "none" ∷ []
  weight_texts (Number n) = codes ":" ∷ decimal n ∷ []
  weight_texts (Facts ss) = codes ":" ∷ map sign_text ss
  weight_texts (Forms ps) = codes ":" ∷ map pair_text ps
  weight_texts (Actions acts) = codes ":" ∷ in_turn (map action_text acts) ∷ []

  abbrev pub move_text : Move → List ℕ
  move_text m = name names m.to ++ codes "=" ++ name names m.from

  abbrev pub map_texts : Option MapText → List (List ℕ)
  map_texts None = []
  map_texts (Some m) =
      codes "return" ∷ headed (codes "restore") (map (name names) m.restore)
      ++ headed (codes "move") (map move_text m.moves)

-- ---- patterns, with the names of symbols

-- One symbol without a star stands alone, and others in braces.
abbrev pub set_text : List (List ℕ) → SetText → (star : Bool) → List ℕ
set_text symbols All star = codes "."
set_text symbols (Listed (g ∷ [])) false = name symbols g
set_text symbols (Listed gs) star =
    codes "{" ++ spaced (map (name symbols) gs) ++ codes "}"

abbrev pub item_text : List (List ℕ) → ItemText → List ℕ
item_text symbols i = set_text symbols i.set i.star ++ (if i.star then codes "*" else [])

abbrev pub pattern_text : Document → PatternText → List ℕ
pattern_text d p =
    spaced ((name d.controls p.control ++ codes ":") ∷ map (item_text d.symbols) p.items)

-- ---- lines

abbrev pub weights_text : WeightsLine → List ℕ
weights_text Reach = codes "weights reach"
weights_text (Cost cap) = codes "weights cost " ++ decimal cap
weights_text GenKill = codes "weights genkill"
weights_text Copy = codes "weights copy"
weights_text Relation = codes "weights relation"

-- a line of names, where there are names
abbrev pub names_lines : (word : List ℕ) → List (List ℕ) → List (List ℕ)
names_lines word [] = []
names_lines word (x ∷ xs) = spaced (word ∷ x ∷ xs) ∷ []

abbrev pub item_word : WeightsLine → List ℕ
item_word GenKill = codes "facts"
item_word _ = codes "variables"

abbrev pub rule_text : Document → RuleLine → List ℕ
rule_text d r =
    spaced (
    codes "rule" ∷ name d.controls r.control ∷ name d.symbols r.symbol ∷ codes "->"
    ∷ name d.controls r.to ∷ map (name d.symbols) r.right ++ weight_texts d.items r.weight
    ++ map_texts d.items r.map
    )

abbrev pub query_text : Document → QueryLine → List ℕ
query_text d q =
    spaced (codes "query" ∷ pattern_text d q.from ∷ codes "=>" ∷ pattern_text d q.to ∷ [])

-- The header, the weights line, one line for the names of each class, the rules, the queries.
abbrev pub written_lines : Document → List (List ℕ)
written_lines d =
    codes "wpds 1" ∷ weights_text d.weights
    ∷ names_lines (codes "controls") d.controls ++ names_lines (codes "symbols") d.symbols
    ++ names_lines (item_word d.weights) d.items
    ++ map (rule_text d) d.rules ++ map (query_text d) d.queries

-- each line ends with a line feed
abbrev pub written : Document → List ℕ
written d = flat_map (λ l. l ++ 10 ∷ []) (written_lines d)
