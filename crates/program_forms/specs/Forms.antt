-- The forms of a program's lines, as syntax with names. A line's form depends on its words alone.
use Rattle.std.specs.Prelude.{ℕ, Bool, true, false, not, ◌&&◌, nat_le, if◌then◌else◌, List, [], ◌∷◌, Option, Some, None, option_map, codes}
use Rattle.std.specs.List.{list_any, list_all}
use Rattle.wpds_base.specs.Limits.{most_related}
use Rattle.wpds_port.specs.declared.Mark.TheVariants.{Colon, Open, Close}
use Rattle.wpds_port.specs.declared.Word.{Word}
use Rattle.wpds_port.specs.declared.Word.TheVariants.{Name, Number, Mark as Sign}
use Rattle.wpds_port.specs.Tokens.{is_lawful_word}
use Rattle.wpds_port.specs.Words.{same_word, before_outside, behind_outside}
use Rattle.truth_tables.specs.Grammar.{Tree, number_of}
use Rattle.truth_tables.specs.Stacks.{tree_of}
use Rattle.truth_tables.specs.Texts.{is_name}
use Rattle.document_forms.specs.Names.{is_reserved}
use Rattle.document_forms.specs.Words.{is_comma, is_becomes, before, behind, parted, parted_outside, name_of, each, each_of_some, guarded, ◌>>=◌}
use Rattle.document_forms.specs.Weights.{ValueForm, target_of, value_of}
use Rattle.document_forms.specs.Forms.{names_of, is_first_version}

-- ---- what a line is

pub data StatementForm : Type 0 where
  SkipForm : StatementForm
  -- `X, .. := V, ..`
  AssignForm : List (List ℕ) → List ValueForm → StatementForm
  -- `goto LABEL ..`
  GotoForm : List (List ℕ) → StatementForm
  -- `assume E`
  AssumeForm : Tree → StatementForm
  -- `assert E`
  AssertForm : Tree → StatementForm
  -- `[X, .. :=] call F ( [V, ..] )`
  CallForm : List (List ℕ) → List ℕ → List ValueForm → StatementForm
  -- `return [V, ..]`
  ReturnForm : List ValueForm → StatementForm
  -- `if C`
  IfForm : ValueForm → StatementForm
  -- `while C`
  WhileForm : ValueForm → StatementForm

pub data LineForm : Type 0 where
  -- `global NAME ..`
  GlobalForm : List (List ℕ) → LineForm
  -- `proc NAME ( [NAME, ..] ) [returns N]`, without `returns` 0
  ProcForm : List ℕ → List (List ℕ) → ℕ → LineForm
  -- `local NAME ..`
  LocalForm : List (List ℕ) → LineForm
  -- `[LABEL :] STATEMENT`
  Stating : Option (List ℕ) → StatementForm → LineForm
  ElseForm : LineForm
  EndForm : LineForm
  -- `query reach LABEL`, and with `true` `query fails LABEL`
  QueryForm : Bool → List ℕ → LineForm

-- ---- lists with commas

-- `X, ..`
abbrev pub list_of : List Word → Option (List (List ℕ))
list_of ws = each target_of (parted is_comma ws)

-- nothing, or `X, ..`
abbrev pub params_of : List Word → Option (List (List ℕ))
params_of [] = Some []
params_of (w ∷ ws) = list_of (w ∷ ws)

-- `V, ..`
abbrev pub values_of : List Word → Option (List ValueForm)
values_of ws = each value_of (parted_outside 0 is_comma ws)

-- nothing, or `V, ..`
abbrev pub some_values_of : List Word → Option (List ValueForm)
some_values_of [] = Some []
some_values_of (w ∷ ws) = values_of (w ∷ ws)

-- ---- statements

abbrev pub is_close : Word → Bool
is_close w = same_word (Sign Close) w

-- the arguments before the bracket that closes a call, behind which nothing stands
abbrev pub arguments_of : List Word → Option (List ValueForm)
arguments_of ws = elim (behind_outside 0 is_close ws) [
  | Some [] ↦ some_values_of (before_outside 0 is_close ws)
  | _ ↦ None
]

-- behind `call`, for these targets
abbrev pub callee_of : List (List ℕ) → List Word → Option StatementForm
callee_of targets (Name f ∷ Sign Open ∷ ws) = option_map (CallForm targets f) (arguments_of ws)
callee_of targets _ = None

abbrev pub call_of : List (List ℕ) → List Word → Option StatementForm
call_of targets [] = None
call_of targets (w ∷ ws) = guarded (is_name (codes "call") w) (callee_of targets ws)

-- behind `X, .. :=`
abbrev pub becomes_of : List (List ℕ) → List Word → Option StatementForm
becomes_of targets ws = elim (call_of targets ws) [
  | Some s ↦ Some s
  | None ↦ option_map (AssignForm targets) (values_of ws)
]

abbrev pub skip_of : List Word → Option StatementForm
skip_of [] = Some SkipForm
skip_of (w ∷ ws) = None

-- a statement without `:=`
abbrev pub worded_of : List Word → Option StatementForm
worded_of [] = None
worded_of (w ∷ ws) =
    if is_name (codes "skip") w then skip_of ws
    else (if is_name (codes "goto") w then option_map GotoForm (each_of_some name_of ws)
    else (if is_name (codes "assume") w then option_map AssumeForm (tree_of ws)
    else (if is_name (codes "assert") w then option_map AssertForm (tree_of ws)
    else (if is_name (codes "return") w then option_map ReturnForm (some_values_of ws)
    else (if is_name (codes "if") w then option_map IfForm (value_of ws)
    else (if is_name (codes "while") w then option_map WhileForm (value_of ws)
    else call_of [] (w ∷ ws)))))))

-- Only statements with targets have a `:=`. So before it a reserved word is a target, a name like
-- another.
abbrev pub statement_of : List Word → Option StatementForm
statement_of ws = elim (behind is_becomes ws) [
  | None ↦ worded_of ws
  | Some right ↦ list_of (before is_becomes ws) >>= λ targets. becomes_of targets right
]

-- ---- lines

abbrev pub are_free : List (List ℕ) → Bool
are_free xs = not (list_any is_reserved xs)

-- a number of values that a procedure may return
abbrev pub is_count : ℕ → Bool
is_count n = nat_le 1 n && nat_le n most_related

-- `[returns N]`
abbrev pub returns_of : List Word → Option ℕ
returns_of [] = Some 0
returns_of (w ∷ Number n ∷ []) =
    guarded (is_name (codes "returns") w && is_count (number_of n)) (Some (number_of n))
returns_of _ = None

-- behind `proc NAME (`
abbrev pub params_with : List ℕ → List Word → Option LineForm
params_with f ws = do
  params ← params_of (before is_close ws)
  rest ← behind is_close ws
  returns ← returns_of rest
  guarded (are_free (f ∷ params)) (Some (ProcForm f params returns))

-- behind `proc`
abbrev pub proc_of : List Word → Option LineForm
proc_of (Name f ∷ Sign Open ∷ ws) = params_with f ws
proc_of _ = None

-- behind `query`
abbrev pub query_of : List Word → Option LineForm
query_of (w ∷ Name l ∷ []) =
    if is_name (codes "reach") w then Some (QueryForm false l)
    else (if is_name (codes "fails") w then Some (QueryForm true l) else None)
query_of _ = None

-- the line that is one word
abbrev pub single_of : Word → Option LineForm
single_of w =
    if is_name (codes "else") w then Some ElseForm
    else (if is_name (codes "end") w then Some EndForm else None)

-- a line that is no statement
abbrev pub special_of : List Word → Option LineForm
special_of [] = None
special_of (w ∷ []) = single_of w
special_of (w ∷ v ∷ ws) =
    if is_name (codes "global") w then option_map GlobalForm (names_of (v ∷ ws))
    else (if is_name (codes "local") w then option_map LocalForm (names_of (v ∷ ws))
    else (if is_name (codes "proc") w then proc_of (v ∷ ws)
    else (if is_name (codes "query") w then query_of (v ∷ ws) else None)))

-- a statement, with a label before it or without one
abbrev pub labelled_of : List Word → Option LineForm
labelled_of (Name l ∷ Sign Colon ∷ ws) =
    guarded (not (is_reserved l)) (option_map (Stating (Some l)) (statement_of ws))
labelled_of ws = option_map (Stating None) (statement_of ws)

-- the form of words each of which a form takes
abbrev pub form_in : List Word → Option LineForm
form_in ws = elim (special_of ws) [ Some f ↦ Some f | None ↦ labelled_of ws ]

-- The form that words have, leaving aside where their line stands. No name is longer than a form
-- takes, and no number has a leading zero.
abbrev pub form_of : List Word → Option LineForm
form_of ws = guarded (list_all is_lawful_word ws) (form_in ws)

-- `bool 1`
abbrev pub is_header : List Word → Bool
is_header ws = is_first_version (codes "bool") ws
