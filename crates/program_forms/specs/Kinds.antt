-- Which kinds of refusal the lines of a program have.
use Rattle.std.specs.Prelude.{ℕ, ◌+◌, Bool, false, not, ◌||◌, ◌&&◌, ◌==◌, nat_le, nat_lt, List, [], ◌∷◌, ◌++◌, length, Option, Some, None, option_map, unwrap_or, bytes_eq, flat_map, is_none, codes}
use Rattle.std.specs.List.{list_any}
use Rattle.wpds_base.specs.Limits.{most_symbols, most_rules, most_queries, most_related, most_depth}
use Rattle.wpds_port.specs.declared.Kind.TheVariants.{Twice, Unknown, WeightText, Count, Arity, TooWide, Label}
use Rattle.truth_tables.specs.Grammar.{Tree, depth, has_large_table}
use Rattle.document_forms.specs.Names.{is_among, has_twice, has_unknown}
use Rattle.document_forms.specs.Weights.{ValueForm, TreeValue}
use Rattle.document_forms.specs.Kinds.{Conditions, value_names, value_trees}
use Rattle.program_forms.specs.Forms.{StatementForm, AssignForm, GotoForm, AssumeForm, AssertForm, CallForm, ReturnForm, IfForm, WhileForm, LineForm, GlobalForm, ProcForm, LocalForm, Stating, ElseForm, EndForm, QueryForm}
use Rattle.program_forms.specs.Places.{Stated}
use Rattle.program_forms.specs.Declared.{globals, ProcHead, proc_named, LabelLine, label_named, Whole}
use Rattle.program_forms.specs.Above.{own_names, own_returns, proc_names, label_names, points_on, rules_on, total, queries}

-- some name is among the known ones
abbrev pub has_known : List (List ℕ) → List (List ℕ) → Bool
has_known known xs = list_any (is_among known) xs

-- ---- what a statement has

abbrev pub targets : StatementForm → List (List ℕ)
targets (AssignForm xs vs) = xs
targets (CallForm xs f vs) = xs
targets s = []

abbrev pub values : StatementForm → List ValueForm
values (AssignForm xs vs) = vs
values (AssumeForm e) = TreeValue e ∷ []
values (AssertForm e) = TreeValue e ∷ []
values (CallForm xs f vs) = vs
values (ReturnForm vs) = vs
values (IfForm c) = c ∷ []
values (WhileForm c) = c ∷ []
values s = []

abbrev pub trees : StatementForm → List Tree
trees s = flat_map value_trees (values s)

-- the variables that it names
abbrev pub variables : StatementForm → List (List ℕ)
variables s = targets s ++ flat_map value_names (values s)

abbrev pub is_deep : Tree → Bool
is_deep e = nat_lt most_depth (depth e)

-- ---- lines that declare

-- globals, return slots and so many names of a procedure
abbrev pub is_too_wide : Whole → ℕ → Bool
is_too_wide w names = nat_lt most_related (length w.globals + w.slots + names)

abbrev pub global_conditions : List Stated → List (List ℕ) → Conditions
global_conditions above xs = (has_twice xs || has_known (globals above) xs, Twice) ∷ []

abbrev pub is_main : List ℕ → Bool
is_main f = bytes_eq f (codes "main")

abbrev pub proc_conditions : Whole → List Stated → List ℕ → List (List ℕ) → ℕ → Conditions
proc_conditions w above f ps n =
    (is_among (proc_names above) f || has_twice ps || has_known w.globals ps, Twice)
    ∷ (is_main f && not (length ps == 0 && n == 0), Arity)
    ∷ (is_too_wide w (length ps), TooWide)
    ∷ []

-- where the procedure has these names so far
abbrev pub local_conditions : Whole → List (List ℕ) → List (List ℕ) → Conditions
local_conditions w own xs =
    (has_twice xs || has_known own xs || has_known w.globals xs, Twice)
    ∷ (is_too_wide w (length own + length xs), TooWide)
    ∷ []

-- ---- queries

abbrev pub is_no_assert : Option LabelLine → Bool
is_no_assert label = unwrap_or (option_map (λ l. not l.asserts) label) false

abbrev pub query_conditions : List Stated → Bool → Option LabelLine → Conditions
query_conditions above fails label =
    (is_none label, Unknown)
    ∷ (nat_le most_queries (queries above), Count)
    ∷ (fails && is_no_assert label, Label)
    ∷ []

-- ---- statements

-- a label or a callee that is declared nowhere
abbrev pub has_no_end : Whole → StatementForm → Bool
has_no_end w (GotoForm xs) = list_any (λ x. is_none (label_named w.labels x)) xs
has_no_end w (CallForm xs f vs) = is_none (proc_named w.procs f)
has_no_end w s = false

-- a call with so many targets and arguments
abbrev pub misfits_callee : ℕ → ℕ → ProcHead → Bool
misfits_callee targets arguments q =
    not (arguments == length q.params) || not (targets == 0 || targets == q.returns)

-- in a procedure that returns so many values
abbrev pub misfits : Whole → ℕ → StatementForm → Bool
misfits w returns (AssignForm xs vs) = not (length xs == length vs)
misfits w returns (CallForm xs f vs) =
    unwrap_or (option_map (misfits_callee (length xs) (length vs)) (proc_named w.procs f)) false
misfits w returns (ReturnForm vs) = not (length vs == returns)
misfits w returns s = false

-- a label that stands in another procedure than the one that began last of so many
abbrev pub is_elsewhere : ℕ → Option LabelLine → Bool
is_elsewhere begun label = unwrap_or (option_map (λ l. not (l.begun == begun)) label) false

abbrev pub leaves : Whole → ℕ → StatementForm → Bool
leaves w begun (GotoForm xs) = list_any (λ x. is_elsewhere begun (label_named w.labels x)) xs
leaves w begun s = false

-- the limits on body lines with asserts, and on rules
abbrev pub is_past_limits : List Stated → LineForm → Bool
is_past_limits above f =
    nat_lt most_symbols (total points_on above + points_on f)
    || nat_lt most_rules (total rules_on above + rules_on f)

abbrev pub listed : Option (List ℕ) → List (List ℕ)
listed None = []
listed (Some x) = x ∷ []

-- below so many `proc` lines
abbrev pub statement_conditions :
    Whole → List Stated → ℕ → Option (List ℕ) → StatementForm → Conditions
statement_conditions w above begun label s =
    (has_known (label_names above) (listed label) || has_twice (targets s), Twice)
    ∷ (has_unknown (w.globals ++ own_names above) (variables s) || has_no_end w s, Unknown)
    ∷ (list_any has_large_table (trees s), WeightText)
    ∷ (list_any is_deep (trees s) || is_past_limits above (Stating label s), Count)
    ∷ (misfits w (own_returns above) s, Arity)
    ∷ (leaves w begun s, Label)
    ∷ []

-- ---- all lines

-- by what all lines declare, and by the lines above
abbrev pub conditions : Whole → List Stated → ℕ → LineForm → Conditions
conditions w above begun (GlobalForm xs) = global_conditions above xs
conditions w above begun (ProcForm f ps n) = proc_conditions w above f ps n
conditions w above begun (LocalForm xs) = local_conditions w (own_names above) xs
conditions w above begun (Stating label s) = statement_conditions w above begun label s
conditions w above begun ElseForm = (is_past_limits above ElseForm, Count) ∷ []
conditions w above begun EndForm = (is_past_limits above EndForm, Count) ∷ []
conditions w above begun (QueryForm fails x) =
    query_conditions above fails (label_named w.labels x)
