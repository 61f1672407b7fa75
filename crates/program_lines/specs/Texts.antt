-- What the texts of lines are, whose names and values are words still.
use Rattle.std.specs.Prelude.{◌≡◌, ℕ, IsTrue, List, [], Option, None, Some, option_map, is_some, MatchOption}
use Rattle.std.specs.Borrow.{Bor}
use Rattle.wpds_port.specs.declared.Word.{Word}
use Rattle.truth_tables.specs.Stacks.{tree_of}
use Rattle.document_forms.specs.Words.{name_of, each_of_some, ◌>>=◌}
use Rattle.document_forms.specs.Weights.{value_of}
use Rattle.document_forms.specs.Forms.{names_of}
use Rattle.program_forms.specs.Forms.{StatementForm, SkipForm, AssignForm, GotoForm, AssumeForm, AssertForm, CallForm, ReturnForm, IfForm, WhileForm, LineForm, GlobalForm, ProcForm, LocalForm, Stating, ElseForm, EndForm, QueryForm, list_of, params_of, values_of, some_values_of}
use Rattle.program_lines.specs.declared.texts.StatementText.{StatementText}
use Rattle.program_lines.specs.declared.texts.StatementText.TheVariants.{Skip, Assign, Goto, Assume, Assert, Call, Return, If, While}
use Rattle.program_lines.specs.declared.texts.LineText.{LineText}
use Rattle.program_lines.specs.declared.texts.LineText.TheVariants.{Global, Proc, Local, Statement, Else, End, Query}

-- without `:=` there are none
abbrev pub targets_said : Option (List Word) → Option (List (List ℕ))
targets_said None = Some []
targets_said (Some ws) = list_of ws

abbrev pub statement_said : StatementText → Option StatementForm
statement_said Skip = Some SkipForm
statement_said (Assign targets values) =
    list_of targets >>= λ xs. option_map (AssignForm xs) (values_of values)
statement_said (Goto labels) = option_map GotoForm (each_of_some name_of labels)
statement_said (Assume ws) = option_map AssumeForm (tree_of ws)
statement_said (Assert ws) = option_map AssertForm (tree_of ws)
statement_said (Call targets callee arguments) =
    targets_said targets >>= λ xs. option_map (CallForm xs callee.now) (some_values_of arguments)
statement_said (Return values) = option_map ReturnForm (some_values_of values)
statement_said (If ws) = option_map IfForm (value_of ws)
statement_said (While ws) = option_map WhileForm (value_of ws)

abbrev pub label_said : Option (Bor (List ℕ)) → Option (List ℕ)
label_said label = option_map (λ bytes. bytes.now) label

abbrev pub line_said : LineText → Option LineForm
line_said (Global names) = option_map GlobalForm (names_of names)
line_said (Proc name params returns) =
    option_map (λ ps. ProcForm name.now ps returns) (params_of params)
line_said (Local names) = option_map LocalForm (names_of names)
line_said (Statement label statement) =
    option_map (Stating (label_said label)) (statement_said statement)
line_said Else = Some ElseForm
line_said End = Some EndForm
line_said (Query fails label) = Some (QueryForm fails label.now)

-- Words of this form, or of none, are read: nothing where they have none, and else what says it.
abbrev pub IsRead : {F T : Type 0} → Option F → (T → Option F) → Option T → Type 0
IsRead form says read =
    MatchOption read (form ≡ None) (λ r. (says r ≡ form) × IsTrue (is_some form))
