-- What the lines above a line say.
use Rattle.std.specs.Prelude.{ℕ, ◌+◌, Bool, true, false, if◌then◌else◌, List, [], ◌∷◌, ◌++◌, length, map, count_by}
use Rattle.boolean_programs.specs.Structure.{Block}
use Rattle.program_forms.specs.Forms.{StatementForm, GotoForm, AssertForm, IfForm, WhileForm, LineForm, ProcForm, LocalForm, Stating, ElseForm, EndForm, QueryForm}
use Rattle.program_forms.specs.Places.{Stated}
use Rattle.program_forms.specs.Declared.{is_assert, procs, labels}

-- ---- the procedure that began last

-- A `proc` line begins with its parameters, and a `local` line adds its names.
abbrev pub names_after : List (List ℕ) → LineForm → List (List ℕ)
names_after own (ProcForm f ps n) = ps
names_after own (LocalForm xs) = own ++ xs
names_after own _ = own

abbrev pub names_behind : List (List ℕ) → List Stated → List (List ℕ)
names_behind own [] = own
names_behind own (l ∷ ls) = names_behind (names_after own l.form) ls

-- its parameters and its other locals
abbrev pub own_names : List Stated → List (List ℕ)
own_names above = names_behind [] above

abbrev pub returns_after : ℕ → LineForm → ℕ
returns_after n (ProcForm f ps m) = m
returns_after n _ = n

abbrev pub returns_behind : ℕ → List Stated → ℕ
returns_behind n [] = n
returns_behind n (l ∷ ls) = returns_behind (returns_after n l.form) ls

-- how many values it returns
abbrev pub own_returns : List Stated → ℕ
own_returns above = returns_behind 0 above

-- ---- the names that stand above

abbrev pub proc_names : List Stated → List (List ℕ)
proc_names above = map (λ p. p.name) (procs above)

abbrev pub label_names : List Stated → List (List ℕ)
label_names above = map (λ l. l.name) (labels above)

-- ---- counts

-- body lines, and the failures of asserts
abbrev pub points_on : LineForm → ℕ
points_on (Stating l s) = if is_assert s then 2 else 1
points_on ElseForm = 1
points_on EndForm = 1
points_on _ = 0

abbrev pub rules_by : StatementForm → ℕ
rules_by (AssertForm e) = 2
rules_by (IfForm c) = 2
rules_by (WhileForm c) = 2
rules_by (GotoForm xs) = length xs
rules_by s = 1

abbrev pub rules_on : LineForm → ℕ
rules_on (Stating l s) = rules_by s
rules_on ElseForm = 1
rules_on EndForm = 1
rules_on _ = 0

abbrev pub total : (LineForm → ℕ) → List Stated → ℕ
total f [] = 0
total f (l ∷ ls) = f l.form + total f ls

abbrev pub is_query : LineForm → Bool
is_query (QueryForm fails l) = true
is_query _ = false

abbrev pub is_proc : LineForm → Bool
is_proc (ProcForm f ps n) = true
is_proc _ = false

-- an `end` with no open block
abbrev pub closes_proc : LineForm → List Block → Bool
closes_proc EndForm [] = true
closes_proc _ _ = false

abbrev pub queries : List Stated → ℕ
queries ls = count_by (λ l. is_query l.form) ls

abbrev pub begun : List Stated → ℕ
begun ls = count_by (λ l. is_proc l.form) ls

abbrev pub closed : List Stated → ℕ
closed ls = count_by (λ l. closes_proc l.form l.place.blocks) ls
