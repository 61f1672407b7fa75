-- What a text says, by its parts.
use Rattle.std.proofs.Common.{◌≡◌, ℕ, List, Option, None, Some, Bor, refl}
use Rattle.std.specs.Prelude.{option_map}
use Rattle.wpds_port.specs.declared.Word.{Word}
use Rattle.truth_tables.specs.Grammar.{Tree}
use Rattle.truth_tables.specs.Stacks.{tree_of}
use Rattle.document_forms.specs.Words.{name_of, each_of_some, ◌>>=◌}
use Rattle.document_forms.specs.Weights.{ValueForm, value_of}
use Rattle.document_forms.specs.Forms.{names_of}
use Rattle.program_forms.specs.Forms.{StatementForm, AssignForm, GotoForm, AssumeForm, AssertForm, CallForm, ReturnForm, IfForm, WhileForm, LineForm, GlobalForm, ProcForm, LocalForm, Stating, list_of, params_of, values_of, some_values_of}
use Rattle.program_lines.specs.Texts.{targets_said, statement_said, label_said, line_said}
use Rattle.program_lines.specs.declared.texts.StatementText.{StatementText}
use Rattle.program_lines.specs.declared.texts.StatementText.TheVariants.{Assign, Goto, Assume, Assert, Call, Return, If, While}
use Rattle.program_lines.specs.declared.texts.LineText.TheVariants.{Global, Proc, Local, Statement}

-- something is mapped
mapped : {A B : Type 0} (f : A → B) (o : Option A) (y : B) → option_map f o ≡ Some y → (x : A) × (o ≡ Some x) × (y ≡ f x)
mapped f None y e = cc
mapped f (Some x) y e = (x, refl, cc)

-- something comes of a part
bound : {A B : Type 0} (o : Option A) (f : A → Option B) (y : B) → (o >>= f) ≡ Some y → (x : A) × (o ≡ Some x) × (f x ≡ Some y)
bound None f y e = cc
bound (Some x) f y e = (x, refl, e)

-- ---- lines

pub globals_said : (names : List Word) (f : LineForm) → line_said (Global names) ≡ Some f
    → (xs : List (List ℕ)) × (names_of names ≡ Some xs) × (f ≡ GlobalForm xs)
globals_said names f e = mapped GlobalForm (names_of names) f e

pub locals_said : (names : List Word) (f : LineForm) → line_said (Local names) ≡ Some f
    → (xs : List (List ℕ)) × (names_of names ≡ Some xs) × (f ≡ LocalForm xs)
locals_said names f e = mapped LocalForm (names_of names) f e

pub proc_said : (name : Bor (List ℕ)) (params : List Word) (n : ℕ) (f : LineForm) → line_said (Proc name params n) ≡ Some f
    → (ps : List (List ℕ)) × (params_of params ≡ Some ps) × (f ≡ ProcForm name.now ps n)
proc_said name params n f e = mapped (λ ps. ProcForm name.now ps n) (params_of params) f e

pub stating_said : (label : Option (Bor (List ℕ))) (text : StatementText) (f : LineForm) → line_said (Statement label text) ≡ Some f
    → (s : StatementForm) × (statement_said text ≡ Some s) × (f ≡ Stating (label_said label) s)
stating_said label text f e = mapped (Stating (label_said label)) (statement_said text) f e

-- ---- statements

pub assign_said : (targets values : List Word) (s : StatementForm) → statement_said (Assign targets values) ≡ Some s
    → (xs : List (List ℕ)) × (vs : List ValueForm) × (list_of targets ≡ Some xs) × (values_of values ≡ Some vs) × (s ≡ AssignForm xs vs)
assign_said targets values s e =
    let t = bound (list_of targets) (λ xs. option_map (AssignForm xs) (values_of values)) s e in
    let v = mapped (AssignForm t.0) (values_of values) s t.2 in
    (t.0, v.0, t.1, v.1, v.2)

pub goto_said : (labels : List Word) (s : StatementForm) → statement_said (Goto labels) ≡ Some s
    → (xs : List (List ℕ)) × (each_of_some name_of labels ≡ Some xs) × (s ≡ GotoForm xs)
goto_said labels s e = mapped GotoForm (each_of_some name_of labels) s e

pub assume_said : (ws : List Word) (s : StatementForm) → statement_said (Assume ws) ≡ Some s → (t : Tree) × (tree_of ws ≡ Some t) × (s ≡ AssumeForm t)
assume_said ws s e = mapped AssumeForm (tree_of ws) s e

pub assert_said : (ws : List Word) (s : StatementForm) → statement_said (Assert ws) ≡ Some s → (t : Tree) × (tree_of ws ≡ Some t) × (s ≡ AssertForm t)
assert_said ws s e = mapped AssertForm (tree_of ws) s e

pub call_said : (targets : Option (List Word)) (callee : Bor (List ℕ)) (arguments : List Word) (s : StatementForm)
    → statement_said (Call targets callee arguments) ≡ Some s
    → (xs : List (List ℕ)) × (vs : List ValueForm) × (targets_said targets ≡ Some xs) × (some_values_of arguments ≡ Some vs) × (s ≡ CallForm xs callee.now vs)
call_said targets callee arguments s e =
    let t = bound (targets_said targets) (λ xs. option_map (CallForm xs callee.now) (some_values_of arguments)) s e in
    let v = mapped (CallForm t.0 callee.now) (some_values_of arguments) s t.2 in
    (t.0, v.0, t.1, v.1, v.2)

pub return_said : (values : List Word) (s : StatementForm) → statement_said (Return values) ≡ Some s
    → (vs : List ValueForm) × (some_values_of values ≡ Some vs) × (s ≡ ReturnForm vs)
return_said values s e = mapped ReturnForm (some_values_of values) s e

pub if_said : (ws : List Word) (s : StatementForm) → statement_said (If ws) ≡ Some s → (c : ValueForm) × (value_of ws ≡ Some c) × (s ≡ IfForm c)
if_said ws s e = mapped IfForm (value_of ws) s e

pub while_said : (ws : List Word) (s : StatementForm) → statement_said (While ws) ≡ Some s → (c : ValueForm) × (value_of ws ≡ Some c) × (s ≡ WhileForm c)
while_said ws s e = mapped WhileForm (value_of ws) s e
