-- The rules of a line by its statement.
use Rattle.std.proofs.Common.{◌≡◌, ℕ, ◌+◌, ◌<◌, List, [], ◌∷◌, ◌++◌, length, map, replicate, get_or, refl, sym, ap, ◌∙◌, subst}
use Rattle.std.specs.Prelude.{Some, slice_get, unwrap_or}
use Rattle.std.proofs.lemmas.List.{append-nil}
use Rattle.boolean_programs.specs.declared.statement.Choice.{Choice}
use Rattle.boolean_programs.specs.declared.statement.Choice.TheVariants.{Star, Is}
use Rattle.boolean_programs.specs.declared.statement.Statement.{Statement}
use Rattle.boolean_programs.specs.declared.statement.Statement.TheVariants.{Skip, Assign, Goto, Assume, Assert, Call, Return, If, Else, While, EndIf, EndWhile, EndProc}
use Rattle.boolean_programs.specs.declared.program.Proc.{Proc}
use Rattle.boolean_programs.specs.declared.program.Program.{Program as ParsedProgram}
use Rattle.boolean_programs.specs.Programs.{Procedure, Program, procedure_of, program_of, width}
use Rattle.boolean_programs.specs.Lines.{Instruction, code}
use Rattle.boolean_programs.specs.Lists.{Each}
use Rattle.boolean_programs.specs.Structure.{IsRead, FitsStatement}
use Rattle.boolean_machine.specs.Machine.{at_line, action, action_of, on_choice, returns_of}
use Rattle.boolean_machine.proofs.CallerLemmas.{get_map, get_mapped}
use Rattle.lowering_laws.specs.Lowering.{Assigns, Planned, line_rules, step_rule, jump_rule, call_rule, return_rule, slot_of, in_slots, symbol}
use Rattle.boolean_lowering.specs.private.Ways.{ways_of}
use Rattle.boolean_lowering.proofs.ListLemmas.{get_below, get_is}

module _ (p : Program) (k : ℕ) (i : Instruction) where
  abbrev rules_by : Statement → List Planned
  rules_by s = line_rules p k i (action_of (returns_of p i.procedure) i s)

  pub assign_rules : (ts : List ℕ) (vs : List Choice) → i.statement ≡ Assign ts vs
      → line_rules p k i (action p i) ≡ step_rule k (symbol p (at_line i.next)) (Assigns (map (slot_of p) ts) (in_slots p vs)) ∷ []
  assign_rules ts vs e = ap rules_by e

  pub call_rules : (ts : List ℕ) (f : ℕ) (vs : List Choice) (q : Procedure) → i.statement ≡ Call ts f vs → slice_get p.procs f ≡ Some q
      → line_rules p k i (action p i) ≡ call_rule p k i ts q vs ∷ []
  call_rules ts f vs q e found = ap rules_by e ∙ ap (λ o. call_rule p k i ts (unwrap_or o (record { params = 0; locals = 0; returns = 0; body = [] })) vs ∷ []) found

  pub return_rules : (vs : List Choice) → i.statement ≡ Return vs → line_rules p k i (action p i) ≡ return_rule p k (vs ++ replicate 0 Star) ∷ []
  return_rules vs e = ap rules_by e ∙ ap (λ ws. return_rule p k ws ∷ []) (sym (append-nil vs))

  pub end_rules : i.statement ≡ EndProc → line_rules p k i (action p i) ≡ return_rule p k ([] ++ replicate (returns_of p i.procedure) Star) ∷ []
  end_rules e = ap rules_by e

  choice_rules : (c : Choice) (a b : _) → line_rules p k i (on_choice c a b) ≡ map (jump_rule p k) (ways_of (on_choice c a b))
  choice_rules Star a b = refl
  choice_rules (Is e) a b = refl

  by_statement : (s : Statement) → ((ts : List ℕ) (vs : List Choice) → s ≡ Assign ts vs → ⊥) → ((ts : List ℕ) (f : ℕ) (vs : List Choice) → s ≡ Call ts f vs → ⊥) → ((vs : List Choice) → s ≡ Return vs → ⊥) → (s ≡ EndProc → ⊥)
      → rules_by s ≡ map (jump_rule p k) (ways_of (action_of (returns_of p i.procedure) i s))
  by_statement Skip a c r e = refl
  by_statement (Assign ts vs) a c r e = absurd (a ts vs refl)
  by_statement (Goto lines) a c r e = refl
  by_statement (Assume f) a c r e = refl
  by_statement (Assert f) a c r e = refl
  by_statement (Call ts f vs) a c r e = absurd (c ts f vs refl)
  by_statement (Return vs) a c r e = absurd (r vs refl)
  by_statement (If f) a c r e = choice_rules f (at_line i.next) (at_line i.other)
  by_statement Else a c r e = refl
  by_statement (While f) a c r e = choice_rules f (at_line i.next) (at_line i.other)
  by_statement EndIf a c r e = refl
  by_statement EndWhile a c r e = refl
  by_statement EndProc a c r e = absurd (e refl)

  -- a line that does nothing else jumps
  pub jump_rules : ((ts : List ℕ) (vs : List Choice) → i.statement ≡ Assign ts vs → ⊥) → ((ts : List ℕ) (f : ℕ) (vs : List Choice) → i.statement ≡ Call ts f vs → ⊥) → ((vs : List Choice) → i.statement ≡ Return vs → ⊥) → (i.statement ≡ EndProc → ⊥)
      → line_rules p k i (action p i) ≡ map (jump_rule p k) (ways_of (action p i))
  jump_rules = by_statement i.statement

-- what holds of each of one rule holds of it
pub only_one : (P : Planned → Type 0) (ts : List Planned) (t : Planned) → ts ≡ t ∷ [] → Each P ts → P t
only_one P ts t e each = subst (Each P) e each 0 t refl

-- the procedure of a call is there
pub callee_there : (p : Program) → IsRead p → (k : ℕ) (i : Instruction) → slice_get (code p) k ≡ Some i → (ts : List ℕ) (f : ℕ) (vs : List Choice) → i.statement ≡ Call ts f vs → (q : Procedure) × (slice_get p.procs f ≡ Some q)
callee_there p read k i there ts f vs e =
    let line = read.lines k i there in
    let fits : FitsStatement p line.owner (p.globals + width line.owner) (Call ts f vs) = subst (FitsStatement p line.owner (p.globals + width line.owner)) e line.fits in
    (fits.0, fits.1)

pub callee_below : (program : ParsedProgram) → IsRead (program_of program) → (k : ℕ) (i : Instruction) → slice_get (code (program_of program)) k ≡ Some i → (ts : List ℕ) (f : ℕ) (vs : List Choice) → i.statement ≡ Call ts f vs → f < length program.procs
callee_below program read k i there ts f vs e =
    let called = callee_there (program_of program) read k i there ts f vs e in
    let at = get_mapped procedure_of program.procs f called.0 called.1 in
    get_below program.procs f at.0 at.1

pub callee_found : (program : ParsedProgram) (qs : List Proc) (f : ℕ) (r : Proc) → qs ≡ program.procs → f < length program.procs → r ≡ get_or qs f r → slice_get (program_of program).procs f ≡ Some (procedure_of r)
callee_found program qs f r same below e =
    get_map procedure_of program.procs f r (get_is program.procs f r below (e ∙ ap (λ (xs : List Proc). get_or xs f r) same))
