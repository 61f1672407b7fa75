use Rattle.std.proofs.Common.{◌≡◌, List, [], ◌++◌, length, map, replicate, sym, ap, ap₂, subst, ◌∙◌, arith}
use Rattle.std.specs.Prelude.{OnOk}
use Rattle.std.proofs.lemmas.List.{length-map}
use Rattle.boolean_programs.specs.declared.program.Proc.{Proc}
use Rattle.boolean_programs.specs.declared.statement.Choice.TheVariants.{Star}
use Rattle.boolean_programs.specs.declared.statement.Statement.TheVariants.{Assign, Call, Return}
use Rattle.boolean_programs.specs.Lists.{Each}
use Rattle.boolean_programs.specs.Programs.{procedure_of}
use Rattle.boolean_machine.specs.Machine.{at_line, action, returns_of}
use Rattle.lowering_laws.specs.Lowering.{Assigns, Planned, line_rules, step_rule, jump_rule, call_rule, return_rule, symbol, slot_of, in_slots}
use Rattle.lowering_laws.specs.Plans.{IsWithin}
use Rattle.boolean_lowering.specs.private.Spots.{instruction_of}
use Rattle.boolean_lowering.specs.private.Ways.{way_of}
use Rattle.boolean_lowering.specs.private.Made.{AreAdded, program_in}
use Rattle.boolean_lowering.proofs.LineLemmas.{only_one, assign_rules, call_rules, return_rules, end_rules, jump_rules, callee_below, callee_found}
use Rattle.boolean_lowering.proofs.lines.add_line.Goals as goal

pub add_assignment-requires-clause-within : goal.add_assignment-requires-clause-within
add_assignment-requires-clause-within c =
    let p = program_in c.args.making.now in
    let i = instruction_of c.args.spot.now in
    let ts = c.as_slice-targets.result.now in
    let vs = c.as_slice.result.now in
    let said : i.statement ≡ Assign ts vs = c.in-Assign.is ∙ ap₂ Assign (sym c.as_slice-targets.ensures) (sym c.as_slice.ensures) in
    only_one (IsWithin p) (line_rules p c.args.head i (action p i)) (step_rule c.args.head (symbol p (at_line i.next)) (Assigns (map (slot_of p) ts) (in_slots p vs))) (assign_rules p c.args.head i ts vs said) c.requires.within

pub bounds-as_slice-callee : goal.bounds-as_slice-callee
bounds-as_slice-callee c =
    let program = c.args.making.now.program.now in
    let below = callee_below program c.requires.making.read c.args.head (instruction_of c.args.spot.now) c.requires.there c.in-Call.targets c.in-Call.callee c.in-Call.arguments c.in-Call.is in
    let same = ap (λ (qs : List Proc). length qs) c.as_slice-in-Call.ensures in
    omega arith

pub add_call-requires-clause-within : goal.add_call-requires-clause-within
add_call-requires-clause-within c =
    let program = c.args.making.now.program.now in
    let p = program_in c.args.making.now in
    let i = instruction_of c.args.spot.now in
    let f = c.in-Call.callee in
    let ts = c.as_slice-targets-in-Call.result.now in
    let vs = c.as_slice-in-Call-2.result.now in
    let r = c.index-as_slice-callee.result in
    let below = callee_below program c.requires.making.read c.args.head i c.requires.there c.in-Call.targets f c.in-Call.arguments c.in-Call.is in
    let found = callee_found program c.as_slice-in-Call.result.now f r c.as_slice-in-Call.ensures below c.index-as_slice-callee.is in
    let said : i.statement ≡ Call ts f vs = c.in-Call.is ∙ ap₂ (λ a b. Call a f b) (sym c.as_slice-targets-in-Call.ensures) (sym c.as_slice-in-Call-2.ensures) in
    only_one (IsWithin p) (line_rules p c.args.head i (action p i)) (call_rule p c.args.head i ts (procedure_of r) vs) (call_rules p c.args.head i ts f vs (procedure_of r) said found) c.requires.within

pub add_return-requires-clause-within : goal.add_return-requires-clause-within
add_return-requires-clause-within c =
    let p = program_in c.args.making.now in
    let i = instruction_of c.args.spot.now in
    let vs = c.as_slice-in-Return.result.now in
    let said : i.statement ≡ Return vs = c.in-Return.is ∙ ap Return (sym c.as_slice-in-Return.ensures) in
    only_one (IsWithin p) (line_rules p c.args.head i (action p i)) (return_rule p c.args.head (vs ++ replicate 0 Star)) (return_rules p c.args.head i vs said) c.requires.within

pub add_return-requires-in-EndProc-clause-within : goal.add_return-requires-in-EndProc-clause-within
add_return-requires-in-EndProc-clause-within c =
    let p = program_in c.args.making.now in
    let i = instruction_of c.args.spot.now in
    subst (λ n. IsWithin p (return_rule p c.args.head (replicate n Star))) (sym c.returns_of-free.ensures)
    (only_one (IsWithin p) (line_rules p c.args.head i (action p i)) (return_rule p c.args.head ([] ++ replicate (returns_of p i.procedure) Star)) (end_rules p c.args.head i c.in-EndProc.is) c.requires.within)

pub add_ways-requires : goal.add_ways-requires
add_ways-requires c =
    let p = program_in c.args.making.now in
    let k = c.args.head in
    let i = instruction_of c.args.spot.now in
    let ways = c.deref.result.now in
    let rules = jump_rules p k i c.in_default.not-Assign c.in_default.not-Call c.in_default.not-Return c.in_default.not-EndProc in
    let same : line_rules p k i (action p i) ≡ map (jump_rule p k) (map way_of ways) =
    rules ∙ ap (map (jump_rule p k)) (sym (ap (map way_of) c.deref.ensures.value ∙ c.in_ok-ways-in_default.ensures (returns_of p i.procedure))) in
    let long : length (line_rules p k i (action p i)) ≡ length ways =
    ap (λ (ts : List Planned). length ts) same ∙ length-map (map way_of ways) (jump_rule p k) ∙ length-map ways way_of in
    let room = c.requires.room in
    record {
      making = c.requires.making;
      system = c.requires.system;
      within = subst (Each (IsWithin p)) same c.requires.within;
      room = omega arith;
    }

pub returns-in-Call : goal.returns-in-Call
returns-in-Call c =
    let program = c.args.making.now.program.now in
    let p = program_in c.args.making.now in
    let i = instruction_of c.args.spot.now in
    let f = c.in-Call.callee in
    let ts = c.as_slice-targets-in-Call.result.now in
    let vs = c.as_slice-in-Call-2.result.now in
    let r = c.index-as_slice-callee.result in
    let below = callee_below program c.requires.making.read c.args.head i c.requires.there c.in-Call.targets f c.in-Call.arguments c.in-Call.is in
    let found = callee_found program c.as_slice-in-Call.result.now f r c.as_slice-in-Call.ensures below c.index-as_slice-callee.is in
    let said : i.statement ≡ Call ts f vs = c.in-Call.is ∙ ap₂ (λ a b. Call a f b) (sym c.as_slice-targets-in-Call.ensures) (sym c.as_slice-in-Call-2.ensures) in
    subst (λ us. OnOk c.add_call.result (AreAdded p c.args.system.now c.add_call.new.system us)) (sym (call_rules p c.args.head i ts f vs (procedure_of r) said found)) c.add_call.ensures
