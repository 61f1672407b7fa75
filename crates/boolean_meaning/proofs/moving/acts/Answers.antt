use Rattle.std.proofs.Common.{◌≡◌, ◌+◌, length, ap, ◌∙◌}
use Rattle.boolean_programs.specs.Programs.{width, procedure_of, program_of}
use Rattle.boolean_meaning.proofs.FitLemmas.{names_long, assign_over, call_over, return_over, jump_over, free_over}
use Rattle.boolean_meaning.proofs.moving.acts.Goals as goal

pub goes_on-requires-clause-over : goal.goes_on-requires-clause-over
goes_on-requires-clause-over c =
    let p = program_of c.args.program.now in
    let spot = c.args.spot.now in
    let at = c.requires.spot in
    let old = c.as_slice-old.result.now in
    let long : length old ≡ p.globals + width (procedure_of spot.owner.now) =
    ap (λ bs. length bs) (c.as_slice-old.ensures ∙ c.names_in-names.ensures) ∙ names_long p at.0 spot at.1 c.args.from.now.globals c.args.top.locals in
    assign_over p at.0 spot at.1 (length old) long c.in-Assign.targets c.in-Assign.values c.as_slice-in-Assign.result.now c.in-Assign.is c.as_slice-in-Assign.ensures

pub enters-requires-clause-over : goal.enters-requires-clause-over
enters-requires-clause-over c =
    let p = program_of c.args.program.now in
    let spot = c.args.spot.now in
    let at = c.requires.spot in
    let old = c.as_slice-old.result.now in
    let long : length old ≡ p.globals + width (procedure_of spot.owner.now) =
    ap (λ bs. length bs) (c.as_slice-old.ensures ∙ c.names_in-names.ensures) ∙ names_long p at.0 spot at.1 c.args.from.now.globals c.args.top.locals in
    call_over p at.0 spot at.1 (length old) long c.in-Call.targets c.in-Call.callee c.in-Call.arguments c.in-Call.is

pub returns-requires-clause-over : goal.returns-requires-clause-over
returns-requires-clause-over c =
    let p = program_of c.args.program.now in
    let spot = c.args.spot.now in
    let at = c.requires.spot in
    let old = c.as_slice-old.result.now in
    let long : length old ≡ p.globals + width (procedure_of spot.owner.now) =
    ap (λ bs. length bs) (c.as_slice-old.ensures ∙ c.names_in-names.ensures) ∙ names_long p at.0 spot at.1 c.args.from.now.globals c.args.top.locals in
    return_over p at.0 spot at.1 (length old) long c.in-Return.values c.as_slice-in-Return.result.now c.in-Return.is c.as_slice-in-Return.ensures

pub returns-requires-in-EndProc-clause-over : goal.returns-requires-in-EndProc-clause-over
returns-requires-in-EndProc-clause-over c = free_over (length c.as_slice-old.result.now) c.args.spot.now.owner.now.returns

pub jumps-requires : goal.jumps-requires
jumps-requires c =
    let p = program_of c.args.program.now in
    let spot = c.args.spot.now in
    let at = c.requires.spot in
    let old = c.as_slice-old.result.now in
    let long : length old ≡ p.globals + width (procedure_of spot.owner.now) =
    ap (λ bs. length bs) (c.as_slice-old.ensures ∙ c.names_in-names.ensures) ∙ names_long p at.0 spot at.1 c.args.from.now.globals c.args.top.locals in
    jump_over p at.0 spot at.1 (length old) long
