use Rattle.std.proofs.Common.{◌≡◌, ◌+◌, length, ap, ◌∙◌, arith}
use Rattle.boolean_programs.specs.Programs.{width, procedure_of, program_of}
use Rattle.boolean_meaning.specs.Bits.{bit_of}
use Rattle.boolean_meaning.proofs.ValueLemmas.{length_listed, length_names}
use Rattle.boolean_meaning.proofs.FitLemmas.{assign_over, call_over, return_over, jump_over, free_over}
use Rattle.boolean_meaning.proofs.stepping.act.Goals as goal

pub picked-requires : goal.picked-requires
picked-requires c =
    let names : length c.as_slice-old.result.now ≡ c.len.result + c.width.result =
    ap (λ bs. length bs) (c.as_slice-old.ensures ∙ c.bits_of_names-names.ensures) ∙ length_names c.len.result c.width.result (bit_of c.args.state.now.globals) (bit_of c.args.locals) in
    let globals = c.len.ensures in
    let locals = c.width.ensures in
    let long : length c.as_slice-old.result.now ≡ length c.args.program.now.globals + width (procedure_of c.args.spot.now.owner.now) = omega arith in
    assign_over (program_of c.args.program.now) c.requires.spot.0 c.args.spot.now c.requires.spot.1 (length c.as_slice-old.result.now) long c.in-Assign.targets c.in-Assign.values c.as_slice.result.now c.in-Assign.is c.as_slice.ensures

pub set_names-requires-clause-globals : goal.set_names-requires-clause-globals
set_names-requires-clause-globals c =
    let names : length c.as_slice-old.result.now ≡ c.len.result + c.width.result =
    ap (λ bs. length bs) (c.as_slice-old.ensures ∙ c.bits_of_names-names.ensures) ∙ length_names c.len.result c.width.result (bit_of c.args.state.now.globals) (bit_of c.args.locals) in
    let globals = c.len.ensures in
    let locals = c.width.ensures in
    let long : length c.as_slice-old.result.now ≡ length c.args.program.now.globals + width (procedure_of c.args.spot.now.owner.now) = omega arith in
    let got : length c.written-names.result ≡ length c.as_slice-old.result.now =
    ap (λ bs. length bs) c.written-names.ensures
    ∙ length_listed (length c.as_slice-old.result.now) _ in
    omega arith

pub call-requires-clause-over : goal.call-requires-clause-over
call-requires-clause-over c =
    let names : length c.as_slice-old.result.now ≡ c.len.result + c.width.result =
    ap (λ bs. length bs) (c.as_slice-old.ensures ∙ c.bits_of_names-names.ensures) ∙ length_names c.len.result c.width.result (bit_of c.args.state.now.globals) (bit_of c.args.locals) in
    let globals = c.len.ensures in
    let locals = c.width.ensures in
    let long : length c.as_slice-old.result.now ≡ length c.args.program.now.globals + width (procedure_of c.args.spot.now.owner.now) = omega arith in
    call_over (program_of c.args.program.now) c.requires.spot.0 c.args.spot.now c.requires.spot.1 (length c.as_slice-old.result.now) long c.in-Call.targets c.in-Call.callee c.in-Call.arguments c.in-Call.is

pub end-requires-clause-over : goal.end-requires-clause-over
end-requires-clause-over c =
    let names : length c.as_slice-old.result.now ≡ c.len.result + c.width.result =
    ap (λ bs. length bs) (c.as_slice-old.ensures ∙ c.bits_of_names-names.ensures) ∙ length_names c.len.result c.width.result (bit_of c.args.state.now.globals) (bit_of c.args.locals) in
    let globals = c.len.ensures in
    let locals = c.width.ensures in
    let long : length c.as_slice-old.result.now ≡ length c.args.program.now.globals + width (procedure_of c.args.spot.now.owner.now) = omega arith in
    return_over (program_of c.args.program.now) c.requires.spot.0 c.args.spot.now c.requires.spot.1 (length c.as_slice-old.result.now) long c.in-Return.values c.as_slice-in-Return.result.now c.in-Return.is c.as_slice-in-Return.ensures

pub end-requires-in-EndProc-clause-over : goal.end-requires-in-EndProc-clause-over
end-requires-in-EndProc-clause-over c = free_over (length c.as_slice-old.result.now) c.args.spot.now.owner.now.returns

pub point_taken-requires : goal.point_taken-requires
point_taken-requires c =
    let names : length c.as_slice-old.result.now ≡ c.len.result + c.width.result =
    ap (λ bs. length bs) (c.as_slice-old.ensures ∙ c.bits_of_names-names.ensures) ∙ length_names c.len.result c.width.result (bit_of c.args.state.now.globals) (bit_of c.args.locals) in
    let globals = c.len.ensures in
    let locals = c.width.ensures in
    let long : length c.as_slice-old.result.now ≡ length c.args.program.now.globals + width (procedure_of c.args.spot.now.owner.now) = omega arith in
    jump_over (program_of c.args.program.now) c.requires.spot.0 c.args.spot.now c.requires.spot.1 (length c.as_slice-old.result.now) long
