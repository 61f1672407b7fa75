use Rattle.std.proofs.Common.{◌≡◌, sym, ap, ◌∙◌}
use Rattle.std.specs.Prelude.{List, Some, slice_get, option_map}
use Rattle.std.proofs.lemmas.Option.{slice_get-map}
use Rattle.boolean_programs.specs.declared.program.Proc.{Proc}
use Rattle.boolean_programs.specs.Programs.{program_of, procedure_of}
use Rattle.boolean_meaning.specs.private.Spots.{instruction_of}
use Rattle.boolean_meaning.proofs.PlaceLemmas.{get_is}
use Rattle.boolean_meaning.proofs.SpotLemmas.{find_here, find_later, spot_is}
use Rattle.boolean_meaning.proofs.lines.find.Goals as goal

pub returns-in-Some-clause-at : goal.returns-in-Some-clause-at
returns-in-Some-clause-at c =
    let procs = c.args.program.now.procs in
    let k = c.loop-procedure.procedure in
    let q = c.owner-item.result in
    let items = c.as_slice-owner-items.ensures in
    let there = get_is c.as_slice-owner-items.result.now k q c.loop-procedure-test.true c.owner-item.is in
    let e : slice_get procs k ≡ Some q = ap (λ (qs : List Proc). slice_get qs k) (sym items) ∙ there in
    sym (c.loop-procedure.invariant ∙ find_here procs k q c.args.number (instruction_of c.in-Some.spot) e (sym c.in-Some.ensures.at))

pub returns-in-Some-clause-spot : goal.returns-in-Some-clause-spot
returns-in-Some-clause-spot c = λ read.
    let procs = c.args.program.now.procs in
    let k = c.loop-procedure.procedure in
    let q = c.owner-item.result in
    let items = c.as_slice-owner-items.ensures in
    let there = get_is c.as_slice-owner-items.result.now k q c.loop-procedure-test.true c.owner-item.is in
    let e : slice_get procs k ≡ Some q = ap (λ (qs : List Proc). slice_get qs k) (sym items) ∙ there in
    let at = c.loop-procedure.invariant ∙ find_here procs k q c.args.number (instruction_of c.in-Some.spot) e (sym c.in-Some.ensures.at) in
    let p = program_of c.args.program.now in
    spot_is p read c.args.number c.in-Some.spot at
    (ap (slice_get p.procs) c.in-Some.ensures.procedure ∙ slice_get-map procedure_of procs k ∙ ap (option_map procedure_of) e
    ∙ ap (λ (r : Proc). Some (procedure_of r)) (sym c.in-Some.ensures.owner))

pub loop-procedure-preserved : goal.loop-procedure-preserved
loop-procedure-preserved c =
    let procs = c.args.program.now.procs in
    let k = c.loop-procedure.procedure in
    let q = c.owner-item.result in
    let items = c.as_slice-owner-items.ensures in
    let there = get_is c.as_slice-owner-items.result.now k q c.loop-procedure-test.true c.owner-item.is in
    let e : slice_get procs k ≡ Some q = ap (λ (qs : List Proc). slice_get qs k) (sym items) ∙ there in
    c.loop-procedure.invariant ∙ find_later procs k q c.args.number e (sym c.in-None.ensures.at)
