use Rattle.std.proofs.Common.{◌≡◌, ◌+◌, ◌≤◌, List, map, ap, ◌∙◌, arith}
use Rattle.boolean_programs.specs.declared.program.Proc.{Proc}
use Rattle.boolean_programs.specs.Programs.{Procedure, procedure_of, program_of, width}
use Rattle.boolean_programs.specs.Structure.{largest, return_slots}
use Rattle.lowering_laws.specs.Lowering.{variables, local_slots}
use Rattle.boolean_lowering.proofs.LayoutLemmas.{few_before, each_narrow}
use Rattle.boolean_lowering.proofs.layout.Layout.of.Goals as goal

pub overflow_cast-result-2 : goal.overflow_cast-result-2
overflow_cast-result-2 c =
    let p = program_of c.args.program.now in
    let few : variables p ≤ 24 = c.plans_are_within.ensures.variables p 24 (few_before p c.requires) (each_narrow p c.requires) in
    let names : c.most_names.result ≡ local_slots p = c.most_names.ensures ∙ ap (λ (qs : List Proc). largest (map width (map procedure_of qs))) c.as_slice-procs.ensures in
    omega arith

pub invariant_of-result : goal.invariant_of-result
invariant_of-result c =
    let p = program_of c.args.program.now in
    let few : variables p ≤ 24 = c.plans_are_within.ensures.variables p 24 (few_before p c.requires) (each_narrow p c.requires) in
    let globals : c.len.result ≡ p.globals = c.len.ensures in
    let returned : c.most_returned.result ≡ return_slots p = c.most_returned.ensures ∙ ap (λ (qs : List Proc). largest (map (λ (q : Procedure). q.returns) (map procedure_of qs))) c.as_slice-procs.ensures in
    let names : c.most_names.result ≡ local_slots p = c.most_names.ensures ∙ ap (λ (qs : List Proc). largest (map width (map procedure_of qs))) c.as_slice-procs.ensures in
    let all : c.len.result + c.most_returned.result + c.most_names.result ≤ 24 = omega arith in
    record { few = all }
