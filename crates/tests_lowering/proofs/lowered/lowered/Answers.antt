use Rattle.tests_lowering.proofs.lowered.lowered.Goals as goal

pub lower-requires-clause-read : goal.lower-requires-clause-read
lower-requires-clause-read c =
    let is = c.read_programs_are_lawful.ensures c.args.text.now c.in-Ok.program c.in-Ok.ensures.program in
    is.read

pub lower-requires-clause-few_points : goal.lower-requires-clause-few_points
lower-requires-clause-few_points c =
    let is = c.read_programs_are_lawful.ensures c.args.text.now c.in-Ok.program c.in-Ok.ensures.program in
    is.few_points

pub lower-requires-clause-few_rules : goal.lower-requires-clause-few_rules
lower-requires-clause-few_rules c =
    let is = c.read_programs_are_lawful.ensures c.args.text.now c.in-Ok.program c.in-Ok.ensures.program in
    is.few_rules
