use Rattle.tests_program_traces.proofs.texts.lowered.Goals as goal

pub lower-requires-clause-read : goal.lower-requires-clause-read
lower-requires-clause-read c =
    let is = c.read_programs_are_lawful.ensures c.args.text.now c.in_ok-program.program c.in_ok-program.ensures.program in
    is.read

pub lower-requires-clause-few_points : goal.lower-requires-clause-few_points
lower-requires-clause-few_points c =
    let is = c.read_programs_are_lawful.ensures c.args.text.now c.in_ok-program.program c.in_ok-program.ensures.program in
    is.few_points

pub lower-requires-clause-few_rules : goal.lower-requires-clause-few_rules
lower-requires-clause-few_rules c =
    let is = c.read_programs_are_lawful.ensures c.args.text.now c.in_ok-program.program c.in_ok-program.ensures.program in
    is.few_rules

pub returns-clause-read : goal.returns-clause-read
returns-clause-read c =
    let is = c.read_programs_are_lawful.ensures c.args.text.now c.in_ok-program.program c.in_ok-program.ensures.program in
    is.read
