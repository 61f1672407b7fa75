use Rattle.tests_programs.proofs.reading.read.Goals as goal

pub returns : goal.returns
returns c = (c.read_programs_are_lawful.ensures c.args.text.now c.in_ok-program.program c.in_ok-program.ensures.program).read
