use Rattle.wpds_app.specs.declared.input.Input.TheVariants.{Program}
use Rattle.wpds_app.proofs.reply.reply_on_program.Goals as goal

pub report_on_program-requires-clause-program : goal.report_on_program-requires-clause-program
report_on_program-requires-clause-program g c κs within =
    c.read_programs_are_lawful.ensures c.args.input.now c.args.program.now c.requires.program.1

pub returns : goal.returns
returns g c = (Program c.args.program.now, c.requires.program, c.in_ok-text.ensures)
