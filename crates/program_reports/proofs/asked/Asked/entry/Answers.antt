use Rattle.std.proofs.Common.{sym, ap, subst}
use Rattle.boolean_machine.specs.Machine.{at_line}
use Rattle.program_laws.specs.ReadPrograms.{IsPoint}
use Rattle.program_reports.specs.private.Asked.{program_in}
use Rattle.program_reports.proofs.asked.Asked.entry.Goals as goal

pub returns-clause-value : goal.returns-clause-value
returns-clause-value c = ap at_line c.main_line.ensures

pub returns-clause-point : goal.returns-clause-point
returns-clause-point c =
    let p = program_in c.args.self.now in
    subst (IsPoint p) (sym (ap at_line c.main_line.ensures)) (c.points_have_symbols.ensures.entry p c.requires.program.lawful)
