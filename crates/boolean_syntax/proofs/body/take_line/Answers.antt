use Rattle.std.proofs.Common.{sym, ap, ◌∙◌}
use Rattle.program_lines.proofs.CallerLemmas.{stating_said}
use Rattle.program_lines.specs.Texts.{line_said}
use Rattle.boolean_syntax.proofs.body.take_line.Goals as goal

pub returns-in-Statement : goal.returns-in-Statement
returns-in-Statement c = λ w above l t h said place number.
    let p = stating_said c.in-Statement.label c.in-Statement.statement l.form (ap line_said (sym c.in-Statement.is) ∙ said) in
    c.take_statement.ensures w above l p.0 t h p.1 p.2 place number
