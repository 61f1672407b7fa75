use Rattle.std.proofs.Common.{◌++◌, refl, sym, ap, ◌∙◌}
use Rattle.document_forms.specs.Names.{once}
use Rattle.program_lines.specs.Texts.{line_said}
use Rattle.program_lines.proofs.CallerLemmas.{globals_said, proc_said, stating_said}
use Rattle.program_tables.proofs.TableLemmas.{names_are}
use Rattle.program_tables.proofs.WalkLemmas.{takes_globals}
use Rattle.program_tables.proofs.tables.Tables.take.Goals as goal

pub returns-in_ok-add_names-in-Global : goal.returns-in_ok-add_names-in-Global
returns-in_ok-add_names-in-Global c = λ ls l h e n b.
    let s = globals_said c.in-Global.names l.form (ap line_said (sym c.in-Global.is) ∙ e) in
    takes_globals ls l c.args.self.now _ s.0 h s.2
    (c.in_ok-add_names-in-Global.ensures.names ∙ ap (λ xs. once (c.args.self.now.globals ++ xs)) (names_are c.in-Global.names s.0 s.1))
    refl refl refl

pub returns-in-Proc : goal.returns-in-Proc
returns-in-Proc c = λ ls l h e n b.
    let s = proc_said c.in-Proc.name c.in-Proc.params c.in-Proc.returns l.form (ap line_said (sym c.in-Proc.is) ∙ e) in
    c.take_proc.ensures ls l s.0 h s.1 s.2 b

pub returns-in-Statement : goal.returns-in-Statement
returns-in-Statement c = λ ls l h e n b.
    let s = stating_said c.in-Statement.label c.in-Statement.statement l.form (ap line_said (sym c.in-Statement.is) ∙ e) in
    c.take_statement.ensures ls l s.0 h s.1 s.2 n b
