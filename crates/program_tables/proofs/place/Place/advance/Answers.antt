use Rattle.std.proofs.Common.{sym, ap, ◌∙◌}
use Rattle.std.proofs.lemmas.Result.{IfOk-equal}
use Rattle.program_forms.specs.Places.{next_place}
use Rattle.program_lines.specs.Texts.{line_said}
use Rattle.program_lines.proofs.CallerLemmas.{proc_said, stating_said}
use Rattle.program_tables.proofs.place.Place.advance.Goals as goal

pub returns-in-Proc : goal.returns-in-Proc
returns-in-Proc c = λ f e.
    let s = proc_said c.in-Proc.name c.in-Proc.params c.in-Proc.returns f (ap line_said (sym c.in-Proc.is) ∙ e) in
    IfOk-equal c.begin.result c.begin.new.self _ _ (c.begin.ensures c.in-Proc.name.now s.0 c.in-Proc.returns)
    (ap (next_place c.args.self.now) (sym s.2))

pub returns-in-Statement : goal.returns-in-Statement
returns-in-Statement c = λ f e.
    let s = stating_said c.in-Statement.label c.in-Statement.statement f (ap line_said (sym c.in-Statement.is) ∙ e) in
    IfOk-equal c.state.result c.state.new.self _ _ (c.state.ensures s.0 s.1) (ap (next_place c.args.self.now) (sym s.2))
