use Rattle.std.proofs.Common.{Some, None, sym, ◌∙◌, subst}
use Rattle.std.specs.Prelude.{IfOk}
use Rattle.program_lines.specs.Texts.{IsRead, statement_said}
use Rattle.program_lines.proofs.LineLemmas.{at_becomes}
use Rattle.program_lines.proofs.statements.read_statement.Goals as goal

pub returns-in-Some : goal.returns-in-Some
returns-in-Some c =
    let cut = c.split_once-front in
    subst (λ form. IfOk c.read_becomes.result (IsRead form statement_said))
    (sym (at_becomes c.args.words.now cut.result.0 (Some c.in-Some.back) cut.ensures.before (sym c.in-Some.is ∙ cut.ensures.behind)))
    c.read_becomes.ensures

pub returns-in-None : goal.returns-in-None
returns-in-None c =
    let cut = c.split_once-front in
    subst (λ form. IfOk c.read_worded.result (IsRead form statement_said))
    (sym (at_becomes c.args.words.now cut.result.0 None cut.ensures.before (sym c.in-None.is ∙ cut.ensures.behind)))
    c.read_worded.ensures
