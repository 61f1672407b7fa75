use Rattle.std.proofs.Common.{Some, sym, subst}
use Rattle.std.specs.Prelude.{IfOk}
use Rattle.program_lines.specs.Texts.{IsRead, line_said}
use Rattle.program_tables.proofs.JudgingLemmas.{words_read}
use Rattle.program_tables.proofs.judging.read_line.Goals as goal

pub returns-in-Some : goal.returns-in-Some
returns-in-Some c =
    subst (λ form. IfOk c.read_form.result (IsRead form line_said))
    (sym (words_read c.args.line.now (Some c.in-Some.words) c.in-Some.ensures)) c.read_form.ensures
