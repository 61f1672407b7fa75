use Rattle.std.proofs.Common.{sym, subst}
use Rattle.std.specs.Prelude.{IfOk}
use Rattle.program_lines.specs.Texts.{IsRead, line_said}
use Rattle.program_lines.proofs.LineLemmas.{no_label}
use Rattle.program_lines.proofs.lines.read_labelled.Goals as goal

pub returns-in_default : goal.returns-in_default
returns-in_default c =
    subst (λ form. IfOk c.read_behind_label.result (IsRead form line_said))
    (sym (no_label c.args.words.now c.in_default.ensures)) c.read_behind_label.ensures
