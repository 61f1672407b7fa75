use Rattle.std.proofs.Common.{[], sym, ap, ◌∙◌, refl, subst}
use Rattle.std.specs.Prelude.{IfOk}
use Rattle.wpds_port.specs.Words.{word_of}
use Rattle.program_lines.specs.Texts.{IsRead, statement_said}
use Rattle.program_forms.specs.Forms.{worded_of, call_of}
use Rattle.program_lines.proofs.LineLemmas.{worded_other}
use Rattle.program_lines.proofs.statements.read_worded.Goals as goal

pub returns : goal.returns
returns c =
    let w = word_of c.in-Some.first in
    let ws = c.in-Some.rest in
    subst (λ form. IfOk c.read_call.result (IsRead form statement_said))
    (ap (call_of []) c.in-Some.ensures
    ∙ sym (worded_other w ws (sym c.if-is_name.ensures) (sym c.if-is_name-2.ensures) (sym c.if-is_name-3.ensures)
    (sym c.if-is_name-4.ensures) (sym c.if-is_name-5.ensures) (sym c.if-is_name-6.ensures) (sym c.if-is_name-7.ensures))
    ∙ sym (ap worded_of c.in-Some.ensures))
    (c.read_call.ensures [] refl)
