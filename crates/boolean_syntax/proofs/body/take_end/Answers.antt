use Rattle.std.proofs.Common.{rules, ◌≡◌, ◌+◌, cond, sym, ap, ◌∙◌, subst}
use Rattle.program_forms.specs.Above.{closes_proc}
use Rattle.program_forms.specs.Forms.{EndForm}
use Rattle.program_forms.specs.Places.{Place}
use Rattle.program_forms.specs.Programs.{end_of}
use Rattle.boolean_syntax.specs.private.Readings.{IsTakenIn}
use Rattle.boolean_syntax.proofs.BodyLemmas.{end_taken}
use Rattle.boolean_syntax.proofs.KindLemmas.{in_ok}
use Rattle.boolean_syntax.proofs.body.take_end.Goals as goal

pub returns : goal.returns
returns c = λ w above l h e place number.
    let old = c.args.reading.now in
    let new = c.take_frame_line.new.reading in
    let a = c.checked_add-closed.ensures in
    let b = c.in_ok-reading.ensures.value in
    let count : c.in_ok-reading.field-0 ≡ old.closed + c.closings.result = search (rules, a, b) in
    in_ok c.take_frame_line.result _ _
    (λ k t.
    end_taken w above l old h new c.args.line c.closings.result c.end_statement.result k e number
    (c.closings.ensures ∙ ap (λ (p : Place). cond (closes_proc EndForm p.blocks) 1 0) (sym place))
    (c.end_statement.ensures ∙ ap (λ (p : Place). end_of p.blocks) (sym place))
    (subst (λ n. IsTakenIn (record old { closed = n }) new c.args.line c.end_statement.result k) count t))
    c.take_frame_line.ensures
