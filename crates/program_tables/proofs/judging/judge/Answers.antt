use Rattle.std.proofs.Common.{sym, ◌∙◌}
use Rattle.std.specs.Prelude.{option_and_then}
use Rattle.wpds_port.specs.Words.{text_words}
use Rattle.program_forms.specs.Forms.{form_of}
use Rattle.program_tables.proofs.JudgingLemmas.{some_form, no_place, in_place}
use Rattle.program_tables.proofs.judging.judge.Goals as goal

pub returns-then-not-fits : goal.returns-then-not-fits
returns-then-not-fits c = λ n.
    let read = rw c.in-Some.is at c.in_ok-text.ensures in
    let form = some_form (option_and_then form_of (text_words c.args.line.now)) read.1 in
    no_place c.args.place.now n c.args.line.now form.0 (sym c.if-not-is_text.ensures) form.1
    (sym (c.if-not-fits.ensures form.0 (read.0 ∙ form.1)))

pub returns : goal.returns
returns c = λ n.
    let read = rw c.in-Some.is at c.in_ok-text.ensures in
    let form = some_form (option_and_then form_of (text_words c.args.line.now)) read.1 in (
      form.0,
      read.0 ∙ form.1,
      in_place c.args.place.now n c.args.line.now form.0 (sym c.if-not-is_text.ensures) form.1
          (sym (c.if-not-fits.ensures form.0 (read.0 ∙ form.1))),
    )
