use Rattle.std.proofs.Common.{◌+◌, ◌∷◌, sym, ap₂, ◌∙◌}
use Rattle.document_forms.specs.Lines.{lines}
use Rattle.document_reader.proofs.LineLemmas.{line-ended, line-last, from-place, from-end}
use Rattle.document_reader.proofs.lines.split_line.Goals as goal

pub returns-in-Some-clause-lines : goal.returns-in-Some-clause-lines
returns-in-Some-clause-lines c =
    line-ended c.one_cutting_into_lines.ensures c.args.bytes.now c.in-Some.place (sym c.feed_place.ensures ∙ c.in-Some.is)
    ∙ ap₂ (λ l rest. l ∷ lines rest) (sym c.without_return.ensures) (sym (from-place (c.in-Some.place + 1) c.args.bytes.now))

pub returns-in-None-clause-lines : goal.returns-in-None-clause-lines
returns-in-None-clause-lines c =
    line-last c.one_cutting_into_lines.ensures c.args.bytes.now c.requires (sym c.feed_place.ensures ∙ c.in-None.is)
    ∙ ap₂ (λ l rest. l ∷ lines rest) (sym c.without_return-in-None.ensures) (sym (from-end c.args.bytes.now))
