use Rattle.std.proofs.Common.{◌∷◌, sym, ap, ◌∙◌}
use Rattle.document_forms.specs.Lines.{Line}
use Rattle.document_reader.proofs.FirstLinesLemmas.{two_read}
use Rattle.document_reader.proofs.system.read_first_two.Goals as goal

pub returns-in-Ok-clause-read : goal.returns-in-Ok-clause-read
returns-in-Ok-clause-read c =
    let h : Line = record { number = c.in-Some.first.number; bytes = c.in-Some.first.bytes.now } in
    let w : Line = record { number = c.in-Some-next.second.number; bytes = c.in-Some-next.second.bytes.now } in
    let m = c.new.ensures in
    record {
      first = h;
      second = w;
      split = c.in-Some.ensures.lines ∙ ap (λ ls. h ∷ ls) c.in-Some-next.ensures.lines;
      read = λ all.
          two_read all h w c.in-Ok.weights c.new.result (sym c.header_kind.ensures ∙ c.in_default-header_kind.is)
          (sym c.in-Ok.ensures.kind) c.in-Ok.ensures.weights m.above m.rules m.queries;
    }
