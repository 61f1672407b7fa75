use Rattle.std.proofs.Common.{◌≡◌, ◌+◌, ◌∷◌, length, map, Some, sym, ap, ◌∙◌}
use Rattle.wpds_port.specs.Refusals.{refusal}
use Rattle.document_forms.specs.Lines.{Line, lines}
use Rattle.document_reader.specs.LinesLeft.{Left}
use Rattle.program_forms.specs.FirstRefusal.{said_lines}
use Rattle.program_forms.specs.Places.{said}
use Rattle.boolean_syntax.proofs.TextLemmas.{header_refused}
use Rattle.boolean_syntax.proofs.program.read_header.Goals as goal

pub returns-in-Some-header_kind-clause-refused : goal.returns-in-Some-header_kind-clause-refused
returns-in-Some-header_kind-clause-refused c = λ r e.
    let bytes = c.args.bytes.now in
    let first : Line = record { number = c.in-Some.first.number; bytes = c.in-Some.first.bytes.now } in
    let rest : Left = c.next.new.self in
    let split : said_lines bytes ≡ said first ∷ map said rest.lines =
    ap (λ (k : Left). map said k.lines) (sym c.new-lines.ensures) ∙ ap (map said) c.in-Some.ensures.lines in
    let same : refusal first.number c.in-Some-header_kind.kind ≡ r = cc (c.refused-in-Some-header_kind.ensures, e) in
    header_refused (length (lines bytes) + 1) bytes (said first) (map said rest.lines) c.in-Some-header_kind.kind split
    (sym (c.header_kind.ensures first.number) ∙ c.in-Some-header_kind.is)
    ∙ ap Some same

pub returns-in-None-clause-header : goal.returns-in-None-clause-header
returns-in-None-clause-header c =
    let first : Line = record { number = c.in-Some.first.number; bytes = c.in-Some.first.bytes.now } in
    record {
      header = said first;
      split = ap (λ (k : Left). map said k.lines) (sym c.new-lines.ensures) ∙ ap (map said) c.in-Some.ensures.lines;
      kind = sym (c.header_kind.ensures first.number) ∙ c.in-None.is;
      after = c.next.ensures.after ∙ ap (λ (k : Left). k.after) c.new-lines.ensures;
    }
