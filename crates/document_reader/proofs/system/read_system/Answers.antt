use Rattle.std.proofs.Common.{◌≡◌, map, Err, ap}
use Rattle.std.proofs.lemmas.Result.{err_from_is_err_and}
use Rattle.wpds_port.specs.declared.ReadFault.TheVariants.{Refused}
use Rattle.document_forms.specs.FirstRefusal.{all_symbols, counted}
use Rattle.document_reader.proofs.SystemLemmas.{refusal_found, document_found}
use Rattle.document_reader.proofs.system.read_system.Goals as goal

pub returns-in_err-reading-clause-refused : goal.returns-in_err-reading-clause-refused
returns-in_err-reading-clause-refused c = λ r e.
    let bytes = c.args.bytes.now in
    let p = err_from_is_err_and c.from_residual.result c.from_residual.ensures.1 in
    let same : c.in_err-reading.field-0.0 ≡ Refused r = cc (p.1, p.2, e) in
    (c.found_line_by_line.ensures.refusal bytes r).0
    (refusal_found bytes (all_symbols (map counted c.new.result.lines)) c.new.result r c.if-bytes-gt-MOST_BYTES.false
    (ap (λ l. all_symbols (map counted l.lines)) c.new.ensures) c.new.ensures
    (c.in_err-reading.ensures.refused r (ap (λ x. Err x) same)))

pub returns-clause-document : goal.returns-clause-document
returns-clause-document c =
    let bytes = c.args.bytes.now in
    (c.found_line_by_line.ensures.document bytes c.in_ok-document.field-0).0
    (document_found bytes (all_symbols (map counted c.new.result.lines)) c.new.result c.in_ok-reading.reading c.in_ok-document.field-0 c.if-bytes-gt-MOST_BYTES.false
    (ap (λ l. all_symbols (map counted l.lines)) c.new.ensures) c.new.ensures
    c.in_ok-reading.ensures.read c.in_ok-reading.ensures.whole c.in_ok-document.ensures)
