use Rattle.std.proofs.Common.{◌≡◌, sym, ap, ◌∙◌, Ok, Err, None, Some}
use Rattle.std.proofs.lemmas.Result.{err_from_is_err_and}
use Rattle.wpds_port.specs.declared.ReadFault.TheVariants.{Refused}
use Rattle.document_reader.specs.LinesLeft.{Left}
use Rattle.boolean_syntax.specs.private.Found.{stated_lines, found_in, AreWalked}
use Rattle.boolean_syntax.proofs.TextLemmas.{is_program, is_refused, same_program}
use Rattle.boolean_syntax.proofs.program.read_program.Goals as goal

pub returns-clause-program : goal.returns-clause-program
returns-clause-program c =
    let bytes = c.args.bytes.now in
    let lines : Left = c.in_ok-header.header in
    let header = c.in_ok-header.ensures.header in
    let tables = c.in_ok-tables.tables in
    let walked : AreWalked lines.lines tables c.in_ok-tables.stated =
    record { declared = c.in_ok-tables.ensures.tables; judged = c.in_ok-tables.ensures.judged } in
    let whole : found_in lines.after lines.lines ≡ None =
    ap (λ n. found_in n lines.lines) (header.after ∙ sym (ap (λ (k : Left). k.after) c.new.ensures)) ∙ c.in_ok-reading.ensures.whole lines.lines walked in
    is_program bytes lines c.if-bytes-gt-MOST_BYTES.false header whole
    ∙ ap (λ x. Ok x) (sym (c.in_ok-program.ensures
    ∙ same_program (stated_lines lines.lines) tables.globals c.in_ok-reading.reading walked.declared.globals (c.in_ok-reading.ensures.read lines.lines walked)))

pub returns-in_err-reading-clause-refused : goal.returns-in_err-reading-clause-refused
returns-in_err-reading-clause-refused c = λ r e.
    let bytes = c.args.bytes.now in
    let lines : Left = c.in_ok-header.header in
    let header = c.in_ok-header.ensures.header in
    let tables = c.in_ok-tables.tables in
    let walked : AreWalked lines.lines tables c.in_ok-tables.stated =
    record { declared = c.in_ok-tables.ensures.tables; judged = c.in_ok-tables.ensures.judged } in
    let p = err_from_is_err_and c.from_residual-in_err-reading.result c.from_residual-in_err-reading.ensures.1 in
    let same : c.in_err-reading.field-0.0 ≡ Refused r = cc (p.1, p.2, e) in
    let found : found_in lines.after lines.lines ≡ Some r =
    ap (λ n. found_in n lines.lines) (header.after ∙ sym (ap (λ (k : Left). k.after) c.new.ensures)) ∙ c.in_err-reading.ensures.refused lines.lines r walked (ap (λ x. Err x) same) in
    is_refused bytes lines r c.if-bytes-gt-MOST_BYTES.false header found
