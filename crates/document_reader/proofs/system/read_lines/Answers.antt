use Rattle.std.proofs.Common.{◌≡◌, ◌∷◌, ◌++◌, [], map, Some, Err, sym, ap, subst, vec_len, ◌∙◌}
use Rattle.std.proofs.lemmas.Result.{err_from_is_err_and}
use Rattle.wpds_port.specs.Refusals.{refusal}
use Rattle.wpds_port.specs.declared.Kind.TheVariants.{NothingAsked}
use Rattle.wpds_port.specs.declared.ReadFault.TheVariants.{Refused}
use Rattle.document_forms.specs.FirstRefusal.{all_symbols, counted, first_refused, missing}
use Rattle.document_reader.specs.private.Readings.{HasRead, symbols_with}
use Rattle.document_reader.specs.private.Found.{found_first}
use Rattle.document_reader.proofs.FirstLinesLemmas.{whole_read, nothing_asked, no_items, some_items, found_in_line}
use Rattle.document_reader.proofs.SymbolLemmas.{all_of_lines}
use Rattle.document_reader.proofs.system.read_lines.Goals as goal

pub returns-in_err-read_body-clause-refused : goal.returns-in_err-read_body-clause-refused
returns-in_err-read_body-clause-refused c = λ r e.
    let all = all_symbols (map counted c.args.lines.lines) in
    let m = c.in_ok-reading.ensures.read in
    let left = c.read_first_two.new.lines.lines in
    let same_all = all_of_lines c.args.lines.lines m.first m.second left c.in_ok-reading.reading m.split c.in_ok-reading.ensures.none in
    let two = counted m.first ∷ counted m.second ∷ [] in
    let p = err_from_is_err_and c.from_residual-in_err-read_body.result c.from_residual-in_err-read_body.ensures.1 in
    let same : c.in_err-read_body.field-0.0 ≡ Refused r = cc (p.1, p.2, e) in
    found_in_line all c.args.lines.after (map counted c.args.lines.lines) r
    (ap (λ ls. first_refused all [] (map counted ls)) m.split
    ∙ ap (λ n. first_refused n [] (two ++ map counted left)) (sym same_all)
    ∙ c.in_err-read_body.ensures.refused two r (m.read (symbols_with c.in_ok-reading.reading.scope.symbols left)) (ap (λ x. Err x) same))

pub returns-then-is_empty-clause-refused : goal.returns-then-is_empty-clause-refused
returns-then-is_empty-clause-refused c = λ r e.
    let all = all_symbols (map counted c.args.lines.lines) in
    let m = c.in_ok-reading.ensures.read in
    let left = c.read_first_two.new.lines.lines in
    let begun = symbols_with c.in_ok-reading.reading.scope.symbols left in
    let same_all = all_of_lines c.args.lines.lines m.first m.second left c.in_ok-reading.reading m.split c.in_ok-reading.ensures.none in
    let two = counted m.first ∷ counted m.second ∷ [] in
    let asked = c.read_body.new.reading.queries in
    let none = no_items asked.items (vec_len asked) asked.ok.0 (sym c.is_empty.ensures ∙ c.if-is_empty.true) in
    let after : c.after.result ≡ c.args.lines.after = c.after.ensures ∙ c.in_ok-read_body.ensures.after ∙ c.in_ok-reading.ensures.after in
    let same : refusal c.after.result NothingAsked ≡ r = cc (c.refused.ensures, e) in
    ap (λ ls. found_first all c.args.lines.after (map counted ls)) m.split
    ∙ ap (λ n. found_first n c.args.lines.after (two ++ map counted left)) (sym same_all)
    ∙ nothing_asked begun c.args.lines.after (two ++ map counted left) c.read_body.new.reading (c.in_ok-read_body.ensures.read two (m.read begun)) none
    ∙ ap (λ n. Some (refusal n NothingAsked)) (sym after)
    ∙ ap Some same

pub returns-clause-read : goal.returns-clause-read
returns-clause-read c =
    let m = c.in_ok-reading.ensures.read in
    let left = c.read_first_two.new.lines.lines in
    let begun = symbols_with c.in_ok-reading.reading.scope.symbols left in
    let same_all = all_of_lines c.args.lines.lines m.first m.second left c.in_ok-reading.reading m.split c.in_ok-reading.ensures.none in
    let new = c.read_body.new.reading in
    let all = all_symbols (map counted c.args.lines.lines) in
    subst (λ ls. HasRead all (map counted ls) new) (sym m.split)
    (subst (λ n. HasRead n (map counted (m.first ∷ m.second ∷ left)) new) same_all
    (c.in_ok-read_body.ensures.read (counted m.first ∷ counted m.second ∷ []) (m.read begun)))

pub returns-clause-whole : goal.returns-clause-whole
returns-clause-whole c =
    let m = c.in_ok-reading.ensures.read in
    let left = c.read_first_two.new.lines.lines in
    let begun = symbols_with c.in_ok-reading.reading.scope.symbols left in
    let two = counted m.first ∷ counted m.second ∷ [] in
    let asked = c.read_body.new.reading.queries in
    ap (λ ls. missing (map counted ls)) m.split
    ∙ whole_read begun (two ++ map counted left) c.read_body.new.reading (c.in_ok-read_body.ensures.read two (m.read begun))
    (some_items asked.items (vec_len asked) asked.ok.0 (sym c.is_empty.ensures ∙ c.if-is_empty.false))
