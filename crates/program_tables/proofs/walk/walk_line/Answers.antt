use Rattle.std.proofs.Common.{◌≡◌, refl, sym, ap, ◌∙◌}
use Rattle.std.proofs.lemmas.Result.{on_ok_weaker}
use Rattle.document_forms.specs.Lines.{Line}
use Rattle.program_forms.specs.Places.{Stated, said, judged, place_behind}
use Rattle.program_tables.specs.Judging.{IsStated}
use Rattle.program_tables.specs.declared.walk.StatedLine.{StatedLine}
use Rattle.program_tables.proofs.WalkLemmas.{walked_stated, walked_refused, keeps_stated, keeps_refused}
use Rattle.program_tables.proofs.walk.walk_line.Goals as goal

pub returns-in_ok-advance-in-Ok-clause-tables : goal.returns-in_ok-advance-in-Ok-clause-tables
returns-in_ok-advance-in-Ok-clause-tables c = λ done h.
    let line : Line = record { number = c.args.line.number; bytes = c.args.line.bytes.now } in
    let told = rw c.in-Ok.is at (c.in_ok-text.ensures c.args.line.number) in
    let m : Stated = record { number = c.args.line.number; form = told.0; place = c.args.place.now } in
    let taken = c.in_ok-take-in-Ok.ensures done m h told.1 refl (sym c.begun.ensures) in
    let walked = walked_stated done c.args.place.now c.advance.new.self line m c.take.new.self told.2 taken (c.in_ok-advance-in-Ok.ensures told.0 told.1) in
    on_ok_weaker c.keep.result (λ _. walked) c.keep.ensures.lines

pub returns-in_ok-advance-in-Ok-clause-kept : goal.returns-in_ok-advance-in-Ok-clause-kept
returns-in_ok-advance-in-Ok-clause-kept c = λ all left h.
    let line : Line = record { number = c.args.line.number; bytes = c.args.line.bytes.now } in
    let p = c.args.place.now in
    let told = rw c.in-Ok.is at (c.in_ok-text.ensures c.args.line.number) in
    let kept : StatedLine = record { number = c.args.line.number; text = c.in-Ok.text } in
    let stated : IsStated p line kept = record { number = refl; judged = told } in
    let behind : c.advance.new.self ≡ place_behind p (judged p (said line)) =
    c.in_ok-advance-in-Ok.ensures told.0 told.1 ∙ sym (ap (place_behind p) told.2) in
    on_ok_weaker c.keep.result
    (λ e. keeps_stated all left p c.advance.new.self line kept _ _ _ _ stated behind e c.keep.ensures.refused h) c.keep.ensures.lines

pub returns-in-Err-clause-tables : goal.returns-in-Err-clause-tables
returns-in-Err-clause-tables c = λ done h.
    let line : Line = record { number = c.args.line.number; bytes = c.args.line.bytes.now } in
    walked_refused done c.args.place.now line _ c.args.tables.now (rw c.in-Err.is at (c.in_ok-text.ensures c.args.line.number)) h

pub returns-in-Err-clause-kept : goal.returns-in-Err-clause-kept
returns-in-Err-clause-kept c = λ all left h.
    let line : Line = record { number = c.args.line.number; bytes = c.args.line.bytes.now } in
    let p = c.args.place.now in
    keeps_refused all left p p line _ _ _ _ _
    (record { kind = c.in-Err.kind; judged = rw c.in-Err.is at (c.in_ok-text.ensures c.args.line.number); told = refl })
    c.refuse.ensures.lines c.refuse.ensures.refused h
