use Rattle.std.proofs.Common.{◌≡◌, ◌++◌, ◌∷◌, [], Some, map, sym, ap, subst, ◌∙◌, append_assoc, append-nil}
use Rattle.std.specs.Prelude.{IfSome}
use Rattle.wpds_port.specs.Refusals.{refusal}
use Rattle.document_forms.specs.Lines.{Line}
use Rattle.document_forms.specs.Forms.{line_form}
use Rattle.document_forms.specs.FirstRefusal.{counted, first_refused}
use Rattle.document_reader.specs.private.Readings.{HasRead, above_now, kind_on, symbols_with, all_behind}
use Rattle.document_reader.proofs.ReadingLemmas.{line_refused, line_taken}
use Rattle.document_reader.proofs.SymbolLemmas.{all_first, symbols_taken}
use Rattle.document_reader.proofs.reading.read_body.Goals as goal

pub read_line-requires-clause-known : goal.read_line-requires-clause-known
read_line-requires-clause-known c =
    let l : Line = record { number = c.in-Some.line.number; bytes = c.in-Some.line.bytes.now } in
    let xs = c.loop-line.reading.scope.symbols in
    subst (λ n. IfSome c.loop-line.known (λ k. k ≡ n))
    (ap (symbols_with xs) c.in-Some.ensures.lines ∙ all_first xs l c.next.new.self.lines)
    c.loop-line.invariant.known

pub returns-in-Some-2-clause-refused : goal.returns-in-Some-2-clause-refused
returns-in-Some-2-clause-refused c = λ ls r h e.
    let m = c.loop-line.invariant.read ls h in
    let all = symbols_with c.args.reading.now.scope.symbols c.args.lines.now.lines in
    let l : Line = record { number = c.in-Some.line.number; bytes = c.in-Some.line.bytes.now } in
    let xs = c.loop-line.reading.scope.symbols in
    let same : refusal l.number c.in-Some-2.kind ≡ r = cc (c.refused.ensures, e) in
    let now : c.loop-line.lines.lines ≡ l ∷ c.next.new.self.lines = c.in-Some.ensures.lines in
    let here : all_behind xs (line_form l.bytes) c.next.new.self.lines ≡ all =
    sym (ap (symbols_with xs) now ∙ all_first xs l c.next.new.self.lines) ∙ c.loop-line.invariant.all in
    sym (ap (first_refused all []) m.2)
    ∙ ap (λ k. first_refused all [] (m.0 ++ map counted k)) now
    ∙ line_refused all m.0 c.loop-line.reading l c.next.new.self.lines c.in-Some-2.kind m.1
    (sym c.in-Some-2.is ∙ c.in_ok-kind.ensures.kind ∙ ap (λ n. kind_on n (above_now c.loop-line.reading) l.bytes) here)
    ∙ ap Some same

pub returns-clause-read : goal.returns-clause-read
returns-clause-read c = λ ls h.
    let m = c.loop-line.invariant.read ls h in
    let all = symbols_with c.args.reading.now.scope.symbols c.args.lines.now.lines in
    subst (λ k. HasRead all k c.loop-line.reading)
    (sym (append-nil m.0) ∙ sym (ap (λ k. m.0 ++ map counted k) c.in_default.ensures.lines.0) ∙ m.2) m.1

pub loop-line-preserved : goal.loop-line-preserved
loop-line-preserved c =
    let all = symbols_with c.args.reading.now.scope.symbols c.args.lines.now.lines in
    let l : Line = record { number = c.in-Some.line.number; bytes = c.in-Some.line.bytes.now } in
    let xs = c.loop-line.reading.scope.symbols in
    let left = c.next.new.self.lines in
    let new = c.read_line.new.reading in
    let now : c.loop-line.lines.lines ≡ l ∷ left = c.in-Some.ensures.lines in
    let taken = rw c.in_default-2.is at c.in_ok-kind.ensures.taken in
    let here : all_behind xs (line_form l.bytes) left ≡ all =
    sym (ap (symbols_with xs) now ∙ all_first xs l left) ∙ c.loop-line.invariant.all in
    let there : symbols_with new.scope.symbols left ≡ all_behind xs (line_form l.bytes) left =
    symbols_taken c.loop-line.reading new l.bytes left taken in
    record {
      read = λ ls h.
          let m = c.loop-line.invariant.read ls h in (
            m.0 ++ counted l ∷ [],
            line_taken c.above_with_a_line.ensures all m.0 c.loop-line.reading new l m.1
                (sym c.in_default-2.is ∙ c.in_ok-kind.ensures.kind ∙ ap (λ n. kind_on n (above_now c.loop-line.reading) l.bytes) here) taken,
            append_assoc m.0 (counted l ∷ []) (map counted left)
                ∙ sym (ap (λ k. m.0 ++ map counted k) now) ∙ m.2,
          );
      few = rw c.in_default-2.is at c.in_ok-kind.ensures.few;
      all = there ∙ here;
      known = subst (λ n. IfSome c.read_line.new.known (λ k. k ≡ n)) (sym there) c.in_ok-kind.ensures.known;
      after = c.in-Some.ensures.after ∙ c.loop-line.invariant.after;
    }
