use Rattle.std.proofs.Common.{◌≡◌, ◌∷◌, ◌++◌, map, ap, ◌∙◌}
use Rattle.document_forms.specs.Lines.{Line}
use Rattle.document_forms.specs.Forms.{Symbols}
use Rattle.document_forms.specs.FirstRefusal.{counted}
use Rattle.document_reader.specs.private.Readings.{names_in}
use Rattle.document_reader.proofs.SymbolLemmas.{names_first}
use Rattle.document_reader.proofs.symbols.are_declared.Goals as goal

pub loop-line-preserved : goal.loop-line-preserved
loop-line-preserved c =
    let l : Line = record { number = c.in-Some.line.number; bytes = c.in-Some.line.bytes.now } in
    let now : c.loop-line.lines.lines ≡ l ∷ c.next.new.self.lines = c.in-Some.ensures.lines in
    let behind = names_in Symbols (map counted c.next.new.self.lines) in
    c.loop-line.invariant
    ∙ ap (λ k. names_in Symbols (map counted k)) now
    ∙ names_first Symbols l c.next.new.self.lines
    ∙ ap (λ xs. xs ++ behind) (c.is_of_symbols.ensures c.if-is_of_symbols.false)

pub returns : goal.returns
returns c = λ _.
    c.loop-line.invariant ∙ ap (λ k. names_in Symbols (map counted k)) c.in_default.ensures.lines.0
