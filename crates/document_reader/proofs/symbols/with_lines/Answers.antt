use Rattle.std.proofs.Common.{◌≡◌, ◌∷◌, ◌++◌, [], map, sym, ap, ◌∙◌, append-nil}
use Rattle.document_forms.specs.Lines.{Line}
use Rattle.document_forms.specs.Names.{once}
use Rattle.document_forms.specs.Forms.{Symbols}
use Rattle.document_forms.specs.FirstRefusal.{counted}
use Rattle.document_reader.specs.private.Readings.{names_in, declared_on}
use Rattle.document_reader.proofs.SymbolLemmas.{once_twice, symbols_more}
use Rattle.document_reader.proofs.NameLineLemmas.{nothing_added}
use Rattle.document_reader.proofs.symbols.with_lines.Goals as goal

pub loop-line-init : goal.loop-line-init
loop-line-init c =
    let xs = c.args.symbols in
    record {
      each_once = sym ((nothing_added xs c.stands_once.ensures).names ∙ ap once (append-nil xs));
      whole = ap (λ l. once (xs ++ names_in Symbols (map counted l.lines))) c.reborrow-lines.ensures;
    }

pub loop-line-preserved : goal.loop-line-preserved
loop-line-preserved c =
    let l : Line = record { number = c.in-Some.line.number; bytes = c.in-Some.line.bytes.now } in
    let now : c.loop-line.lines.lines ≡ l ∷ c.next.new.self.lines = c.in-Some.ensures.lines in
    let t : c.symbols_on.new.table ≡ once (c.loop-line.all ++ declared_on Symbols l.bytes) = c.in_ok-symbols_on.ensures in
    record {
      each_once = ap once t ∙ once_twice (c.loop-line.all ++ declared_on Symbols l.bytes) ∙ sym t;
      whole =
          symbols_more Symbols c.loop-line.all c.symbols_on.new.table l c.next.new.self.lines t
          ∙ sym (ap (λ k. once (c.loop-line.all ++ names_in Symbols (map counted k))) now)
          ∙ c.loop-line.invariant.whole;
    }

pub returns : goal.returns
returns c =
    let t = c.loop-line.all in
    let end : c.loop-line.lines.lines ≡ [] = c.in_default.ensures.lines.0 in
    sym c.loop-line.invariant.each_once
    ∙ ap once (sym (append-nil t))
    ∙ sym (ap (λ k. once (t ++ names_in Symbols (map counted k))) end)
    ∙ c.loop-line.invariant.whole
