use Rattle.std.proofs.Common.{◌++◌, map, length, sym, ap, ◌∙◌}
use Rattle.document_forms.specs.Names.{once}
use Rattle.document_forms.specs.Forms.{Symbols}
use Rattle.document_forms.specs.FirstRefusal.{counted}
use Rattle.document_reader.specs.private.Readings.{names_in}
use Rattle.document_reader.proofs.NameLineLemmas.{nothing_added}
use Rattle.document_reader.proofs.symbols.count_symbols.Goals as goal

pub returns-then-not-are_declared : goal.returns-then-not-are_declared
returns-then-not-are_declared c =
    let xs = c.args.symbols.now in
    c.len.ensures
    ∙ ap length (
    (nothing_added xs c.stands_once.ensures).names
    ∙ ap (λ ys. once (xs ++ ys)) (sym (c.are_declared.ensures c.if-not-are_declared.true))
    )

pub returns : goal.returns
returns c =
    c.len-2.ensures
    ∙ ap length (
    c.in_ok-all.ensures
    ∙ ap (λ xs. once (xs ++ names_in Symbols (map counted c.args.left.now.lines))) c.in_ok-copy.ensures
    )
