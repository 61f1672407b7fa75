use Rattle.std.proofs.Common.{◌∙◌, ◌++◌, sym, ap}
use Rattle.wpds_port.specs.Words.{word_of}
use Rattle.document_forms.specs.Names.{once}
use Rattle.document_reader.proofs.LineFormLemmas.{declares_symbols, declares_none, declares_other, formless_declares}
use Rattle.document_reader.proofs.NameLineLemmas.{nothing_added, names_known, names_not_known}
use Rattle.document_reader.proofs.name_lines.symbols_on.Goals as goal

pub returns : goal.returns
returns c =
    c.in_ok-add_names.ensures.names
    ∙ ap (λ xs. once (c.args.table.now ++ xs))
    (sym (declares_symbols c.args.line.now (word_of c.in-Some.first) c.in-Some.words c.in-Some.ensures.form
    (sym c.if-not-is_name.ensures)
    (names_known c.in-Some.words (sym c.are_names.ensures ∙ c.if-not-are_names.false))))

pub returns-then-not-are_names : goal.returns-then-not-are_names
returns-then-not-are_names c =
    (nothing_added c.args.table.now c.stands_once.ensures).names
    ∙ ap (λ xs. once (c.args.table.now ++ xs))
    (sym (declares_none c.args.line.now (word_of c.in-Some.first) c.in-Some.words c.in-Some.ensures.form
    (sym c.if-not-is_name.ensures)
    (names_not_known c.in-Some.words (sym c.are_names.ensures ∙ c.if-not-are_names.true))))

pub returns-then-not-is_name : goal.returns-then-not-is_name
returns-then-not-is_name c =
    (nothing_added c.args.table.now c.stands_once.ensures).names
    ∙ ap (λ xs. once (c.args.table.now ++ xs))
    (sym (declares_other c.args.line.now (word_of c.in-Some.first) c.in-Some.words c.in-Some.ensures.form
    (sym c.if-not-is_name.ensures)))

pub returns-in_default : goal.returns-in_default
returns-in_default c =
    (nothing_added c.args.table.now c.stands_once.ensures).names
    ∙ ap (λ xs. once (c.args.table.now ++ xs)) (sym (formless_declares c.args.line.now c.in_default.ensures.form))
