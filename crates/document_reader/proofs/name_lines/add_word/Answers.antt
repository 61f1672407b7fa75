use Rattle.std.proofs.Common.{◌∷◌, [], sym, subst}
use Rattle.std.specs.Prelude.{not, false}
use Rattle.wpds_port.specs.Words.{word_of}
use Rattle.document_reader.specs.NameLines.{names_in, HasAdded}
use Rattle.document_reader.proofs.NameLineLemmas.{name_added, nothing_added, not_a_name}
use Rattle.document_reader.proofs.name_lines.add_word.Goals as goal

pub returns-in_ok-add-in-Name : goal.returns-in_ok-add-in-Name
returns-in_ok-add-in-Name c =
    subst (λ l. HasAdded c.args.table.now c.add.new.self (names_in (word_of l ∷ [])) (not c.in_ok-add-in-Name.field-0)) (sym c.in-Name.is)
    (name_added c.args.table.now c.in-Name.name.now c.add.new.self c.in_ok-add-in-Name.field-0
    c.stands_once.ensures c.in_ok-add-in-Name.ensures.added c.in_ok-add-in-Name.ensures.names)

pub returns-in_default : goal.returns-in_default
returns-in_default c =
    subst (λ xs. HasAdded c.args.table.now c.args.table.now xs false) (sym (not_a_name c.args.lexeme c.in_default.not-Name))
    (nothing_added c.args.table.now c.stands_once.ensures)
