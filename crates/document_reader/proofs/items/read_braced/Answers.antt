use Rattle.std.proofs.Common.{◌∙◌, sym, ap, arith, refl}
use Rattle.document_forms.specs.declared.pattern.SetText.TheVariants.{Listed}
use Rattle.document_reader.specs.private.ItemReading.{begins_with_close}
use Rattle.document_reader.proofs.SetLemmas.{empty_braces, open_braces, set_in_braces}
use Rattle.document_reader.proofs.items.read_braced.Goals as goal

pub returns-then-is_empty : goal.returns-then-is_empty
returns-then-is_empty c = empty_braces c.args.words.now (grind (arith, c.in_ok-read.ensures.numbers.count))

pub returns-in_default : goal.returns-in_default
returns-in_default c =
    open_braces c.args.words.now (ap begins_with_close (sym c.in_ok-read.ensures.rest) ∙ c.in_default.ensures)

pub returns : goal.returns
returns c =
    set_in_braces c.args.symbols.now c.args.words.now c.in-Some.rest c.in_ok-read.read c.add_names.new.self _
    (sym c.in_ok-read.ensures.rest ∙ c.in-Some.ensures) c.in_ok-read.ensures.numbers
    (c.in_ok-add_names.ensures _ c.new-once.ensures) (grind arith) (ap Listed c.in_ok-from_vec.ensures.symbols) refl refl
