use Rattle.std.proofs.Common.{◌≡◌, ◌∷◌, sym, rules}
use Rattle.wpds_port.specs.declared.Mark.TheVariants.{Minus}
use Rattle.wpds_port.specs.declared.Word.TheVariants.{Name, Number, Mark as Sign}
use Rattle.rule_reader.specs.private.FormReads.{part_form}
use Rattle.rule_reader.proofs.PairLemmas.{variable_first, number_first, minus_cases}
use Rattle.rule_reader.proofs.weights.forms.first_part.Goals as goal

pub returns-in-Some-Name-default-clause-parts : goal.returns-in-Some-Name-default-clause-parts
returns-in-Some-Name-default-clause-parts c =
    let w = c.in-Some-Name-default in
    let e : c.args.words.now ≡ Name w.name.now ∷ w.rest = search rules in
    variable_first c.args.words.now w.name.now w.rest e (sym c.if-begins_pair.ensures)

pub returns-in-Some-Number-default-clause-parts : goal.returns-in-Some-Number-default-clause-parts
returns-in-Some-Number-default-clause-parts c =
    let w = c.in-Some-Number-default in
    let e : c.args.words.now ≡ Number w.digits.now ∷ w.rest = search rules in
    number_first c.args.words.now w.digits.now w.rest e

pub returns-in-Some-Mark-Minus-default-clause-parts : goal.returns-in-Some-Mark-Minus-default-clause-parts
returns-in-Some-Mark-Minus-default-clause-parts c =
    let w = c.in-Some-Mark-Minus-default in
    let e : c.args.words.now ≡ Sign Minus ∷ w.rest = search rules in
    minus_cases (λ p. part_form p.0) (λ p. p.1) c.args.words.now w.rest c.negative_part.result e c.negative_part.ensures.parts
