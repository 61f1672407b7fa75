use Rattle.std.proofs.Common.{◌∙◌, ap, sym, arith}
use Rattle.std.specs.Prelude.{option_map}
use Rattle.document_forms.specs.Weights.{ChooseForm}
use Rattle.rule_reader.specs.Names.{names_in_front}
use Rattle.rule_reader.proofs.FrontNameLemmas.{some_left, none_left, some_broken, some_whole}
use Rattle.rule_reader.proofs.weights.actions.read_choose.Goals as goal

pub returns-then-is_some : goal.returns-then-is_some
returns-then-is_some c =
    let left = some_left c.in_ok-variables.rest c.split_first.result c.split_first.ensures (sym c.if-is_some.ensures) in
    ap (option_map ChooseForm) (some_broken c.args.words.now left.0 left.1 (sym c.in_ok-variables.ensures.rest ∙ left.2))

pub returns : goal.returns
returns c =
    let none = none_left c.in_ok-variables.rest c.split_first.result c.split_first.ensures (sym c.if-is_some.ensures) in
    let xs = names_in_front c.args.words.now in (
      ChooseForm xs,
      ap (option_map ChooseForm) (some_whole c.args.words.now (sym c.in_ok-variables.ensures.rest ∙ none) (grind (arith, c.in_ok-variables.ensures.numbers.count))),
      c.choice.ensures c.args.items.now xs c.in_ok-variables.ensures.numbers,
    )
