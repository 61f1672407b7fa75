use Rattle.std.proofs.Common.{◌≡◌, sym, ap, ◌∙◌}
use Rattle.std.specs.Prelude.{Some, option_map}
use Rattle.boolean_programs.specs.declared.statement.Choice.TheVariants.{Is}
use Rattle.boolean_meaning.specs.private.GivenValues.{choice_of}
use Rattle.boolean_meaning.proofs.picking.picked_bit.Goals as goal

pub value_in-requires : goal.value_in-requires
value_in-requires c =
    let at : option_map choice_of c.get.result ≡ Some (Is c.in-Some-Of.e.now) = ap (option_map choice_of) c.in-Some-Of.is ∙ ap (λ v. Some (choice_of v)) c.in-Some-Of.field-0-is in
    c.requires.over c.args.place (Is c.in-Some-Of.e.now) (sym c.get.ensures ∙ at)
