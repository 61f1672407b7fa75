use Rattle.boolean_programs.specs.Structure.{IsValueOver}
use Rattle.lowering_laws.specs.Lowering.{renamed_choice}
use Rattle.boolean_lowering.specs.private.Layouts.{variables_in, slot_in}
use Rattle.boolean_lowering.proofs.ListLemmas.{get_is}
use Rattle.boolean_lowering.proofs.NameLemmas.{each_mapped}
use Rattle.boolean_lowering.proofs.names.push_values.Goals as goal

pub value_of-requires : goal.value_of-requires
value_of-requires c =
    let l = c.args.layout in
    let values = c.args.values.now in
    each_mapped (renamed_choice (slot_in l)) (IsValueOver (variables_in l)) values c.loop-place.place c.index-values-place.result c.requires.values
    (get_is values c.loop-place.place c.index-values-place.result c.loop-place-test.true c.index-values-place.is)
