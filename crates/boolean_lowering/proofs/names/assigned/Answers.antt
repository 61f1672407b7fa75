use Rattle.std.proofs.Common.{◌≡◌, ◌<◌, ◌≤◌, length, get_or, arith}
use Rattle.std.proofs.lemmas.Option.{slice_get-get_or}
use Rattle.boolean_programs.specs.Structure.{IsValueOver}
use Rattle.lowering_laws.specs.Lowering.{renamed_choice}
use Rattle.boolean_lowering.specs.private.Layouts.{variables_in, slot_in}
use Rattle.boolean_lowering.proofs.ListLemmas.{get_is}
use Rattle.boolean_lowering.proofs.NameLemmas.{each_mapped}
use Rattle.boolean_lowering.proofs.names.assigned.Goals as goal

pub value_of-requires : goal.value_of-requires
value_of-requires c =
    let l = c.args.layout in
    let values = c.args.values.now in
    let alike = c.requires.alike in
    let below : c.loop-place.place < length c.args.targets.now = c.loop-place-test.true in
    each_mapped (renamed_choice (slot_in l)) (IsValueOver (variables_in l)) values c.loop-place.place c.index-values-place.result c.requires.values
    (get_is values c.loop-place.place c.index-values-place.result (omega arith) c.index-values-place.is)

pub overflow_cast-slot : goal.overflow_cast-slot
overflow_cast-slot c =
    let l = c.args.layout in
    let targets = c.args.targets.now in
    let below : c.loop-place.place < length targets = c.loop-place-test.true in
    let few : variables_in l ≤ 24 = l.few in
    let small : slot_in l (get_or targets c.loop-place.place 0) < variables_in l =
    each_mapped (slot_in l) (λ v. v < variables_in l) targets c.loop-place.place (get_or targets c.loop-place.place 0) c.requires.targets (slice_get-get_or targets c.loop-place.place 0 below) in
    let is : c.slot.result ≡ slot_in l (get_or targets c.loop-place.place 0) = c.slot.ensures in
    omega arith
