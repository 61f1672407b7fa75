use Rattle.std.proofs.Common.{◌≡◌, ◌<◌, [], ◌∷◌, length, take, map, sym, subst, ◌∙◌, arith}
use Rattle.std.specs.Prelude.{Some, slice_get}
use Rattle.std.proofs.lemmas.List.{length-map, length-take-le}
use Rattle.boolean_machine.proofs.CallerLemmas.{get_map}
use Rattle.lowering_laws.specs.Lowering.{jump_rule}
use Rattle.lowering_laws.specs.Plans.{IsWithin}
use Rattle.boolean_lowering.specs.private.Ways.{way_of}
use Rattle.boolean_lowering.specs.private.Made.{AreAdded, program_in}
use Rattle.boolean_lowering.proofs.ListLemmas.{get_is, mapped_take}
use Rattle.boolean_lowering.proofs.NameLemmas.{each_mapped}
use Rattle.boolean_lowering.proofs.AddedLemmas.{added_behind, length_added}
use Rattle.boolean_lowering.proofs.rules.add_ways.Goals as goal

pub add_way-requires-clause-within : goal.add_way-requires-clause-within
add_way-requires-clause-within c =
    let p = program_in c.args.making.now in
    let ways = c.args.ways.now in
    let k = c.loop-way.way-index in
    let w = c.way-item.result in
    each_mapped (jump_rule p c.args.head) (IsWithin p) (map way_of ways) k (way_of w) c.requires.within (get_map way_of ways k w (get_is ways k w c.loop-way-test.true c.way-item.is))

pub add_way-requires-clause-room : goal.add_way-requires-clause-room
add_way-requires-clause-room c =
    let p = program_in c.args.making.now in
    let ways = c.args.ways.now in
    let k = c.loop-way.way-index in
    let done = map (jump_rule p c.args.head) (map way_of (take k ways)) in
    let below : k < length ways = c.loop-way-test.true in
    let long : length done ≡ k = length-map (map way_of (take k ways)) (jump_rule p c.args.head) ∙ length-map (take k ways) way_of ∙ length-take-le k ways (omega arith) in
    let all = length_added p c.args.system.now c.loop-way.system done c.loop-way.invariant in
    let room = c.requires.room in
    omega arith

pub loop-way-preserved : goal.loop-way-preserved
loop-way-preserved c =
    let p = program_in c.args.making.now in
    let ways = c.args.ways.now in
    let k = c.loop-way.way-index in
    let w = c.way-item.result in
    let there : slice_get ways k ≡ Some w = get_is ways k w c.loop-way-test.true c.way-item.is in
    let done = map (jump_rule p c.args.head) (map way_of (take k ways)) in
    subst (AreAdded p c.args.system.now c.add_way.new.system) (sym (mapped_take way_of (jump_rule p c.args.head) ways k w there))
    (added_behind p c.args.system.now c.loop-way.system c.add_way.new.system done (jump_rule p c.args.head (way_of w) ∷ []) c.loop-way.invariant c.in_ok-add_way.ensures)
