use Rattle.std.proofs.Common.{◌≡◌, suc, ◌+◌, ◌<◌, ◌≤◌, ◌++◌, length, take, sym, ap, ◌∙◌, subst, arith}
use Rattle.std.specs.Prelude.{Some, slice_get}
use Rattle.boolean_programs.specs.Lines.{code}
use Rattle.boolean_machine.specs.Machine.{action}
use Rattle.boolean_machine.proofs.CallerLemmas.{get_map}
use Rattle.lowering_laws.specs.Lowering.{line_rules, plan, rules_from}
use Rattle.lowering_laws.specs.Plans.{IsWithin}
use Rattle.boolean_lowering.specs.private.Spots.{instruction_of}
use Rattle.boolean_lowering.specs.private.Made.{AreAdded, program_in}
use Rattle.boolean_lowering.proofs.ListLemmas.{get_is}
use Rattle.boolean_lowering.proofs.PlanLemmas.{each_line, room_line, plan_more}
use Rattle.boolean_lowering.proofs.AddedLemmas.{added_behind, length_added}
use Rattle.boolean_lowering.proofs.lines.add_lines.Goals as goal

pub overflow_cast-head : goal.overflow_cast-head
overflow_cast-head c =
    let below : c.loop-head.head < length c.args.spots.now = c.loop-head-test.true in
    let few : length c.args.spots.now ≤ 40000 = c.requires.few in
    omega arith

pub add_line-requires-clause-there : goal.add_line-requires-clause-there
add_line-requires-clause-there c =
    let spots = c.args.spots.now in
    let k = c.loop-head.head in
    let s = c.index-spots-head.result in
    subst (λ is. slice_get is k ≡ Some (instruction_of s)) c.requires.spots (get_map instruction_of spots k s (get_is spots k s c.loop-head-test.true c.index-spots-head.is))

pub add_line-requires-clause-within : goal.add_line-requires-clause-within
add_line-requires-clause-within c =
    let p = program_in c.args.making.now in
    let spots = c.args.spots.now in
    let k = c.loop-head.head in
    let s = c.index-spots-head.result in
    let there = subst (λ is. slice_get is k ≡ Some (instruction_of s)) c.requires.spots (get_map instruction_of spots k s (get_is spots k s c.loop-head-test.true c.index-spots-head.is)) in
    each_line p (IsWithin p) k (instruction_of s) there (c.plans_are_within.ensures.rules p (c.programs_are_lawful.ensures.read p c.requires.making.read))

pub add_line-requires-clause-room : goal.add_line-requires-clause-room
add_line-requires-clause-room c =
    let p = program_in c.args.making.now in
    let spots = c.args.spots.now in
    let k = c.loop-head.head in
    let s = c.index-spots-head.result in
    let i = instruction_of s in
    let there = subst (λ is. slice_get is k ≡ Some (instruction_of s)) c.requires.spots (get_map instruction_of spots k s (get_is spots k s c.loop-head-test.true c.index-spots-head.is)) in
    let room : length (rules_from p 0 (take k (code p))) + length (line_rules p k i (action p i)) ≤ length (plan p) = room_line p k i there in
    let begun : length c.args.system.now.rules ≡ 0 = ap (λ rs. length rs) c.requires.none in
    let all = length_added p c.args.system.now c.loop-head.system (rules_from p 0 (take k (code p))) c.loop-head.invariant in
    let few = c.requires.few_rules in
    omega arith

pub loop-head-preserved : goal.loop-head-preserved
loop-head-preserved c =
    let p = program_in c.args.making.now in
    let spots = c.args.spots.now in
    let k = c.loop-head.head in
    let s = c.index-spots-head.result in
    let i = instruction_of s in
    let there = subst (λ is. slice_get is k ≡ Some (instruction_of s)) c.requires.spots (get_map instruction_of spots k s (get_is spots k s c.loop-head-test.true c.index-spots-head.is)) in
    let next : suc k ≡ k + 1 = omega arith in
    let more : rules_from p 0 (take (k + 1) (code p)) ≡ rules_from p 0 (take k (code p)) ++ line_rules p k i (action p i) =
    ap (λ n. rules_from p 0 (take n (code p))) (sym next) ∙ plan_more p k i there in
    subst (AreAdded p c.args.system.now c.add_line.new.system) (sym more)
    (added_behind p c.args.system.now c.loop-head.system c.add_line.new.system (rules_from p 0 (take k (code p))) (line_rules p k i (action p i)) c.loop-head.invariant c.in_ok-add_line.ensures)
