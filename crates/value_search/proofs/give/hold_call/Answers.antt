use Rattle.std.specs.Prelude.{unwrap_or}
use Rattle.value_laws.specs.Settled.{first_worth}
use Rattle.value_search.proofs.HandLemmas.{call_hand, return_hand, rule_within}
use Rattle.value_search.proofs.give.hold_call.Goals as goal

pub return_hand-requires : goal.return_hand-requires
return_hand-requires g c = rule_within c.hold_first.new.tables.system c.args.system.now c.hold_first.ensures.same c.args.k c.requires.rule

pub returns : goal.returns
returns g c = λ r there e at.
    let p = c.args.system.now in
    let s = g.S.Semiring.operations p.semiring in
    let mid = c.hold_first.new.tables in
    call_hand c.args.tables.now mid c.return_hand.new.self (first_worth s r e.weight) (s.after (unwrap_or r.map s.plain)) (c.in_ok-hold_first.ensures.ok r there e at)
    (return_hand g.S.Semiring.operations mid.system p c.hold_first.ensures.same c.args.k mid c.return_hand.new.self c.in_ok-return_hand.ensures.ok r there)
