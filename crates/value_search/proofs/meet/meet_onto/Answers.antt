use Rattle.std.specs.Prelude.{option_map}
use Rattle.value_search.proofs.OnwardLemmas.{onward_itself}
use Rattle.value_search.proofs.meet.meet_onto.Goals as goal

pub returns-then-rule-at-clause-onward : goal.returns-then-rule-at-clause-onward
returns-then-rule-at-clause-onward g c =
    let p = c.args.system.now in
    onward_itself c.semiring-semiring.ensures.valid (g.S.Semiring.laws p.semiring) (option_map (λ t. t.now) c.args.target) c.args.tables.now c.requires.search

pub returns-then-top-at-clause-onward : goal.returns-then-top-at-clause-onward
returns-then-top-at-clause-onward g c =
    let p = c.args.system.now in
    onward_itself c.semiring-semiring.ensures.valid (g.S.Semiring.laws p.semiring) (option_map (λ t. t.now) c.args.target) c.args.tables.now c.requires.search

pub returns-then-top-at-2-clause-onward : goal.returns-then-top-at-2-clause-onward
returns-then-top-at-2-clause-onward g c =
    let p = c.args.system.now in
    onward_itself c.semiring-semiring.ensures.valid (g.S.Semiring.laws p.semiring) (option_map (λ t. t.now) c.args.target) c.args.tables.now c.requires.search

pub returns-in_default-clause-onward : goal.returns-in_default-clause-onward
returns-in_default-clause-onward g c =
    let p = c.args.system.now in
    onward_itself c.semiring-semiring.ensures.valid (g.S.Semiring.laws p.semiring) (option_map (λ t. t.now) c.args.target) c.args.tables.now c.requires.search
