use Rattle.std.specs.Prelude.{option_map}
use Rattle.value_search.proofs.OnwardLemmas.{onward_itself}
use Rattle.value_search.proofs.meet.meet_over.Goals as goal

pub returns-then-below-at-clause-onward : goal.returns-then-below-at-clause-onward
returns-then-below-at-clause-onward g c =
    let p = c.args.system.now in
    onward_itself c.semiring-semiring.ensures.valid (g.S.Semiring.laws p.semiring) (option_map (λ t. t.now) c.args.target) c.args.tables.now c.requires.search

pub returns-in_default-clause-onward : goal.returns-in_default-clause-onward
returns-in_default-clause-onward g c =
    let p = c.args.system.now in
    onward_itself c.semiring-semiring.ensures.valid (g.S.Semiring.laws p.semiring) (option_map (λ t. t.now) c.args.target) c.args.tables.now c.requires.search
