use Rattle.std.proofs.Common.{◌<◌, sym, ◌∙◌}
use Rattle.std.specs.Prelude.{Some}
use Rattle.weight_tables.specs.Tables.{AreTables}
use Rattle.weight_tables.specs.Turns.{turns_left}
use Rattle.value_search.specs.Finds.{FindsPops, FindsEnters}
use Rattle.value_search.proofs.OnwardLemmas.{others_base, others_walk}
use Rattle.value_search.proofs.TakeLemmas.{enters_search, enters_settled, enters_found, none_stays, subst_system}
use Rattle.value_search.proofs.search.turn_to_target.Goals as goal

pub take_next-requires-clause-search : goal.take_next-requires-clause-search
take_next-requires-clause-search g c =
    let p = c.system-system.result.now in
    let old = c.args.tables.now in
    let is = sym c.system-system.ensures.value in
    enters_search c.system-system.ensures.valid (g.S.Semiring.laws p.semiring) c.args.target.now old is
    (subst_system old.system p is (λ q. AreTables (g.S.Semiring.operations q.semiring) old) c.valid.ensures.tables)
    (subst_system old.system p is (λ q. FindsPops (g.S.Semiring.operations q.semiring) q old) c.requires.pops)
    (subst_system old.system p is (λ q. FindsEnters (g.S.Semiring.operations q.semiring) q c.args.target.now old) c.requires.finds)

pub take_next-requires-clause-settled : goal.take_next-requires-clause-settled
take_next-requires-clause-settled g c =
    let p = c.system-system.result.now in
    let old = c.args.tables.now in
    enters_settled c.system-system.ensures.valid (g.S.Semiring.laws p.semiring) c.args.target.now old c.requires.closed
    (subst_system old.system p (sym c.system-system.ensures.value) (λ q. FindsEnters (g.S.Semiring.operations q.semiring) q c.args.target.now old) c.requires.finds)

pub returns-clause-system : goal.returns-clause-system
returns-clause-system g c = c.in_ok-some.ensures.search.same ∙ c.system-system.ensures.value

pub returns-clause-finds : goal.returns-clause-finds
returns-clause-finds g c =
    let p = c.system-system.result.now in
    let old = c.args.tables.now in
    let new = c.take_next.new.tables in
    let aim = c.args.target.now in
    subst_system p old.system c.system-system.ensures.value (λ q. FindsEnters (g.S.Semiring.operations q.semiring) q aim new)
    (enters_found c.system-system.ensures.valid (g.S.Semiring.laws p.semiring) aim new (none_stays old new (others_base aim new.hand new.target old new c.in_ok-some.ensures.others) c.requires.closed)
    c.in_ok-some.ensures.search c.in_ok-some.ensures.settled)

pub returns-clause-fewer : goal.returns-clause-fewer
returns-clause-fewer g c = λ is.
    let old = c.args.tables.now in
    let new = c.take_next.new.tables in
    subst_system c.system-system.result.now old.system c.system-system.ensures.value (λ q. turns_left (g.S.Semiring.operations q.semiring) new.target < turns_left (g.S.Semiring.operations q.semiring) old.target)
    (c.in_ok-some.ensures.fewer is)

pub returns-clause-base : goal.returns-clause-base
returns-clause-base g c =
    let new = c.take_next.new.tables in
    others_base c.args.target.now new.hand new.target c.args.tables.now new c.in_ok-some.ensures.others

pub returns-clause-walk : goal.returns-clause-walk
returns-clause-walk g c =
    let new = c.take_next.new.tables in
    others_walk (Some c.args.target.now) new.hand new.target c.args.tables.now new c.in_ok-some.ensures.others
