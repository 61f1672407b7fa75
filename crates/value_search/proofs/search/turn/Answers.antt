use Rattle.std.proofs.Common.{◌<◌, sym, ◌∙◌}
use Rattle.std.specs.Prelude.{None}
use Rattle.weight_tables.specs.Tables.{AreTables}
use Rattle.weight_tables.specs.Turns.{turns_left}
use Rattle.value_search.specs.Finds.{FindsPops}
use Rattle.value_search.proofs.OnwardLemmas.{others_target, others_walk}
use Rattle.value_search.proofs.TakeLemmas.{pops_search, subst_system}
use Rattle.value_search.proofs.search.turn.Goals as goal

pub take_next-requires-clause-search : goal.take_next-requires-clause-search
take_next-requires-clause-search g c =
    let p = c.system-system.result.now in
    let old = c.args.tables.now in
    let is = sym c.system-system.ensures.value in
    pops_search c.system-system.ensures.valid (g.S.Semiring.laws p.semiring) old is (subst_system old.system p is (λ q. AreTables (g.S.Semiring.operations q.semiring) old) c.valid.ensures.tables)
    (subst_system old.system p is (λ q. FindsPops (g.S.Semiring.operations q.semiring) q old) c.requires)

pub take_next-requires-clause-settled : goal.take_next-requires-clause-settled
take_next-requires-clause-settled g c =
    let old = c.args.tables.now in
    (subst_system old.system c.system-system.result.now (sym c.system-system.ensures.value) (λ q. FindsPops (g.S.Semiring.operations q.semiring) q old) c.requires).settled

pub returns-clause-system : goal.returns-clause-system
returns-clause-system g c = c.in_ok-some.ensures.search.same ∙ c.system-system.ensures.value

pub returns-clause-finds : goal.returns-clause-finds
returns-clause-finds g c =
    let new = c.take_next.new.tables in
    subst_system c.system-system.result.now c.args.tables.now.system c.system-system.ensures.value (λ q. FindsPops (g.S.Semiring.operations q.semiring) q new)
    (record { sound = c.in_ok-some.ensures.search.sound; settled = c.in_ok-some.ensures.settled })

pub returns-clause-fewer : goal.returns-clause-fewer
returns-clause-fewer g c = λ is.
    let old = c.args.tables.now in
    let new = c.take_next.new.tables in
    subst_system c.system-system.result.now old.system c.system-system.ensures.value (λ q. turns_left (g.S.Semiring.operations q.semiring) new.base < turns_left (g.S.Semiring.operations q.semiring) old.base)
    (c.in_ok-some.ensures.fewer is)

pub returns-clause-target : goal.returns-clause-target
returns-clause-target g c =
    let new = c.take_next.new.tables in
    others_target new.hand new.base c.args.tables.now new c.in_ok-some.ensures.others

pub returns-clause-walk : goal.returns-clause-walk
returns-clause-walk g c =
    let new = c.take_next.new.tables in
    others_walk None new.hand new.base c.args.tables.now new c.in_ok-some.ensures.others
