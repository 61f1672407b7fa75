use Rattle.std.proofs.Common.{◌≡◌, ◌∙◌, ℕ, [], sym, ap, subst}
use Rattle.weighted_automata.specs.declared.place.Label.TheVariants.{Empty}
use Rattle.weight_tables.specs.Entries.{lowered_in}
use Rattle.weight_tables.specs.Tables.{TablesValue, with_entries}
use Rattle.weight_tables.specs.declared.layer.Layer.TheVariants.{Base}
use Rattle.pushdown_rules.specs.Pushdown.{Pushdown}
use Rattle.forward_value_search.specs.Places.{arrow}
use Rattle.forward_value_search.specs.Search.{IsSearch}
use Rattle.forward_value_search.proofs.SearchLemmas.{opened}
use Rattle.forward_value_search.proofs.search.open.Goals as goal

pub returns-clause-system : goal.returns-clause-system
returns-clause-system g c = c.lower.ensures.system ∙ c.hold_one.ensures.system ∙ ap (λ (z : TablesValue _ _ _). z.system) c.renew.ensures

pub returns-clause-search : goal.returns-clause-search
returns-clause-search g c =
    let empty = c.renew.new.self in
    let one = c.hold_one.new.self in
    let new = c.lower.new.self in
    let same = c.lower.ensures.system ∙ c.hold_one.ensures.system in
    let none : empty.base ≡ [] = ap (λ (z : TablesValue _ _ _). z.base) c.renew.ensures in
    let P : ℕ → Type 0 = λ n. new ≡ with_entries Base (lowered_in (g.S.Semiring.operations one.system.semiring) (arrow n Empty 0) one.hand one.base) one in
    let search = opened {operations = g.S.Semiring.operations} c.valid.ensures.system (g.S.Semiring.laws new.system.semiring) c.args.first.now empty empty one new (sym same) (ap (λ es. with_entries Base es empty) none) c.in_ok-hold_one.ensures.ok
    (subst P c.control.ensures.value c.in_ok-lower.ensures.ok) c.valid.ensures.tables in
    let Q : Pushdown _ _ _ → Type 0 = λ q. IsSearch g.S.Semiring.operations q c.args.first.now new in
    subst Q (same ∙ ap (λ (z : TablesValue _ _ _). z.system) c.renew.ensures) search

pub returns-clause-target : goal.returns-clause-target
returns-clause-target g c =
    let target = λ (z : TablesValue _ _ _). z.target in
    ap target c.in_ok-lower.ensures.ok ∙ ap target c.in_ok-hold_one.ensures.ok ∙ ap target c.renew.ensures

pub returns-clause-walk : goal.returns-clause-walk
returns-clause-walk g c =
    let walk = λ (z : TablesValue _ _ _). z.walk in
    ap walk c.in_ok-lower.ensures.ok ∙ ap walk c.in_ok-hold_one.ensures.ok ∙ ap walk c.renew.ensures
