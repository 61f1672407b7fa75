use Rattle.std.proofs.Common.{◌≡◌, ◌∙◌, ℕ, sym, ap, subst}
use Rattle.std.specs.Prelude.{Option, IfNone}
use Rattle.weight_tables.specs.Entries.{NoneWaits}
use Rattle.weight_tables.specs.Tables.{TablesValue}
use Rattle.forward_value_search.specs.Search.{IsSearch, IsFinished}
use Rattle.forward_value_search.proofs.SearchLemmas.{finished_own, take_ready_own, turned_own, fewer_own, system_own}
use Rattle.forward_value_search.proofs.search.turn.Goals as goal

pub take-requires-clause-ready : goal.take-requires-clause-ready
take-requires-clause-ready g c =
    let v = c.args.tables.now in
    let entry = c.in-Some.ensures.entry in
    take_ready_own g.S.Semiring.operations (λ x. g.S.Semiring.laws x) c.args.first.now c.system-system.result.now c.system-system.ensures.valid v c.system-system.ensures.value c.requires c.pop.new.self c.in-Some.t
    entry.0 entry.1 entry.2 c.in-Some.ensures.taken c.valid.ensures.tables

pub returns-clause-system : goal.returns-clause-system
returns-clause-system g c =
    let v = c.args.tables.now in
    let entry = c.in-Some.ensures.entry in
    system_own g.S.Semiring.operations (λ x. g.S.Semiring.laws x) c.args.first.now c.system-system.result.now c.system-system.ensures.valid v c.system-system.ensures.value c.requires c.pop.new.self c.in-Some.t
    entry.0 entry.1 entry.2 c.in-Some.ensures.taken c.valid.ensures.tables c.take.new.tables c.in_ok-take.ensures.onward c.in_ok-take.ensures.gives

pub returns-clause-search : goal.returns-clause-search
returns-clause-search g c =
    let v = c.args.tables.now in
    let entry = c.in-Some.ensures.entry in
    turned_own g.S.Semiring.operations (λ x. g.S.Semiring.laws x) c.args.first.now c.system-system.result.now c.system-system.ensures.valid v c.system-system.ensures.value c.requires c.pop.new.self c.in-Some.t
    entry.0 entry.1 entry.2 c.in-Some.ensures.taken c.valid.ensures.tables c.take.new.tables c.in_ok-take.ensures.onward c.in_ok-take.ensures.gives

pub returns-clause-fewer : goal.returns-clause-fewer
returns-clause-fewer g c = λ _.
    let v = c.args.tables.now in
    let entry = c.in-Some.ensures.entry in
    fewer_own g.S.Semiring.operations (λ x. g.S.Semiring.laws x) c.args.first.now c.system-system.result.now c.system-system.ensures.valid v c.system-system.ensures.value c.requires c.pop.new.self c.in-Some.t
    entry.0 entry.1 entry.2 c.in-Some.ensures.taken c.valid.ensures.tables c.take.new.tables c.in_ok-take.ensures.onward c.in_ok-take.ensures.gives

pub returns-clause-done : goal.returns-clause-done
returns-clause-done g c = λ e. cc

pub returns-in_default-clause-system : goal.returns-in_default-clause-system
returns-in_default-clause-system g c =
    let v = c.args.tables.now in
    let P : Option ℕ → Type 0 = λ o. IfNone o (c.pop.new.self ≡ v) in
    ap (λ (z : TablesValue _ _ _). z.system) (subst P c.in_default.is c.pop.ensures.stays)

pub returns-in_default-clause-search : goal.returns-in_default-clause-search
returns-in_default-clause-search g c =
    let v = c.args.tables.now in
    let P : Option ℕ → Type 0 = λ o. IfNone o (c.pop.new.self ≡ v) in
    let Q : TablesValue _ _ _ → Type 0 = IsSearch g.S.Semiring.operations v.system c.args.first.now in
    subst Q (sym (subst P c.in_default.is c.pop.ensures.stays)) c.requires

pub returns-in_default-clause-fewer : goal.returns-in_default-clause-fewer
returns-in_default-clause-fewer g c = λ e. cc

pub returns-in_default-clause-done : goal.returns-in_default-clause-done
returns-in_default-clause-done g c = λ _.
    let v = c.args.tables.now in
    let P : Option ℕ → Type 0 = λ o. IfNone o (c.pop.new.self ≡ v) in
    let R : Option ℕ → Type 0 = λ o. IfNone o (NoneWaits v.base) in
    let Q : TablesValue _ _ _ → Type 0 = IsFinished g.S.Semiring.operations v.system c.args.first.now in
    subst Q (sym (subst P c.in_default.is c.pop.ensures.stays))
    (finished_own g.S.Semiring.operations (λ x. g.S.Semiring.laws x) c.args.first.now c.system-system.result.now c.system-system.ensures.valid v c.system-system.ensures.value c.requires (subst R c.in_default.is c.pop.ensures.none))

pub returns-in_default-clause-target : goal.returns-in_default-clause-target
returns-in_default-clause-target g c =
    let v = c.args.tables.now in
    let P : Option ℕ → Type 0 = λ o. IfNone o (c.pop.new.self ≡ v) in
    ap (λ (z : TablesValue _ _ _). z.target) (subst P c.in_default.is c.pop.ensures.stays)

pub returns-in_default-clause-walk : goal.returns-in_default-clause-walk
returns-in_default-clause-walk g c =
    let v = c.args.tables.now in
    let P : Option ℕ → Type 0 = λ o. IfNone o (c.pop.new.self ≡ v) in
    ap (λ (z : TablesValue _ _ _). z.walk) (subst P c.in_default.is c.pop.ensures.stays)

pub returns-clause-target : goal.returns-clause-target
returns-clause-target g c = c.in_ok-take.ensures.onward.target ∙ ap (λ (z : TablesValue _ _ _). z.target) c.in-Some.ensures.taken

pub returns-clause-walk : goal.returns-clause-walk
returns-clause-walk g c = c.in_ok-take.ensures.onward.walk ∙ ap (λ (z : TablesValue _ _ _). z.walk) c.in-Some.ensures.taken
