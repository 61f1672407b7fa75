use Rattle.std.proofs.Common.{◌≡◌, List, [], ◌∷◌, reverse, refl, sym, ap, ◌∙◌, subst}
use Rattle.std.specs.List.{AllByRecursion}
use Rattle.std.proofs.lemmas.List.{reverse-append}
use Rattle.semiring_laws.specs.Semiring.{Fits}
use Rattle.pushdown_rules.specs.RunValue.{Frame, FitsFrame, Machine}
use Rattle.relation_laws.specs.Building.{Parts}
use Rattle.relation_weights.specs.declared.rel_map.RelMap.{RelMap}
use Rattle.relation_weights.specs.Relations.{relation_operations}
use Rattle.run_settings.proofs.JoinLemmas.{product_fits}
use Rattle.run_settings.proofs.machine.Machine.give_back.Goals as goal

pub returned-requires-clause-call : goal.returned-requires-clause-call
returned-requires-clause-call c =
    let m = c.args.relations.now in
    let front = c.pop.new.self.items in
    let call = c.in-Some.call in
    let same : reverse c.self.inside.frames.items ≡ call ∷ reverse front =
    ap reverse c.in-Some.ensures.items ∙ reverse-append front (call ∷ []) in
    let fits = subst (λ (x : Machine Parts RelMap). AllByRecursion (FitsFrame (relation_operations m)) x.frames) (sym c.self.view_is) c.requires.machine.frames in
    (subst (λ (l : List (Frame Parts RelMap)). AllByRecursion (FitsFrame (relation_operations m)) l) same fits).0

pub returned-requires-clause-value : goal.returned-requires-clause-value
returned-requires-clause-value c =
    let m = c.args.relations.now in
    product_fits m m refl c.self.inside.accumulator c.args.weight.now c.in_ok-value.value
    (subst (λ (x : Machine Parts RelMap). Fits (relation_operations m) x.accumulator) (sym c.self.view_is) c.requires.machine.accumulator)
    c.requires.weight c.in_ok-value.ensures
