use Rattle.std.proofs.Common.{◌≡◌, ◌+◌, length, sym, ap, ◌∙◌, arith}
use Rattle.std.specs.Prelude.{option_map}
use Rattle.std.proofs.lemmas.List.{length_push}
use Rattle.weighted_automata.specs.Entries.{entry_at, lowered}
use Rattle.witness_graph.specs.declared.node.Node.TheVariants.{Lower}
use Rattle.semiring_laws.specs.Semiring.{Fits}
use Rattle.saturation_laws.specs.Jobs.{node_of}
use Rattle.saturation_laws.specs.States.{weight_at, weight_of}
use Rattle.saturation_laws.specs.Openings.{changed_weight}
use Rattle.saturation_core.specs.private.Steps.{change_by}
use Rattle.saturation_core.proofs.ChangeLemmas.{changed_fits, change_node, found_within, kept_lowered, kept_more, kept_weight}
use Rattle.saturation_core.proofs.found.Found.apply_change.Goals as goal

pub changed_at-requires-clause-at : goal.changed_at-requires-clause-at
changed_at-requires-clause-at g c = found_within c.args.place c.list-transitions.result.now.transitions c.find-at.result c.find-at.ensures.index

pub node_at-requires : goal.node_at-requires
node_at-requires g c = found_within c.args.place c.list-transitions.result.now.transitions c.find-at.result c.find-at.ensures.index

pub push_node-requires : goal.push_node-requires
push_node-requires g c =
    change_node (g.S.Semiring.laws c.args.semiring.now) (change_by c.args.place c.args.weight.now c.args.parts) c.args.self.now.transitions.transitions (length c.args.self.now.graph.nodes)
    c.node_at.result c.requires.kept c.requires.fit (c.node_at.ensures ∙ ap (option_map node_of) (c.find-at.ensures.entry ∙ ap (entry_at c.args.place) c.list-transitions.ensures))

pub returns-clause-kept : goal.returns-clause-kept
returns-clause-kept g c =
    let s = g.S.Semiring.operations c.args.semiring.now in
    let law = g.S.Semiring.laws c.args.semiring.now in
    let ts = c.args.self.now.transitions.transitions in
    let n = length c.args.self.now.graph.nodes in
    let m = length c.push_node.new.self.nodes in
    let one : m ≡ n + 1 = ap length c.in_ok-number.ensures.ok ∙ length_push c.args.self.now.graph.nodes (Lower c.node_at.result c.args.parts.rule c.args.parts.first c.args.parts.second) in
    let old : Fits s (weight_at s c.args.place ts) = kept_weight law c.args.place ts n c.requires.kept in
    let found = ap (λ o. changed_weight s (weight_of s o) c.args.weight.now) (c.find-at.ensures.entry ∙ ap (entry_at c.args.place) c.list-transitions.ensures) in
    let new : Fits s c.in-Some.new = changed_fits law (weight_at s c.args.place ts) c.args.weight.now c.in-Some.new old c.requires.fit.weight (sym (c.in_ok-new.ensures ∙ found) ∙ c.in-Some.is) in
    let at : c.in_ok-number.number ≡ n = c.in_ok-number.ensures.number in
    let lower = kept_lowered law c.args.place c.in-Some.new c.in_ok-number.number n m ts c.requires.kept new (omega (arith, one, at)) (omega (arith, one)) in
    kept_more law m m (lowered c.args.place c.in-Some.new c.in_ok-number.number ts) c.lower.new.self.transitions c.in_ok-lower.ensures.transitions (omega arith) lower
