use Rattle.std.proofs.Common.{◌≡◌, ℕ, ◌<◌, length, sym, ap, ◌∙◌, subst}
use Rattle.std.specs.Prelude.{None, Some}
use Rattle.semiring_laws.specs.Semiring.{Fits}
use Rattle.saturation_laws.specs.States.{CoreState, Change, apply}
use Rattle.saturation_laws.specs.Paths.{in_order}
use Rattle.path_sum.specs.Sums.{pair_place, ways_of, first_part, second_part}
use Rattle.path_sum.specs.private.Growing.{given, state_of}
use Rattle.path_sum.proofs.MoveLemmas.{followed}
use Rattle.path_sum.proofs.OrderLemmas.{order_fits}
use Rattle.path_sum.proofs.ReadyLemmas.{number_within, numbered_entry, numbered_kept, first_within, second_within, ready_after}
use Rattle.path_sum.proofs.growing.Growing.follow.Goals as goal

pub pair-from-requires : goal.pair-from-requires
pair-from-requires g c = number_within (pair_place c.args.i c.args.transition.now.place.from) c.args.self.now.pairs.transitions c.args.number c.requires.ready.at

pub product-requires-clause-pair : goal.product-requires-clause-pair
product-requires-clause-pair g c =
    let pair = numbered_kept (g.S.Semiring.laws c.args.input.now.semiring) (pair_place c.args.i c.args.transition.now.place.from) c.args.self.now.pairs.transitions (length c.args.self.now.nodes.nodes) c.args.number
    c.pair-from.result.now c.requires.ready.pairs c.requires.ready.at c.pair-from.ensures in
    subst (λ m. Fits (g.S.Semiring.operations m) c.pair-from.result.now.weight) (sym c.semiring-semiring.ensures) pair.0

pub apply-requires-clause-weight : goal.apply-requires-clause-weight
apply-requires-clause-weight g c =
    let semiring = c.semiring-semiring.result.now in
    let pair = numbered_kept (g.S.Semiring.laws c.args.input.now.semiring) (pair_place c.args.i c.args.transition.now.place.from) c.args.self.now.pairs.transitions (length c.args.self.now.nodes.nodes) c.args.number
    c.pair-from.result.now c.requires.ready.pairs c.requires.ready.at c.pair-from.ensures in
    let other = c.requires.ready.transitions.each c.args.transition.now c.requires.there in
    let fit = order_fits (g.S.Semiring.laws c.args.input.now.semiring) c.side-side.result c.pair-from.result.now.weight c.args.transition.now.weight pair.0 other.0 in
    let e : c.args.input.now.semiring ≡ semiring = sym c.semiring-semiring.ensures in
    let whole = ap (λ m. Rattle.saturation_laws.specs.Paths.in_order (g.S.Semiring.operations m) c.side-side.result c.pair-from.result.now.weight c.args.transition.now.weight) c.semiring-semiring.ensures in
    subst (λ m. Fits (g.S.Semiring.operations m) c.in_ok-weight.weight) e (subst (Fits (g.S.Semiring.operations c.args.input.now.semiring)) (sym (c.in_ok-weight.ensures ∙ whole)) fit)

pub apply-requires-clause-first : goal.apply-requires-clause-first
apply-requires-clause-first g c =
    let n = length c.args.self.now.nodes.nodes in
    let pair = numbered_kept (g.S.Semiring.laws c.args.input.now.semiring) (pair_place c.args.i c.args.transition.now.place.from) c.args.self.now.pairs.transitions n c.args.number
    c.pair-from.result.now c.requires.ready.pairs c.requires.ready.at c.pair-from.ensures in
    let other = c.requires.ready.transitions.each c.args.transition.now c.requires.there in
    subst (λ k. k < n) (sym c.parts-first.ensures.first) (first_within c.side-side.result c.pair-from.result.now.node c.args.transition.now.node n pair.1 other.1)

pub apply-requires-clause-second : goal.apply-requires-clause-second
apply-requires-clause-second g c =
    let n = length c.args.self.now.nodes.nodes in
    let pair = numbered_kept (g.S.Semiring.laws c.args.input.now.semiring) (pair_place c.args.i c.args.transition.now.place.from) c.args.self.now.pairs.transitions n c.args.number
    c.pair-from.result.now c.requires.ready.pairs c.requires.ready.at c.pair-from.ensures in
    let other = c.requires.ready.transitions.each c.args.transition.now c.requires.there in
    subst (λ k. k < n) (sym c.parts-first.ensures.second) (second_within c.side-side.result c.pair-from.result.now.node c.args.transition.now.node n pair.1 other.1)

pub returns-clause-moves : goal.returns-clause-moves
returns-clause-moves g c =
    let input = c.args.input.now in
    let m = c.semiring-semiring.result.now in
    let t = c.args.transition.now in
    let u = c.pair-from.result.now in
    let st = state_of c.args.self.now in
    let F : g.row.S.Denot → g.row.S-W.Denot → ℕ → ℕ → CoreState g.row.S.Denot g.row.S-W.Denot g.row.S-Ret.Denot =
    λ n w first second. apply (g.S.Semiring.operations n) (given (pair_place c.args.j t.place.to) w first (Some second)) st in
    let made = c.in_ok-apply.ensures.state
    ∙ ap (λ w. F m w c.parts-first.result.0 c.parts-first.result.1) c.in_ok-weight.ensures
    ∙ ap (λ n. F n (in_order (g.S.Semiring.operations n) c.side-side.result u.weight t.weight) c.parts-first.result.0 c.parts-first.result.1) c.semiring-semiring.ensures
    ∙ ap (λ k. F input.semiring (in_order (g.S.Semiring.operations input.semiring) c.side-side.result u.weight t.weight) k c.parts-first.result.1) c.parts-first.ensures.first
    ∙ ap (λ k. F input.semiring (in_order (g.S.Semiring.operations input.semiring) c.side-side.result u.weight t.weight) (first_part c.side-side.result u.node t.node) k) c.parts-first.ensures.second
    ∙ ap (λ sd. F input.semiring (in_order (g.S.Semiring.operations input.semiring) sd u.weight t.weight) (first_part sd u.node t.node) (second_part sd u.node t.node)) c.side-side.ensures in
    followed (g.S.Semiring.operations input.semiring) input.side input.opening input.transitions (ways_of input.pattern) c.args.i c.args.j u t st (state_of c.apply.new.self)
    c.requires.edge (numbered_entry (pair_place c.args.i t.place.from) c.args.self.now.pairs.transitions c.args.number u c.requires.ready.at c.pair-from.ensures) c.requires.there made

pub returns-clause-ready : goal.returns-clause-ready
returns-clause-ready g c =
    let e = c.semiring-semiring.ensures in
    let change : Change g.row.S-W.Denot = record {
      goal = pair_place c.args.j c.args.transition.now.place.to;
      weight = c.in_ok-weight.weight;
      rule = None;
      first = Some c.parts-first.result.0;
      second = Some c.parts-first.result.1;
    } in
    ready_after (g.S.Semiring.laws c.args.input.now.semiring) c.args.input.now.transitions c.args.number (pair_place c.args.i c.args.transition.now.place.from) change (state_of c.args.self.now) (state_of c.apply.new.self) c.requires.ready
    (subst (λ m. state_of c.apply.new.self ≡ apply (g.S.Semiring.operations m) change (state_of c.args.self.now)) e c.in_ok-apply.ensures.state)
    (subst (λ m. Rattle.saturation_laws.specs.Openings.AreKept (g.S.Semiring.operations m) c.apply.new.self.pairs.transitions (length c.apply.new.self.nodes.nodes)) e c.in_ok-apply.ensures.kept)
