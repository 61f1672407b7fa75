use Rattle.std.proofs.Common.{sym, ap, ap₂, ◌∙◌, subst}
use Rattle.saturation_laws.specs.Openings.{found_so_far}
use Rattle.path_sum.specs.private.Growing.{state_of}
use Rattle.path_sum.specs.private.Rounds.{IsUnderWay, input_of}
use Rattle.path_sum.proofs.FinishedLemmas.{input_is, begun_at, ready_at, round_at}
use Rattle.path_sum.proofs.summing.walk.Goals as goal

pub rounds-init : goal.rounds-init
rounds-init g c =
    let p = c.args.system.now in
    let d = c.args.direction.now in
    let valid = c.semiring-semiring.ensures.valid in
    let sums = g.met.D.Direction.sums d p c.args.opening.now valid c.requires.automaton.fits in
    let is_task = input_is g.S.Semiring.laws valid c.requires.automaton sums c.args.pattern.now c.requires.pattern
    c.in_ok-input.input c.semiring-semiring.result.now c.side-side.result c.in_ok-input.ensures c.semiring-semiring.ensures.value (c.side-side.ensures p) in (
      begun_at g.S.Semiring.laws valid c.requires.automaton sums c.args.pattern.now c.requires.pattern
          c.in_ok-input.input is_task (state_of c.in_ok-sum.sum) c.in_ok-sum.ensures.state,
      c.in_ok-sum.ensures.graph,
    )

pub draw-requires : goal.draw-requires
draw-requires g c =
    let p = c.args.system.now in
    let d = c.args.direction.now in
    let valid = c.semiring-semiring.ensures.valid in
    let sums = g.met.D.Direction.sums d p c.args.opening.now valid c.requires.automaton.fits in
    let is_task = input_is g.S.Semiring.laws valid c.requires.automaton sums c.args.pattern.now c.requires.pattern
    c.in_ok-input.input c.semiring-semiring.result.now c.side-side.result c.in_ok-input.ensures c.semiring-semiring.ensures.value (c.side-side.ensures p) in
    let mid = found_so_far c.pop.new.self.transitions c.rounds.sum.nodes.nodes c.pop.new.self.queue in
    let taken = ap (λ ts. found_so_far ts c.rounds.sum.nodes.nodes c.pop.new.self.queue) c.pop.ensures.transitions in
    record {
      ready = ready_at g.S.Semiring.laws valid c.requires.automaton sums c.args.pattern.now c.requires.pattern
          c.in_ok-input.input is_task (state_of c.rounds.sum) mid c.in-Some.taken.number c.in-Some.taken.place c.pop.new.self.queue c.rounds.invariant.0 taken c.in-Some.ensures.at;
    }

pub rounds-smaller : goal.rounds-smaller
rounds-smaller g c =
    let p = c.args.system.now in
    let d = c.args.direction.now in
    let valid = c.semiring-semiring.ensures.valid in
    let sums = g.met.D.Direction.sums d p c.args.opening.now valid c.requires.automaton.fits in
    let is_task = input_is g.S.Semiring.laws valid c.requires.automaton sums c.args.pattern.now c.requires.pattern
    c.in_ok-input.input c.semiring-semiring.result.now c.side-side.result c.in_ok-input.ensures c.semiring-semiring.ensures.value (c.side-side.ensures p) in
    let mid = found_so_far c.pop.new.self.transitions c.rounds.sum.nodes.nodes c.pop.new.self.queue in
    let taken = ap (λ ts. found_so_far ts c.rounds.sum.nodes.nodes c.pop.new.self.queue) c.pop.ensures.transitions in
    let round = round_at g.S.Semiring.laws valid c.requires.automaton sums c.args.pattern.now c.requires.pattern
    c.in_ok-input.input is_task (state_of c.rounds.sum) mid (state_of c.draw.new.self) c.in-Some.taken.place c.pop.new.self.queue c.rounds.invariant.0 taken c.in-Some.ensures.place c.in_ok-draw.ensures.grows in
    round.1

pub rounds-preserved : goal.rounds-preserved
rounds-preserved g c =
    let p = c.args.system.now in
    let d = c.args.direction.now in
    let valid = c.semiring-semiring.ensures.valid in
    let sums = g.met.D.Direction.sums d p c.args.opening.now valid c.requires.automaton.fits in
    let is_task = input_is g.S.Semiring.laws valid c.requires.automaton sums c.args.pattern.now c.requires.pattern
    c.in_ok-input.input c.semiring-semiring.result.now c.side-side.result c.in_ok-input.ensures c.semiring-semiring.ensures.value (c.side-side.ensures p) in
    let mid = found_so_far c.pop.new.self.transitions c.rounds.sum.nodes.nodes c.pop.new.self.queue in
    let taken = ap (λ ts. found_so_far ts c.rounds.sum.nodes.nodes c.pop.new.self.queue) c.pop.ensures.transitions in
    let round = round_at g.S.Semiring.laws valid c.requires.automaton sums c.args.pattern.now c.requires.pattern
    c.in_ok-input.input is_task (state_of c.rounds.sum) mid (state_of c.draw.new.self) c.in-Some.taken.place c.pop.new.self.queue c.rounds.invariant.0 taken c.in-Some.ensures.place c.in_ok-draw.ensures.grows in
    (round.0, c.in_ok-draw.ensures.graph ∙ c.rounds.invariant.1)

pub returns-clause-walked : goal.returns-clause-walked
returns-clause-walked g c =
    let p = c.args.system.now in
    let s = g.S.Semiring.operations p.semiring in
    let over = input_of g.S.Semiring.operations g.D.Direction.way p c.args.direction.now c.args.opening.now c.args.transitions.now.transitions c.args.graph.now.nodes c.args.pattern.now in
    let same = ap₂ (λ ts q. found_so_far ts c.rounds.sum.nodes.nodes q) (sym c.pop.ensures.transitions) (sym c.in_default.ensures.none) in
    record { under_way = subst (IsUnderWay s over c.args.graph.now.nodes) same c.rounds.invariant.0; ended = c.in_default.ensures.none ∙ c.in_default.ensures.place }
