use Rattle.std.proofs.Common.{length, sym, subst}
use Rattle.semiring_laws.specs.Semiring.{Fits}
use Rattle.path_sum.specs.Sums.{pair_place}
use Rattle.path_sum.proofs.ReadyLemmas.{number_within, numbered_kept}
use Rattle.path_sum.proofs.growing.Growing.finish.Goals as goal

pub pair-from-requires : goal.pair-from-requires
pair-from-requires g c = number_within (pair_place c.args.i c.args.state) c.args.self.now.pairs.transitions c.args.number c.requires.ready.at

pub copy-requires : goal.copy-requires
copy-requires g c =
    let pair = numbered_kept (g.S.Semiring.laws c.args.input.now.semiring) (pair_place c.args.i c.args.state) c.args.self.now.pairs.transitions (length c.args.self.now.nodes.nodes) c.args.number
    c.pair-from.result.now c.requires.ready.pairs c.requires.ready.at c.pair-from.ensures in
    subst (λ m. Fits (g.S.Semiring.operations m) c.pair-from.result.now.weight) (sym c.semiring-semiring.ensures) pair.0

pub apply-requires-clause-weight : goal.apply-requires-clause-weight
apply-requires-clause-weight g c =
    let pair = numbered_kept (g.S.Semiring.laws c.args.input.now.semiring) (pair_place c.args.i c.args.state) c.args.self.now.pairs.transitions (length c.args.self.now.nodes.nodes) c.args.number
    c.pair-from.result.now c.requires.ready.pairs c.requires.ready.at c.pair-from.ensures in
    let fit = subst (λ m. Fits (g.S.Semiring.operations m) c.pair-from.result.now.weight) (sym c.semiring-semiring.ensures) pair.0 in
    subst (Fits (g.S.Semiring.operations c.semiring-semiring.result.now)) (sym c.in_ok-weight.ensures) fit

pub apply-requires-clause-first : goal.apply-requires-clause-first
apply-requires-clause-first g c =
    let pair = numbered_kept (g.S.Semiring.laws c.args.input.now.semiring) (pair_place c.args.i c.args.state) c.args.self.now.pairs.transitions (length c.args.self.now.nodes.nodes) c.args.number
    c.pair-from.result.now c.requires.ready.pairs c.requires.ready.at c.pair-from.ensures in
    pair.1
