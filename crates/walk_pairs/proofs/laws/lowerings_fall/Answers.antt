use Rattle.semiring_laws.specs.Semiring.{Fits}
use Rattle.walk_pairs.proofs.LoweringLemmas.{lowered_falls, lowered_counts, lowered_all_turns}
use Rattle.walk_pairs.proofs.laws.lowerings_fall.Goals as goal

pub returns-clause-falls : goal.returns-clause-falls
returns-clause-falls g c = λ x old new fits by y.
    let s = g.S.Semiring.operations x in
    lowered_falls (g.S.Semiring.laws x) (λ _ w. Fits s w) (λ _ _ f. f) old new by fits y

pub returns-clause-counts : goal.returns-clause-counts
returns-clause-counts g c = λ x old new fits by y.
    let s = g.S.Semiring.operations x in
    lowered_counts (g.S.Semiring.laws x) (λ _ w. Fits s w) (λ _ _ f. f) old new by fits y

pub returns-clause-turns : goal.returns-clause-turns
returns-clause-turns g c = λ x old new fits by few.
    let s = g.S.Semiring.operations x in
    lowered_all_turns (g.S.Semiring.laws x) (λ _ w. Fits s w) (λ _ _ f. f) old new by fits few
