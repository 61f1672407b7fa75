use Rattle.lowering_laws.proofs.ReachingLemmas.{reached, feasible_of}
use Rattle.lowering_laws.proofs.laws.points_are_reached.Goals as goal

pub returns : goal.returns
returns g c = λ p point system relates slots lawful is_point valid means low. (
  λ feasible. reached low lawful valid (g.S.Semiring.laws system.semiring) means point is_point feasible,
  λ is_reached. feasible_of low lawful valid (g.S.Semiring.laws system.semiring) means point is_reached,
)
