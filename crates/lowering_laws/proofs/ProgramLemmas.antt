-- Points of programs over diagrams.
use Rattle.std.proofs.Common.{◌↔◌, ℕ, subst}
use Rattle.pushdown_rules.specs.Pushdown.{Pushdown, IsSystem}
use Rattle.pushdown_rules.specs.Answers.{HasFeasibleRun}
use Rattle.config_patterns.specs.Membership.{has_member}
use Rattle.relation_laws.specs.Building.{Parts}
use Rattle.relation_laws.specs.Relations.{leads}
use Rattle.relation_weights.specs.declared.rel_map.RelMap.{RelMap}
use Rattle.relation_weights.specs.Relations.{relation_operations}
use Rattle.relation_weights.specs.RelationLaws.{relation_laws}
use Rattle.boolean_programs.specs.Programs.{Program}
use Rattle.boolean_programs.specs.declared.point.Point.{Point}
use Rattle.boolean_machine.specs.Machine.{IsReached}
use Rattle.boolean_machine.specs.Lawful.{IsLawful}
use Rattle.setting_runs.specs.Relations.{MeansRelations}
use Rattle.lowering_laws.specs.Lowering.{variables}
use Rattle.program_laws.specs.ReadPrograms.{IsPoint}
use Rattle.lowering_laws.specs.Queries.{entry_pattern, point_pattern}
use Rattle.lowering_laws.proofs.ReachingLemmas.{reached, feasible_of}
use Rattle.lowering_laws.specs.Weights.{slots_of, IsDiagramLowering}

pub decided : ((n : ℕ) → MeansRelations (relation_operations n) n leads slots_of) → (p : Program) (point : Point) (system : Pushdown ℕ Parts RelMap)
    → IsLawful p → IsPoint p point → IsSystem relation_operations system → IsDiagramLowering p system
    → HasFeasibleRun (relation_operations (variables p)) system (has_member (entry_pattern p)) (has_member (point_pattern p point)) ↔ IsReached p point
decided means_relations p point system lawful is_point valid made =
    let low = made.lowering in
    let means : MeansRelations (relation_operations system.semiring) (variables p) leads slots_of =
    subst (λ n. MeansRelations (relation_operations system.semiring) n leads slots_of) made.semiring (means_relations system.semiring) in
    subst (λ n. HasFeasibleRun (relation_operations n) system (has_member (entry_pattern p)) (has_member (point_pattern p point)) ↔ IsReached p point) made.semiring
    ((λ h. reached low lawful valid (relation_laws system.semiring) means point is_point h), λ h. feasible_of low lawful valid (relation_laws system.semiring) means point h)
