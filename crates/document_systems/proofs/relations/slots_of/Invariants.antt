use Rattle.std.proofs.Common.{◌≡◌, ◌<◌, ℕ, get_or, length}
use Rattle.wpds_base.specs.Limits.{most_related}
use Rattle.relation_weights.specs.declared.rel_map.Slot.TheVariants.{Caller}
use Rattle.document_systems.specs.RelationWeights.{slot_of}
use Rattle.document_systems.proofs.relations.slots_of.Given as goal

abbrev pub invariant-loop-variable : goal.invariant-loop-variable
invariant-loop-variable l =
    (length l.slots ≡ most_related) × ((k : ℕ) → k < l.variable → get_or l.slots k Caller ≡ slot_of l.text k)
