use Rattle.std.proofs.Common.{◌≡◌, ℕ, ◌<◌, length, get_or}
use Rattle.relation_weights.specs.declared.rel_map.Slot.TheVariants.{Caller}
use Rattle.lowering_laws.specs.Lowering.{map_slot}
use Rattle.boolean_lowering.specs.private.Made.{program_in}
use Rattle.boolean_lowering.proofs.making.Making.map.Given as goal

abbrev pub invariant-loop-variable : goal.invariant-loop-variable
invariant-loop-variable l = record {
  long : length l.slots ≡ 24;
  before : (v : ℕ) → v < l.variable → get_or l.slots v Caller ≡ map_slot (program_in l.self) l.targets v;
}
