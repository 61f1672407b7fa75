-- Which slots a return map has.
use Rattle.std.specs.Prelude.{◌≡◌, ℕ, ◌<◌, Bool, true, false, not, ◌||◌, nat_eq, List, slice_index_or}
use Rattle.diagram_ops.specs.Quantifying.{is_listed}
use Rattle.relation_laws.specs.States.{same_bit}
use Rattle.relation_weights.specs.declared.rel_map.Slot.{Slot}
use Rattle.relation_weights.specs.declared.rel_map.Slot.TheVariants.{Caller, Callee}

abbrev pub is_caller : Slot → Bool
is_caller Caller = true
is_caller (Callee u) = false

abbrev pub is_own : ℕ → Slot → Bool
is_own v Caller = false
is_own v (Callee u) = nat_eq u v

-- what a move makes of number v: its own bit is left to the frame
abbrev pub far_bit : ℕ → Slot → (ℕ → Bool) → Bool → Bool
far_bit v Caller z b = true
far_bit v (Callee u) z b = nat_eq u v || same_bit b (z u)

-- of the numbers below n those are listed whose slots do not pass
abbrev pub ListsOthers : (ℕ → Slot → Bool) → ℕ → List Slot → List ℕ → Type 0
ListsOthers test n slots list = (k : ℕ) → k < n → is_listed list k ≡ not (test k (slice_index_or slots k Caller))
