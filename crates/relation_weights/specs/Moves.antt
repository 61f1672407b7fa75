-- The two parts of a return map: bits that come from the callee, and bits that the caller keeps.
use Rattle.std.specs.Prelude.{ℕ, Bool, true, List, slice_index_or}
use Rattle.relation_laws.specs.States.{same_bit, each_below}
use Rattle.relation_laws.specs.Relations.{Pairs}
use Rattle.relation_weights.specs.declared.rel_map.Slot.{Slot}
use Rattle.relation_weights.specs.declared.rel_map.Slot.TheVariants.{Caller, Callee}

abbrev pub moves_bit : Slot → (ℕ → Bool) → Bool → Bool
moves_bit Caller z b = true
moves_bit (Callee u) z b = same_bit b (z u)

abbrev pub keeps_bit : Slot → Bool → Bool → Bool
keeps_bit Caller a b = same_bit a b
keeps_bit (Callee u) a b = true

-- from the callee's state to the state after the call: each bit that comes from the callee does
abbrev pub moved : ℕ → List Slot → Pairs
moved n slots z y = each_below n (λ v. moves_bit (slice_index_or slots v Caller) z (y v))

-- from the caller's state to the state after the call: each bit that the caller keeps stays
abbrev pub kept : ℕ → List Slot → Pairs
kept n slots x y = each_below n (λ v. keeps_bit (slice_index_or slots v Caller) (x v) (y v))
