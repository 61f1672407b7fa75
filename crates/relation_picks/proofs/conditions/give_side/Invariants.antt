use Rattle.std.proofs.Common.{◌≡◌, ℕ, Bool}
use Rattle.diagram_store.specs.Diagrams.{IsOver, meaning}
use Rattle.diagram_store.specs.Meaning.{bits_of}
use Rattle.relation_picks.specs.private.Sides.{with_side}
use Rattle.relation_picks.proofs.conditions.give_side.Given as goal

abbrev pub invariant-loop-i : goal.invariant-loop-i
invariant-loop-i l = record {
  value : (bits : ℕ → Bool) → meaning l.made bits ≡ meaning l.d (with_side l.side l.i (bits_of l.values) bits);
  variables : (limit : ℕ) → IsOver limit l.d → IsOver limit l.made;
}
