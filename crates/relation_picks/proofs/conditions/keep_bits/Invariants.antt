use Rattle.std.proofs.Common.{◌↔◌, ◌*◌, ℕ, Bool, IsTrue}
use Rattle.diagram_store.specs.Diagrams.{IsOver, meaning}
use Rattle.relation_laws.specs.States.{new_state}
use Rattle.relation_picks.specs.Picks.{AreBitsBelow}
use Rattle.relation_picks.proofs.SideLemmas.{HasFirstBits}
use Rattle.relation_picks.proofs.conditions.keep_bits.Given as goal

abbrev pub invariant-loop-number : goal.invariant-loop-number
invariant-loop-number l = record {
  value : (bits : ℕ → Bool) → IsTrue (meaning l.made bits) ↔ (IsTrue (meaning l.initial.made bits) × HasFirstBits l.number-index l.wanted (new_state bits));
  variables : (n : ℕ) → AreBitsBelow n l.wanted → IsOver (2 * n) l.initial.made → IsOver (2 * n) l.made;
}
