use Rattle.std.proofs.Common.{◌↔◌, ℕ, Bool}
use Rattle.relation_picks.specs.Picks.{AreBitsBelow, HasBits}
use Rattle.run_settings.proofs.SlotLemmas.{ComeBack}
use Rattle.run_settings.proofs.returns.bits_back.Given as goal

abbrev pub invariant-loop-k : goal.invariant-loop-k
invariant-loop-k l = record {
  below : AreBitsBelow l.n l.wanted.items;
  bits : (y : ℕ → Bool) → HasBits l.wanted.items y ↔ ComeBack l.map l.behind l.k y;
}
