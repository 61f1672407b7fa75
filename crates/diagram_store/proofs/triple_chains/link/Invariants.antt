use Rattle.std.proofs.Common.{◌≡◌, ℕ, length, take}
use Rattle.diagram_store.specs.TripleTables.{known}
use Rattle.diagram_store.specs.private.TripleChains.{IsLinked}
use Rattle.diagram_store.proofs.triple_chains.link.Given as goal

abbrev pub invariant-loop-k : goal.invariant-loop-k
invariant-loop-k l = record {
  linked : IsLinked l.heads (take l.k l.entries);
  buckets : length l.heads ≡ length l.fn.heads;
  count : length l.entries ≡ length l.fn.entries;
  known : (x y z : ℕ) → known l.entries x y z ≡ known l.fn.entries x y z;
}
