-- The node of a change may stand next.
use Rattle.std.proofs.Common.{◌≡◌, ℕ, ◌<◌, List, refl, sym, subst}
use Rattle.std.specs.Prelude.{Option, None, Some, IfSome, option_map}
use Rattle.semiring_laws.specs.Semiring.{Operations, IsSemiring}
use Rattle.weighted_automata.specs.declared.place.Place.{Place}
use Rattle.weighted_automata.specs.declared.transitions.Entry.{Entry}
use Rattle.weighted_automata.specs.Entries.{entry_at}
use Rattle.witness_graph.specs.declared.node.Node.TheVariants.{Lower}
use Rattle.witness_graph.specs.Nodes.{IsNodeAt}
use Rattle.witness_graph.proofs.CallerLemmas.{orderly_from}
use Rattle.saturation_laws.specs.Jobs.{node_of}
use Rattle.saturation_laws.specs.Openings.{AreKept}
use Rattle.saturation_core.proofs.CallerLemmas.{present_at}

module _ {S W Map : Type 0} {s : Operations W Map} (laws : IsSemiring s) where
  kept_node : (x : Place) (ts : List (Entry S W Map)) (n : ℕ) → AreKept s ts n → (o : Option (Entry S W Map)) → entry_at x ts ≡ o → IfSome (option_map node_of o) (λ k. k < n)
  kept_node x ts n kept None e = tt
  kept_node x ts n kept (Some t) e = (kept.each t (present_at laws x ts t e)).1

  pub parts_node : (x : Place) (ts : List (Entry S W Map)) (n first : ℕ) (second o : Option ℕ) → AreKept s ts n → first < n → IfSome second (λ k. k < n) → o ≡ option_map node_of (entry_at x ts)
      → IsNodeAt n (Lower o None (Some first) second)
  parts_node x ts n first second o kept within within' is =
      let P : Option ℕ → Type 0 = λ i. IfSome i (λ k. k < n) in
      record { orderly = orderly_from n (Lower o None (Some first) second) (subst P (sym is) (kept_node x ts n kept (entry_at x ts) refl), within, within'); part = refl }
