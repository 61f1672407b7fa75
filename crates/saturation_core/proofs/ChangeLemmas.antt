-- What a change of a place keeps.
use Rattle.std.proofs.Common.{◌≡◌, inl, inr, ℕ, ◌<◌, ◌≤◌, true, false, List, length, refl, sym, ap, ◌∙◌, subst, arith}
use Rattle.std.specs.Prelude.{Option, None, Some, IfSome, cond, option_map, option_and_then, slice_get}
use Rattle.std.proofs.lemmas.Option.{same_Some, slice_get_within}
use Rattle.semiring_laws.specs.Semiring.{Operations, IsSemiring, Fits}
use Rattle.weighted_automata.specs.declared.place.Place.{Place}
use Rattle.weighted_automata.specs.declared.transitions.Entry.{Entry}
use Rattle.weighted_automata.specs.Entries.{entry_at, lowered, Present}
use Rattle.weighted_automata.proofs.CallerLemmas.{cases_place, entry_at-place, entry_at-lowered_same, entry_at-lowered_other}
use Rattle.witness_graph.specs.declared.node.Node.TheVariants.{Lower}
use Rattle.witness_graph.specs.Nodes.{IsNodeAt}
use Rattle.witness_graph.proofs.CallerLemmas.{orderly_from}
use Rattle.saturation_laws.specs.Jobs.{node_of}
use Rattle.saturation_laws.specs.States.{Change, weight_of, weight_at}
use Rattle.saturation_laws.specs.Openings.{AreKept, changed_weight}
use Rattle.saturation_core.specs.private.Steps.{IsFitChange}
use Rattle.saturation_laws.proofs.CallerLemmas.{indexed}
use Rattle.weighted_automata.specs.Entries.{index_at}

module _ {S W Map : Type 0} {s : Operations W Map} (laws : IsSemiring s) where
  -- the entry that a search found
  pub read_entry : (x : Place) (ts : List (Entry S W Map)) (k : ℕ) (o : Option ℕ) (t : Entry S W Map) → option_and_then (slice_get ts) o ≡ entry_at x ts → o ≡ Some k → slice_get ts k ≡ Some t
      → entry_at x ts ≡ Some t
  read_entry x ts k o t found is read = sym found ∙ ap (option_and_then (slice_get ts)) is ∙ read

  pub present_at : (x : Place) (ts : List (Entry S W Map)) (t : Entry S W Map) → entry_at x ts ≡ Some t → Present ts t
  present_at x ts t e = ap (λ z. entry_at z ts) (entry_at-place x ts t e) ∙ e

  pub kept_of : (x : Place) (ts : List (Entry S W Map)) (n : ℕ) → AreKept s ts n → (o : Option (Entry S W Map)) → entry_at x ts ≡ o → Fits s (weight_of s o) × IfSome (option_map node_of o) (λ k. k < n)
  kept_of x ts n kept None e = (laws.fits-zero, tt)
  kept_of x ts n kept (Some t) e = kept.each t (present_at x ts t e)

  pub kept_weight : (x : Place) (ts : List (Entry S W Map)) (n : ℕ) → AreKept s ts n → Fits s (weight_at s x ts)
  kept_weight x ts n kept = (kept_of x ts n kept (entry_at x ts) refl).0

  -- the node of a change may stand next
  pub change_node : (c : Change W) (ts : List (Entry S W Map)) (n : ℕ) (o : Option ℕ) → AreKept s ts n → IsFitChange s n c → o ≡ option_map node_of (entry_at c.goal ts) → IsNodeAt n (Lower o c.rule c.first c.second)
  change_node c ts n o kept fit is =
      let P : Option ℕ → Type 0 = λ i. IfSome i (λ k. k < n) in
      let before = subst P (sym is) (kept_of c.goal ts n kept (entry_at c.goal ts) refl).1 in
      record { orderly = orderly_from n (Lower o c.rule c.first c.second) (before, fit.first, fit.second); part = fit.part }

  pub kept_lowered : (x : Place) (w : W) (k n m : ℕ) (ts : List (Entry S W Map)) → AreKept s ts n → Fits s w → k < m → n ≤ m → AreKept s (lowered x w k ts) m
  kept_lowered x w k n m ts kept fit within more = record {
    each = λ t there. elim (cases_place x t.place) [
      | inl e ↦
          let new : Entry S W Map = record { place = x; weight = w; node = k } in
          let same : new ≡ t = same_Some new t (sym (ap (λ z. entry_at z (lowered x w k ts)) (sym e) ∙ entry_at-lowered_same x w k ts) ∙ there) in
          let P : Entry S W Map → Type 0 = λ u. Fits s u.weight × (u.node < m) in subst P same (fit, within)
      | inr other ↦
          let was = kept.each t (sym (entry_at-lowered_other x t.place w k ts other) ∙ there) in
          let below : t.node < n = was.1 in (was.0, omega (arith, below))
    ];
  }

  pub kept_more : (n m : ℕ) (ts us : List (Entry S W Map)) → us ≡ ts → n ≤ m → AreKept s ts n → AreKept s us m
  kept_more n m ts us same more kept =
      let P : List (Entry S W Map) → Type 0 = λ vs. AreKept s vs m in
      subst P (sym same) (record { each = λ t there. let was = kept.each t there in let below : t.node < n = was.1 in (was.0, omega (arith, below)) })

module _ {W Map : Type 0} {s : Operations W Map} (laws : IsSemiring s) where
  pub changed_fits : (old weight w : W) → Fits s old → Fits s weight → changed_weight s old weight ≡ Some w → Fits s w
  changed_fits old weight w fo fw changed =
      let new = s.combine old weight in
      elim (s.same new old) as (λ b. cond b None (Some new) ≡ Some w → Fits s w) [
        | true ↦ λ h. cc
        | false ↦ λ h. let P : W → Type 0 = Fits s in subst P (same_Some new w h) (laws.fits-combine old weight fo fw)
      ] changed

-- what a search finds is there
pub found_within : {S W Map : Type 0} (x : Place) (ts : List (Entry S W Map)) (o : Option ℕ) → o ≡ index_at x ts → IfSome o (λ k. k < length ts)
found_within x ts None is = tt
found_within x ts (Some k) is = let there = indexed x ts k (sym is) in slice_get_within ts k there.0 there.1
