-- What is known of a state on which a pair can be worked.
use Rattle.std.proofs.Common.{◌≡◌, ℕ, ◌+◌, ◌<◌, ◌≤◌, true, false, List, [], ◌∷◌, length, refl, sym, ap, ◌∙◌, subst, arith}
use Rattle.std.specs.Prelude.{None, Some, cond, option_map, option_and_then, slice_get}
use Rattle.std.proofs.lemmas.Bool.{cond_both}
use Rattle.std.proofs.lemmas.List.{length_push}
use Rattle.std.proofs.lemmas.Option.{slice_get_within}
use Rattle.semiring_laws.specs.Semiring.{Operations, IsSemiring, Fits}
use Rattle.weighted_automata.specs.declared.place.Place.{Place}
use Rattle.weighted_automata.specs.declared.transitions.Entry.{Entry}
use Rattle.weighted_automata.specs.Entries.{entry_at, index_at, lowered}
use Rattle.weighted_automata.specs.Places.{same_place}
use Rattle.weighted_automata.proofs.CallerLemmas.{at_index_at, same_place_is}
use Rattle.witness_graph.specs.declared.node.Node.TheVariants.{Lower}
use Rattle.witness_graph.specs.declared.node.Side.{Side}
use Rattle.witness_graph.specs.declared.node.Side.TheVariants.{Pre, Post}
use Rattle.saturation_laws.specs.Jobs.{node_of}
use Rattle.saturation_laws.specs.Openings.{AreKept}
use Rattle.saturation_laws.specs.States.{CoreState, Change, weight_at, lower_state, apply}
use Rattle.saturation_laws.proofs.CallerLemmas.{indexed}
use Rattle.saturation_core.proofs.CallerLemmas.{present_at, kept_more}
use Rattle.path_sum.specs.private.Growing.{IsReady}
use Rattle.path_sum.specs.Sums.{first_part, second_part}

pub first_within : (side : Side) (a b n : ℕ) → a < n → b < n → first_part side a b < n
first_within Pre a b n wa wb = wa
first_within Post a b n wa wb = wb

pub second_within : (side : Side) (a b n : ℕ) → a < n → b < n → second_part side a b < n
second_within Pre a b n wa wb = wb
second_within Post a b n wa wb = wa

module _ {S W Map : Type 0} where
  -- the entry with the number of a place
  pub numbered_entry : (x : Place) (ts : List (Entry S W Map)) (k : ℕ) (u : Entry S W Map) → index_at x ts ≡ Some k → slice_get ts k ≡ Some u → entry_at x ts ≡ Some u
  numbered_entry x ts k u at read = sym (at_index_at x ts) ∙ ap (option_and_then (slice_get ts)) at ∙ read

  pub number_within : (x : Place) (ts : List (Entry S W Map)) (k : ℕ) → index_at x ts ≡ Some k → k < length ts
  number_within x ts k at = let there = indexed x ts k at in slice_get_within ts k there.0 there.1

  -- a place that is there keeps its number
  number_stays : (x y : Place) (w : W) (n k : ℕ) (ts : List (Entry S W Map)) → index_at y ts ≡ Some k → index_at y (lowered x w n ts) ≡ Some k
  number_stays x y w n k [] at = cc
  number_stays x y w n k (u ∷ ts) at =
      let new : Entry S W Map = record { place = x; weight = w; node = n } in
      let P : List (Entry S W Map) → Type 0 = λ us. index_at y us ≡ Some k in
      cond_both (same_place u.place x) (new ∷ ts) (u ∷ lowered x w n ts) P
      (λ e. ap (λ z. cond (same_place z y) (Some 0) (option_map (λ i. i + 1) (index_at y ts))) (sym (same_place_is u.place x e)) ∙ at)
      (λ e. elim (same_place u.place y) as (λ b. cond b (Some 0) (option_map (λ i. i + 1) (index_at y ts)) ≡ Some k → cond b (Some 0) (option_map (λ i. i + 1) (index_at y (lowered x w n ts))) ≡ Some k) [
        | true ↦ λ h. h
        | false ↦ λ h. elim (index_at y ts) as (λ o. index_at y ts ≡ o → option_map (λ i. i + 1) o ≡ Some k → option_map (λ i. i + 1) (index_at y (lowered x w n ts)) ≡ Some k) [
          | None ↦ λ was f. cc
          | Some j ↦ λ was f. ap (option_map (λ i. i + 1)) (number_stays x y w n j ts was) ∙ f
        ] refl h
      ] at)

module _ {S W Map : Type 0} {s : Operations W Map} (laws : IsSemiring s) where
  -- the entry with the number of a place has a weight of the semiring and a node that is there
  pub numbered_kept : (x : Place) (ts : List (Entry S W Map)) (n k : ℕ) (u : Entry S W Map) → AreKept s ts n → index_at x ts ≡ Some k → slice_get ts k ≡ Some u → Fits s u.weight × (u.node < n)
  numbered_kept x ts n k u kept at read = kept.each u (present_at laws x ts u (numbered_entry x ts k u at read))

  -- a change moves no transition, and takes no node away
  apply_there : (x : Place) (k : ℕ) (c : Change W) (st : CoreState S W Map) → index_at x st.transitions ≡ Some k → (index_at x (apply s c st).transitions ≡ Some k) × (length st.nodes ≤ length (apply s c st).nodes)
  apply_there x k c st at =
      let old = weight_at s c.goal st.transitions in
      let new = s.combine old c.weight in
      let after = lower_state s c new st in
      let P : CoreState S W Map → Type 0 = λ m. (index_at x m.transitions ≡ Some k) × (length st.nodes ≤ length m.nodes) in
      cond_both (s.same new old) st after P
      (λ e. (at, omega arith))
      (λ e. (
        number_stays c.goal x new (length st.nodes) k st.transitions at,
        omega (arith, length_push st.nodes (Lower (option_map node_of (entry_at c.goal st.transitions)) c.rule c.first c.second)),
      ))

  pub ready_after : (ts : List (Entry S W Map)) (k : ℕ) (x : Place) (c : Change W) (st new : CoreState S W Map) → IsReady s ts k x st → new ≡ apply s c st → AreKept s new.transitions (length new.nodes) → IsReady s ts k x new
  ready_after ts k x c st new ready is kept =
      let P : CoreState S W Map → Type 0 = λ m. (index_at x m.transitions ≡ Some k) × (length st.nodes ≤ length m.nodes) in
      let there = subst P (sym is) (apply_there x k c st ready.at) in
      record { at = there.0; pairs = kept; transitions = kept_more laws (length st.nodes) (length new.nodes) ts ts refl there.1 ready.transitions }
