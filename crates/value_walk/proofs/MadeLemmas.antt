-- What a pair gives is made of runs, as the pair is.
use Rattle.std.proofs.Common.{◌≡◌, inl, inr, ℕ, suc, List, sym, subst}
use Rattle.semiring_laws.specs.Semiring.{Operations, IsSemiring, Fits}
use Rattle.pushdown_rules.specs.Pushdown.{Pushdown, IsSystem}
use Rattle.pushdown_rules.specs.Answers.{Leads}
use Rattle.pushdown_rules.specs.Values.{value_of}
use Rattle.pushdown_rules.proofs.CallerLemmas.{value_fits}
use Rattle.config_patterns.specs.Edges.{edges_of}
use Rattle.config_patterns.specs.Membership.{PatternValue, has_member}
use Rattle.weighted_automata.specs.declared.place.Place.{Place}
use Rattle.weight_tables.specs.Tables.{TablesValue}
use Rattle.walk_pairs.specs.declared.pairs.Stage.TheVariants.{Down, Across, Before, Above}
use Rattle.walk_pairs.specs.Pairs.{pair_place, answer_place}
use Rattle.value_laws.specs.Runs.{Sums}
use Rattle.walk_pairs.specs.Reading.{IsStand, IsStep, ComesBefore}
use Rattle.walk_pairs.proofs.CallerLemmas.{stands_comes, skip_comes, comes_edge, comes_final}
use Rattle.value_laws.specs.Walk.{Descends, Crosses}
use Rattle.value_laws.proofs.CallerLemmas.{sums_none, sums_combine, sums_within, begin_sums, fall_runs, enter_runs, crosses_on, meet_sums, crosses_lead}
use Rattle.value_walk.specs.Answering.{ArePopSums, AreEnterSums, pops_in, enters_in}
use Rattle.value_walk.specs.private.Walking.{Stands, Hangs, Goes, IsMade, IsGivenDown, IsGivenAbove}

module _ {S W Map : Type 0} {operations : S → Operations W Map} {p : Pushdown S W Map} (system : IsSystem operations p) (laws : IsSemiring (operations p.semiring)) (from to : PatternValue) where
  abbrev s : Operations W Map
  s = operations p.semiring

  abbrev Made : Place → W → Type 0
  Made = IsMade from to p s

  pub made_none : (x : Place) → Made x s.zero
  made_none x = sums_none laws (value_of s p) (value_fits system laws) (Goes from to p s x.from x.label x.to)

  pub made_joins : (x : Place) (v w : W) → Fits s v → Fits s w → Made x v → Made x w → Made x (s.combine v w)
  made_joins x v w _ _ one two = sums_combine laws (value_of s p) (value_fits system laws) (Goes from to p s x.from x.label x.to) v w one two

  pub made_first : Made (pair_place Down 0 from.control) s.one
  made_first = begin_sums system laws from to

  pub at_place : (x y : Place) (v w : W) → x ≡ y → w ≡ v → Made y v → Made x w
  at_place x y v w here is made = let P : Place → Type 0 = λ z. Made z w in subst P (sym here) (subst (Made y) (sym is) made)

module _ {S W Map : Type 0} {operations : S → Operations W Map} (v : TablesValue S W Map) (system : IsSystem operations v.system) (laws : IsSemiring (operations v.system.semiring)) (from to : PatternValue) where
  abbrev ours : Operations W Map
  ours = operations v.system.semiring

  -- what runs of one kind are made of, where all of it is of another kind
  within : (Is Or : List ℕ → Type 0) → ((run : List ℕ) → Is run → Or run) → (w : W) → Sums ours (value_of ours v.system) Is w → Sums ours (value_of ours v.system) Or w
  within Is Or wider w sums = sums_within laws (value_of ours v.system) (value_fits system laws) Is Or wider w sums

  abbrev Fall : ℕ → ℕ → List ℕ → Type 0
  Fall = Descends v.system from.control (edges_of from.items)

  pub down_made : (i c : ℕ) → IsMade from to v.system ours (pair_place Down i c) v.hand → (x : Place) (w : W) → IsGivenDown ours from to v i c x w → IsMade from to v.system ours x w
  down_made i c made x w (inl is) =
      at_place system laws from to x (pair_place Above is.item c) v.hand w is.place is.weight
      (within (Fall i c) (Hangs from to v.system is.item c) (λ run descends. record { state = i; comes = stands_comes from.items i is.item is.stands; descends = descends }) v.hand made)
  down_made i c made x w (inr is) =
      let P : ℕ → Type 0 = λ q. Sums ours (value_of ours v.system) (Fall i q) v.hand in
      at_place system laws from to x (pair_place Across i 0) v.hand w is.place is.weight (meet_sums system laws from to i v.hand (subst P is.control made))

  pub above_made : ArePopSums ours v → AreEnterSums ours v to → (k c : ℕ) → IsMade from to v.system ours (pair_place Above k c) v.hand
      → (x : Place) (w : W) → IsGivenAbove ours from to v k c x w → IsMade from to v.system ours x w
  above_made pops enters k c made x w (inl is) =
      at_place system laws from to x (pair_place Above (suc k) c) v.hand w is.place is.weight
      (within (Hangs from to v.system k c) (Hangs from to v.system (suc k) c) (λ run h. record { state = h.state; comes = skip_comes from.items h.state k h.comes is.skipped; descends = h.descends }) v.hand made)
  above_made pops enters k c made x w (inr (inl is)) =
      at_place system laws from to x (pair_place Down (suc k) is.to) (ours.extend v.hand (pops_in ours v c is.symbol is.to)) w is.place is.weight
      (fall_runs system laws from to (Hangs from to v.system k c) is.symbol (suc k) c is.to (λ run h. (h.state, comes_edge from.items h.state k is.symbol h.comes is.has, h.descends)) v.hand (pops_in ours v c is.symbol is.to) made
      (pops c is.symbol is.to).sums)
  above_made pops enters k c made x w (inr (inr is)) =
      at_place system laws from to x (pair_place Across (suc k) is.to) (ours.extend v.hand (enters_in ours v c is.symbol is.to)) w is.place is.weight
      (enter_runs system laws from to (Hangs from to v.system k c) is.symbol (suc k) c is.to (λ run h. (h.state, comes_edge from.items h.state k is.symbol h.comes is.has, h.descends)) v.hand (enters_in ours v c is.symbol is.to) made
      (enters c is.symbol is.to).sums)

  abbrev Cross : ℕ → ℕ → List ℕ → Type 0
  Cross = Crosses v.system from.control (edges_of from.items) to.control (edges_of to.items)

  pub stand_made : (i a : ℕ) → IsMade from to v.system ours (pair_place Across i a) v.hand → (x : Place) (w : W) → IsStand v.hand from.items to.items i a x w → IsMade from to v.system ours x w
  stand_made i a made x w is =
      at_place system laws from to x (pair_place Before is.item is.item_other) v.hand w is.place is.weight
      (within (Cross i a) (Stands from to v.system is.item is.item_other)
      (λ run crosses. record { state = i; end = a; comes = stands_comes from.items i is.item is.stands; comes_end = stands_comes to.items a is.item_other is.stands_other; crosses = crosses }) v.hand made)

  pub step_made : (k l : ℕ) → IsMade from to v.system ours (pair_place Before k l) v.hand → (x : Place) (w : W) → IsStep v.hand from.items to.items Across k l x w → IsMade from to v.system ours x w
  step_made k l made x w (weight, inl (skipped, place)) =
      at_place system laws from to x (pair_place Before (suc k) l) v.hand w place weight
      (within (Stands from to v.system k l) (Stands from to v.system (suc k) l)
      (λ run is. record { state = is.state; end = is.end; comes = skip_comes from.items is.state k is.comes skipped; comes_end = is.comes_end; crosses = is.crosses }) v.hand made)
  step_made k l made x w (weight, inr (inl (skipped, place))) =
      at_place system laws from to x (pair_place Before k (suc l)) v.hand w place weight
      (within (Stands from to v.system k l) (Stands from to v.system k (suc l))
      (λ run is. record { state = is.state; end = is.end; comes = is.comes; comes_end = skip_comes to.items is.end l is.comes_end skipped; crosses = is.crosses }) v.hand made)
  step_made k l made x w (weight, inr (inr (inl (g, takes, takes', place)))) =
      at_place system laws from to x (pair_place Across (suc k) (suc l)) v.hand w place weight
      (within (Stands from to v.system k l) (Cross (suc k) (suc l))
      (λ run is. crosses_on system laws from to is.state g (suc k) (comes_edge from.items is.state k g is.comes takes) is.end (suc l) (comes_edge to.items is.end l g is.comes_end takes') run is.crosses) v.hand made)
  step_made k l made x w (weight, inr (inr (inr (e, e', place)))) =
      at_place system laws from to x answer_place v.hand w place weight
      (within (Stands from to v.system k l) (Leads ours v.system (has_member from) (has_member to))
      (λ run is.
      let P : ℕ → Type 0 = ComesBefore from.items is.state in
      let Q : ℕ → Type 0 = ComesBefore to.items is.end in
      crosses_lead system laws from to is.state is.end (comes_final from.items is.state (subst P e is.comes)) (comes_final to.items is.end (subst Q e' is.comes_end)) run is.crosses) v.hand made)
