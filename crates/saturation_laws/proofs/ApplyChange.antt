-- What one change of the state keeps.
use Rattle.std.proofs.Common.{◌≡◌, ◌≢◌, ◌⊎◌, inl, inr, ℕ, suc, ◌<◌, ◌≤◌, List, [], ◌∷◌, ◌++◌, map, length, refl, sym, ap, ◌∙◌, subst, arith}
use Rattle.std.specs.Prelude.{Option, None, Some, IsSome, IfSome, IsTrue, is_some, ◌||◌, slice_get, option_map}
use Rattle.std.proofs.lemmas.Option.{same_Some, slice_get_within}
use Rattle.std.proofs.lemmas.List.{length_push}
use Rattle.semiring_laws.specs.Semiring.{Operations, IsSemiring, Fits, Below}
use Rattle.semiring_laws.specs.Combination.{combination}
use Rattle.weighted_automata.specs.declared.place.Place.{Place}
use Rattle.weighted_automata.specs.declared.transitions.Entry.{Entry}
use Rattle.weighted_automata.specs.Entries.{entry_at, Present}
use Rattle.weighted_automata.proofs.CallerLemmas.{cases_place, entry_at-place, entry_at-lowered_same, entry_at-lowered_other, distinct-lowered}
use Rattle.witness_graph.specs.declared.node.Node.{Node}
use Rattle.witness_graph.specs.declared.node.Node.TheVariants.{Start, Lower}
use Rattle.witness_graph.specs.declared.node.Side.{Side}
use Rattle.witness_graph.specs.Nodes.{IsNodeAt, is_orderly}
use Rattle.witness_graph.specs.Runs.{runs_of, earlier_runs, parts_runs, part_runs, rule_runs}
use Rattle.witness_graph.specs.Tight.{IsTightNode}
use Rattle.witness_graph.proofs.CallerLemmas.{each_earlier, orderly_from, nodes_push, runs_of-push_old, runs_of-push_new}
use Rattle.saturation_laws.specs.Jobs.{node_of}
use Rattle.wpds_base.specs.Lists.{IsIn}
use Rattle.saturation_laws.specs.States.{CoreState, Change, weight_of, weight_at, lower_state}
use Rattle.saturation_laws.specs.Directions.{AreRuns}
use Rattle.saturation_laws.specs.Invariants.{IsSound, HasShape}
use Rattle.saturation_laws.proofs.QueueLemmas.{in_queued, queued_keeps, queued_cases, once_queued, get_push, all_append}
use Rattle.semiring_laws.proofs.CallerLemmas.{below_itself, combine_below_left, combine_below_right}
use Rattle.saturation_laws.proofs.ValueLemmas.{zero_before, worth_fits, worth-append}

-- What is known of the transitions and their nodes, whatever hands are out.
pub record IsSoundState {S W Map : Type 0} (s : Operations W Map) (value : List ℕ → W) (runs : Place → List ℕ → Type 0) (side : Side) (st : CoreState S W Map) : Type 0 where
  pub nonzero : (t : Entry S W Map) → Present st.transitions t → t.weight ≢ s.zero
  pub sound : (t : Entry S W Map) → Present st.transitions t → IsSound s value runs side st.nodes t
  pub shape : HasShape s value side st

-- A change whose parts are runs of its goal.
pub record IsSoundChange {W Map : Type 0} (s : Operations W Map) (value : List ℕ → W) (runs : Place → List ℕ → Type 0) (side : Side) (nodes : List Node) (c : Change W) : Type 0 where
  pub first : IfSome c.first (λ k. k < length nodes)
  pub second : IfSome c.second (λ k. k < length nodes)
  pub part : IsTrue (is_some c.rule || (is_some c.first || is_some c.second))
  pub are_runs : AreRuns s value runs c.goal c.weight
      (parts_runs side (rule_runs c.rule) (part_runs (runs_of side nodes) c.first) (part_runs (runs_of side nodes) c.second))

-- What a change leaves as it was, or makes smaller.
pub record Grows {S W Map : Type 0} (s : Operations W Map) (side : Side) (st : CoreState S W Map) (new : CoreState S W Map) : Type 0 where
  pub more : length st.nodes ≤ length new.nodes
  pub runs : (k : ℕ) → k < length st.nodes → runs_of side new.nodes k ≡ runs_of side st.nodes k
  pub hands : new.hands ≡ st.hands
  pub queue : (x : Place) → IsIn x st.queue → IsIn x new.queue
  pub entries : (x : Place) → (entry_at x new.transitions ≡ entry_at x st.transitions) ⊎ IsIn x new.queue
  pub present : (x : Place) → IsSome (entry_at x st.transitions) → IsSome (entry_at x new.transitions)
  pub weights : (x : Place) → Below s (weight_at s x new.transitions) (weight_at s x st.transitions)

-- a node that names earlier nodes is as tight where those have the same runs
pub tight_same : {W : Type 0} (worth worth' : ℕ → W) (zero : W) (k : ℕ) (n : Node) → ((i : ℕ) → i < suc k → worth' i ≡ worth i)
    → IsTrue (is_orderly k n) → IsTightNode worth zero k n → IsTightNode worth' zero k n
tight_same worth worth' zero k Start same _ _ = tt
tight_same worth worth' zero k (Lower None rule first second) same _ tight = λ e. tight (sym (same k (omega arith)) ∙ e)
tight_same worth worth' zero k (Lower (Some j) rule first second) same orderly tight =
    let below : j < k = (each_earlier k (Lower (Some j) rule first second) orderly).0 in
    λ e. tight (sym (same k (omega arith)) ∙ e ∙ same j (omega arith))

module _ {W Map : Type 0} {s : Operations W Map} (laws : IsSemiring s) (value : List ℕ → W) (fits_value : (run : List ℕ) → Fits s (value run))
    (runs : Place → List ℕ → Type 0) (side : Side) where
  pub change_fits : (nodes : List Node) (c : Change W) → IsSoundChange s value runs side nodes c → Fits s c.weight
  change_fits nodes c sound = let P : W → Type 0 = Fits s in
      subst P (sym sound.are_runs.weight) (worth_fits laws value fits_value _)

module _ {S W Map : Type 0} {s : Operations W Map} (laws : IsSemiring s) (value : List ℕ → W) (fits_value : (run : List ℕ) → Fits s (value run))
    (runs : Place → List ℕ → Type 0) (side : Side) where
  pub entry_fits : (nodes : List Node) (t : Entry S W Map) → IsSound s value runs side nodes t → Fits s t.weight
  entry_fits nodes t sound = let P : W → Type 0 = Fits s in
      subst P (sym sound.are_runs.weight) (worth_fits laws value fits_value (runs_of side nodes t.node))

  fits_at : (st : CoreState S W Map) → IsSoundState s value runs side st → (x : Place) (o : Option (Entry S W Map)) → entry_at x st.transitions ≡ o → Fits s (weight_of s o)
  fits_at st sound x None e = laws.fits-zero
  fits_at st sound x (Some t) e =
      entry_fits st.nodes t (sound.sound t (ap (λ z. entry_at z st.transitions) (entry_at-place x st.transitions t e) ∙ e))

  -- each weight fits
  pub weights_fit : (st : CoreState S W Map) → IsSoundState s value runs side st → (x : Place) → Fits s (weight_at s x st.transitions)
  weights_fit st sound x = fits_at st sound x (entry_at x st.transitions) refl

  -- a transition stays sound where nodes are added
  pub sound_push : (nodes : List Node) (n : Node) (t : Entry S W Map) → IsSound s value runs side nodes t → IsSound s value runs side (nodes ++ n ∷ []) t
  sound_push nodes n t sound =
      let P : List (List ℕ) → Type 0 = AreRuns s value runs t.place t.weight in
      record {
        node = omega (arith, length_push nodes n, sound.node);
        are_runs = subst P (sym (runs_of-push_old side nodes n t.node sound.node)) sound.are_runs;
      }

  -- the runs of what stood at a place before
  before_is : (st : CoreState S W Map) → IsSoundState s value runs side st → (x : Place) (o : Option (Entry S W Map)) → entry_at x st.transitions ≡ o
      → AreRuns s value runs x (weight_of s o) (earlier_runs (runs_of side st.nodes) (option_map node_of o))
  before_is st sound x None e = record { each = tt; weight = refl }
  before_is st sound x (Some t) e =
      let at : t.place ≡ x = entry_at-place x st.transitions t e in
      let P : Place → Type 0 = λ z. AreRuns s value runs z t.weight (runs_of side st.nodes t.node) in
      subst P at (sound.sound t (ap (λ z. entry_at z st.transitions) at ∙ e)).are_runs

  module _ (st : CoreState S W Map) (sound : IsSoundState s value runs side st) (c : Change W) (change : IsSoundChange s value runs side st.nodes c) where
    abbrev old : W
    old = weight_at s c.goal st.transitions

    abbrev new : W
    new = s.combine old c.weight

    abbrev added : Node
    added = Lower (option_map node_of (entry_at c.goal st.transitions)) c.rule c.first c.second

    new_runs : AreRuns s value runs c.goal new (runs_of side (st.nodes ++ added ∷ []) (length st.nodes))
    new_runs =
        let before = before_is st sound c.goal (entry_at c.goal st.transitions) refl in
        let known = runs_of side st.nodes in
        let xs = earlier_runs known (option_map node_of (entry_at c.goal st.transitions)) in
        let ys = parts_runs side (rule_runs c.rule) (part_runs known c.first) (part_runs known c.second) in
        let P : List (List ℕ) → Type 0 = AreRuns s value runs c.goal new in
        subst P (sym (runs_of-push_new side st.nodes added)) (record {
          each = all_append (runs c.goal) xs ys before.each change.are_runs.each;
          weight = ap (λ w. s.combine w c.weight) before.weight ∙ ap (s.combine (combination s (map value xs))) change.are_runs.weight
              ∙ sym (worth-append laws value fits_value xs ys);
        })

    abbrev entry : Entry S W Map
    entry = record { place = c.goal; weight = new; node = length st.nodes }

    abbrev after : CoreState S W Map
    after = lower_state s c new st

    fits_old : Fits s old
    fits_old = weights_fit st sound c.goal

    fits_added : Fits s c.weight
    fits_added = change_fits laws value fits_value runs side st.nodes c change

    at_goal : (x : Place) → c.goal ≡ x → entry_at x after.transitions ≡ Some entry
    at_goal x e = ap (λ z. entry_at z after.transitions) (sym e) ∙ entry_at-lowered_same c.goal new (length st.nodes) st.transitions

    elsewhere : (x : Place) → (c.goal ≡ x → ⊥) → entry_at x after.transitions ≡ entry_at x st.transitions
    elsewhere x other = entry_at-lowered_other c.goal x new (length st.nodes) st.transitions other

    still_there : (x : Place) → IsSome (entry_at x st.transitions) → IsSome (entry_at x after.transitions)
    still_there x there =
        let P : Option (Entry S W Map) → Type 0 = IsSome in
        elim (cases_place c.goal x) [ inl e ↦ subst P (sym (at_goal x e)) refl | inr other ↦ subst P (sym (elsewhere x other)) there ]

    -- a transition is the new one, or was there before
    was_there : (t : Entry S W Map) → Present after.transitions t → (entry ≡ t) ⊎ Present st.transitions t
    was_there t there = elim (cases_place c.goal t.place) [
      | inl e ↦ inl (same_Some entry t (sym (at_goal t.place e) ∙ there))
      | inr other ↦ inr (sym (elsewhere t.place other) ∙ there)
    ]

    orderly_before : (o : Option (Entry S W Map)) → entry_at c.goal st.transitions ≡ o → IfSome (option_map node_of o) (λ k. k < length st.nodes)
    orderly_before None e = tt
    orderly_before (Some t) e = (sound.sound t (ap (λ z. entry_at z st.transitions) (entry_at-place c.goal st.transitions t e) ∙ e)).node

    abbrev worth : List Node → ℕ → W
    worth nodes i = combination s (map value (runs_of side nodes i))

    module _ (changed : new ≡ old → ⊥) where
      tight_new : (o : Option (Entry S W Map)) → entry_at c.goal st.transitions ≡ o
          → IsTightNode (worth after.nodes) s.zero (length st.nodes) (Lower (option_map node_of o) c.rule c.first c.second)
      tight_new None e = λ zero.
          let was : old ≡ s.zero = zero_before laws old c.weight fits_old fits_added (new_runs.weight ∙ zero) in
          changed (new_runs.weight ∙ zero ∙ sym was)
      tight_new (Some t) e = λ same.
          let here = sound.sound t (ap (λ z. entry_at z st.transitions) (entry_at-place c.goal st.transitions t e) ∙ e) in
          let was : old ≡ t.weight = ap (weight_of s) e in
          changed (new_runs.weight ∙ same ∙ ap (λ rs. combination s (map value rs)) (runs_of-push_old side st.nodes added t.node here.node) ∙ sym here.are_runs.weight ∙ sym was)

      tight_after : (k : ℕ) (n : Node) → slice_get after.nodes k ≡ Some n → IsTightNode (worth after.nodes) s.zero k n
      tight_after k n at = elim (get_push st.nodes added n k at) [
        | inl e ↦ tight_same (worth st.nodes) (worth after.nodes) s.zero k n
            (λ i below. let within : k < length st.nodes = slice_get_within st.nodes k n e in
            ap (λ rs. combination s (map value rs)) (runs_of-push_old side st.nodes added i (omega arith)))
            (sound.shape.nodes.each k n e).orderly (sound.shape.tight.each k n e)
        | inr e ↦ let P : ℕ → Type 0 = λ i. IsTightNode (worth after.nodes) s.zero i n in
            let Q : Node → Type 0 = λ m. IsTightNode (worth after.nodes) s.zero (length st.nodes) m in
            subst P (sym e.0) (subst Q e.1 (tight_new (entry_at c.goal st.transitions) refl))
      ]

      -- the node that is added may stand there
      pub added_is_node : IsNodeAt (length st.nodes) added
      added_is_node = record {
        orderly = orderly_from (length st.nodes) added (orderly_before (entry_at c.goal st.transitions) refl, change.first, change.second);
        part = change.part;
      }

      -- a lowering keeps the state sound
      pub lower_sound : IsSoundState s value runs side after
      lower_sound = record {
        nonzero = λ t there. elim (was_there t there) [
          | inl e ↦ λ zero.
              let was : old ≡ s.zero = zero_before laws old c.weight fits_old fits_added (ap (λ (u : Entry S W Map). u.weight) e ∙ zero) in
              changed (ap (λ (u : Entry S W Map). u.weight) e ∙ zero ∙ sym was)
          | inr before ↦ sound.nonzero t before
        ];
        sound = λ t there. elim (was_there t there) [
          | inl e ↦ let P : Entry S W Map → Type 0 = IsSound s value runs side after.nodes in
              subst P e (record { node = omega (arith, length_push st.nodes added); are_runs = new_runs })
          | inr before ↦ sound_push st.nodes added t (sound.sound t before)
        ];
        shape = record {
          seats = sound.shape.seats;
          places = distinct-lowered c.goal new (length st.nodes) st.transitions sound.shape.places;
          queue = once_queued c.goal st.queue sound.shape.queue;
          present = λ x in'. elim (queued_cases c.goal x st.queue in') [
            | inl e ↦ let P : Option (Entry S W Map) → Type 0 = IsSome in subst P (sym (at_goal x e)) refl
            | inr h ↦ still_there x (sound.shape.present x h)
          ];
          nodes = nodes_push st.nodes added sound.shape.nodes added_is_node;
          tight = record { each = tight_after };
        };
      }

      pub lower_grows : Grows s side st after
      lower_grows = record {
        more = omega (arith, length_push st.nodes added);
        runs = λ k within. runs_of-push_old side st.nodes added k within;
        hands = refl;
        queue = λ x h. queued_keeps c.goal x st.queue h;
        entries = λ x. elim (cases_place c.goal x) [
          | inl e ↦ let P : Place → Type 0 = λ z. IsIn z after.queue in inr (subst P e (in_queued c.goal st.queue))
          | inr other ↦ inl (elsewhere x other)
        ];
        present = still_there;
        weights = λ x. elim (cases_place c.goal x) [
          | inl e ↦ let P : Place → Type 0 = λ z. Below s (weight_at s z after.transitions) (weight_at s z st.transitions) in
              subst P e (let Q : W → Type 0 = λ w. Below s w old in subst Q (sym (ap (weight_of s) (at_goal c.goal refl))) (combine_below_left laws old c.weight fits_old fits_added))
          | inr other ↦ let Q : W → Type 0 = λ w. Below s w (weight_at s x st.transitions) in
              subst Q (sym (ap (weight_of s) (elsewhere x other))) (below_itself laws _ (weights_fit st sound x))
        ];
      }

      pub lower_applies : Below s (weight_at s c.goal after.transitions) c.weight
      lower_applies = let Q : W → Type 0 = λ w. Below s w c.weight in
          subst Q (sym (ap (weight_of s) (at_goal c.goal refl))) (combine_below_right laws old c.weight fits_old fits_added)
