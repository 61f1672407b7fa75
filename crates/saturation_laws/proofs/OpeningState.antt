-- What holds of the state that a saturation begins with.
use Rattle.std.proofs.Common.{◌≡◌, ◌⊎◌, inl, inr, ℕ, suc, zero, ◌+◌, ◌<◌, List, [], ◌∷◌, length, map, replicate, refl, sym, ap, ◌∙◌, subst, arith}
use Rattle.std.specs.Prelude.{Option, None, Some, IsSome, slice_get}
use Rattle.std.proofs.lemmas.Option.{same_Some}
use Rattle.semiring_laws.specs.Semiring.{Operations, IsSemiring, Fits, Below}
use Rattle.semiring_laws.specs.Combination.{combination}
use Rattle.semiring_laws.proofs.CallerLemmas.{below_itself, combine_zero}
use Rattle.weighted_automata.specs.declared.place.Place.{Place}
use Rattle.weighted_automata.specs.declared.transitions.Entry.{Entry}
use Rattle.weighted_automata.specs.Entries.{entry_at, Present}
use Rattle.weighted_automata.proofs.CallerLemmas.{cases_place, entry_at-lowered_same, entry_at-lowered_other, distinct-lowered}
use Rattle.witness_graph.specs.declared.node.Node.{Node}
use Rattle.witness_graph.specs.declared.node.Node.TheVariants.{Start}
use Rattle.witness_graph.specs.declared.node.Side.{Side}
use Rattle.witness_graph.specs.declared.node.Side.TheVariants.{Pre, Post}
use Rattle.witness_graph.specs.Runs.{runs_of}
use Rattle.pushdown_rules.specs.declared.rule.Rule.{Rule}
use Rattle.pushdown_rules.specs.Pushdown.{Pushdown}
use Rattle.pushdown_rules.specs.Values.{value_of}
use Rattle.saturation_laws.specs.declared.opening.Opening.{Opening}
use Rattle.saturation_laws.specs.Jobs.{Tables}
use Rattle.wpds_base.specs.Lists.{IsIn}
use Rattle.saturation_laws.specs.States.{CoreState, Change, hand_at, weight_of, weight_at, apply, apply_all}
use Rattle.saturation_laws.specs.Openings.{head_place, pop_change, pops_of, pops_from, pops, with_edge, with_edges, bare, opening_state}
use Rattle.saturation_laws.specs.Directions.{AreRuns, IsDirection}
use Rattle.saturation_laws.specs.Invariants.{IsSound, LockInvariant}
use Rattle.witness_graph.specs.Nodes.{IsNodeAt}
use Rattle.witness_graph.specs.Tight.{IsTightNode}
use Rattle.saturation_laws.specs.Bound.{IsWithin}
use Rattle.saturation_laws.proofs.QueueLemmas.{in_append, in_queued, queued_keeps, queued_cases, once_queued}
use Rattle.saturation_laws.proofs.ListMembers.{in_present}
use Rattle.saturation_laws.proofs.ApplyChange.{IsSoundState, IsSoundChange, weights_fit}
use Rattle.saturation_laws.proofs.SettleState.{apply_keeps}
use Rattle.saturation_laws.proofs.EventsKeepBound.{apply_counts}

module _ {S W Map : Type 0} where
  pub none_out : (n k : ℕ) → hand_at {S = S} {W = W} {Map = Map} k (replicate n None) ≡ None
  none_out zero k = refl
  none_out (suc n) zero = refl
  none_out (suc n) (suc k) = none_out n k

-- What holds while a state is opened.
pub record IsOpening {S W Map : Type 0} (s : Operations W Map) (value : List ℕ → W) (runs : Place → List ℕ → Type 0) (side : Side) (places edges : List Place) (st : CoreState S W Map) : Type 0 where
  pub sound : IsSoundState s value runs side st
  pub waits : (x : Place) → IsSome (entry_at x st.transitions) → IsIn x st.queue
  pub hands : st.hands ≡ replicate 64 None
  pub start : (0 < length st.nodes) × (runs_of side st.nodes 0 ≡ [] ∷ [])
  pub within : (x : Place) → IsSome (entry_at x st.transitions) → IsIn x places ⊎ IsIn x edges

start_only : (k : ℕ) (n : Node) → slice_get (Start ∷ []) k ≡ Some n → Start ≡ n
start_only zero n e = cc
start_only (suc k) n e = cc

module _ {S W Map : Type 0} {s : Operations W Map} (laws : IsSemiring s) {p : Pushdown S W Map} (fits_value : (run : List ℕ) → Fits s (value_of s p run))
    {o : Opening} {d : Tables S W Map} {places : List Place} (runs : Place → List ℕ → Type 0) (direction : IsDirection s p o d places runs) where
  abbrev Opened : CoreState S W Map → Type 0
  Opened = IsOpening s (value_of s p) runs d.side places o.edges

  start_runs : runs_of d.side (Start ∷ []) 0 ≡ [] ∷ []
  unfolding runs_of
  start_runs = refl

  bare_opened : Opened (bare s)
  bare_opened = record {
    sound = record {
      nonzero = λ t there. cc;
      sound = λ t there. cc;
      shape = record {
        places = tt;
        seats = refl;
        queue = tt;
        present = λ x in'. absurd in';
        nodes = record { each = λ k n at. subst (IsNodeAt k) (start_only k n at) (record { orderly = refl; part = refl }) };
        tight = record { each = λ k n at. subst (IsTightNode (λ i. combination s (map (value_of s p) (runs_of d.side (Start ∷ []) i))) s.zero k) (start_only k n at) tt };
      };
    };
    waits = λ x there. cc;
    hands = refl;
    start = (omega arith, start_runs);
    within = λ x there. cc;
  }

  module _ (st : CoreState S W Map) (before : Opened st) (only : st.nodes ≡ Start ∷ []) (x : Place) (edge : IsIn x o.edges) where
    abbrev after : CoreState S W Map
    after = with_edge s x st

    abbrev entry : Entry S W Map
    entry = record { place = x; weight = s.one; node = 0 }

    at_edge : (y : Place) → x ≡ y → entry_at y after.transitions ≡ Some entry
    at_edge y e = ap (λ z. entry_at z after.transitions) (sym e) ∙ entry_at-lowered_same x s.one 0 st.transitions

    elsewhere : (y : Place) → (x ≡ y → ⊥) → entry_at y after.transitions ≡ entry_at y st.transitions
    elsewhere y other = entry_at-lowered_other x y s.one 0 st.transitions other

    was_there : (t : Entry S W Map) → Present after.transitions t → (entry ≡ t) ⊎ Present st.transitions t
    was_there t there = elim (cases_place x t.place) [
      | inl e ↦ inl (same_Some entry t (sym (at_edge t.place e) ∙ there))
      | inr other ↦ inr (sym (elsewhere t.place other) ∙ there)
    ]

    edge_sound : IsSound s (value_of s p) runs d.side st.nodes entry
    edge_sound =
        let P : List Node → Type 0 = λ ns. IsSound s (value_of s p) runs d.side ns entry in
        let Q : List (List ℕ) → Type 0 = AreRuns s (value_of s p) runs x s.one in
        subst P (sym only) (record {
          node = omega arith;
          are_runs = subst Q (sym start_runs) (record { each = (direction.opens x edge, tt); weight = sym (combine_zero laws s.one laws.fits-one) });
        })

    edge_opened : Opened after
    edge_opened = record {
      sound = record {
        nonzero = λ t there. elim (was_there t there) [
          | inl e ↦ λ zero. laws.one_is_not_zero (ap (λ (u : Entry S W Map). u.weight) e ∙ zero)
          | inr b ↦ before.sound.nonzero t b
        ];
        sound = λ t there. elim (was_there t there) [
          | inl e ↦ let P : Entry S W Map → Type 0 = IsSound s (value_of s p) runs d.side st.nodes in subst P e edge_sound
          | inr b ↦ before.sound.sound t b
        ];
        shape = record {
          seats = before.sound.shape.seats;
          places = distinct-lowered x s.one 0 st.transitions before.sound.shape.places;
          queue = once_queued x st.queue before.sound.shape.queue;
          present = λ y in'. elim (queued_cases x y st.queue in') [
            | inl e ↦ let P : Option (Entry S W Map) → Type 0 = IsSome in subst P (sym (at_edge y e)) refl
            | inr h ↦ let P : Option (Entry S W Map) → Type 0 = IsSome in
                elim (cases_place x y) [ inl e ↦ subst P (sym (at_edge y e)) refl | inr other ↦ subst P (sym (elsewhere y other)) (before.sound.shape.present y h) ]
          ];
          nodes = before.sound.shape.nodes;
          tight = before.sound.shape.tight;
        };
      };
      waits = λ y there. elim (cases_place x y) [
        | inl e ↦ let P : Place → Type 0 = λ z. IsIn z after.queue in subst P e (in_queued x st.queue)
        | inr other ↦ let P : Option (Entry S W Map) → Type 0 = IsSome in queued_keeps x y st.queue (before.waits y (subst P (elsewhere y other) there))
      ];
      hands = before.hands;
      start = before.start;
      within = λ y there. elim (cases_place x y) [
        | inl e ↦ let P : Place → Type 0 = λ z. IsIn z o.edges in inr (subst P e edge)
        | inr other ↦ let P : Option (Entry S W Map) → Type 0 = IsSome in before.within y (subst P (elsewhere y other) there)
      ];
    }

  edges_opened : (xs : List Place) → ((x : Place) → IsIn x xs → IsIn x o.edges) → (st : CoreState S W Map) → Opened st → st.nodes ≡ Start ∷ [] → Opened (with_edges s xs st)
  edges_opened [] all st before only = before
  edges_opened (x ∷ xs) all st before only =
      edges_opened xs (λ y h. all y (inr h)) (with_edge s x st) (edge_opened st before only x (all x (inl refl))) only

  changes_opened : (cs : List (Change W)) (st : CoreState S W Map) → Opened st
      → ((c : Change W) → IsIn c cs → (nodes : List Node) → IsSoundChange s (value_of s p) runs d.side nodes c × IsIn c.goal places) → Opened (apply_all s cs st)
  changes_opened [] st before all = before
  changes_opened (c ∷ cs) st before all =
      let change = all c (inl refl) st.nodes in
      let next = apply s c st in
      let kept = apply_keeps laws (value_of s p) fits_value runs d.side st before.sound c change.0 in
      let counts = apply_counts laws (value_of s p) fits_value runs d.side places st before.sound c change.0 change.1 in
      let P : Option (Entry S W Map) → Type 0 = IsSome in
      changes_opened cs next (record {
        sound = kept.sound;
        waits = λ x there. elim (kept.grows.entries x) [ inr h ↦ h | inl e ↦ kept.grows.queue x (before.waits x (subst P e there)) ];
        hands = kept.grows.hands ∙ before.hands;
        start = (omega (arith, kept.grows.more, before.start.0), kept.grows.runs 0 before.start.0 ∙ before.start.1);
        within = λ x there. elim (counts.within x there) [ inr h ↦ inl h | inl was ↦ before.within x was ];
      }) (λ e h. all e (inr h))

  is_pop : (k : ℕ) (r : Rule S W Map) (c : Change W) → IsIn c (pops_of k r) → (r.right ≡ []) × (pop_change k r ≡ c)
  is_pop k r c = elim r.right as (λ w. IsIn c (elim w [ [] ↦ pop_change k r ∷ [] | g ∷ gs ↦ [] ]) → (w ≡ []) × (pop_change k r ≡ c)) [
    | [] ↦ λ h. elim h [ inl e ↦ (refl, e) | inr g ↦ absurd g ]
    | g ∷ gs ↦ λ h. absurd h
  ]

  pops_are : (Q : ℕ → Rule S W Map → Type 0) (n : ℕ) (rs : List (Rule S W Map)) → ((k : ℕ) (r : Rule S W Map) → slice_get rs k ≡ Some r → r.right ≡ [] → Q (n + k) r)
      → (c : Change W) → IsIn c (pops_from n rs) → (k : ℕ) × (r : Rule S W Map) × (pop_change k r ≡ c) × Q k r
  pops_are Q n [] all c h = absurd h
  pops_are Q n (r ∷ rs) all c h = elim (in_append c (pops_of n r) (pops_from (suc n) rs) h) [
    | inl here ↦ let is = is_pop n r c here in
        let P : ℕ → Type 0 = λ i. Q i r in
        let e : n + 0 ≡ n = omega arith in
        (n, r, is.1, subst P e (all 0 r refl is.0))
    | inr rest ↦ pops_are Q (suc n) rs (λ k u at none.
        let P : ℕ → Type 0 = λ i. Q i u in
        let e : n + suc k ≡ suc n + k = omega arith in
        subst P e (all (suc k) u at none)) c rest
  ]

  pops_sound : (side : Side) → d.side ≡ side → (c : Change W) → IsIn c (pops side p.rules) → (nodes : List Node) → IsSoundChange s (value_of s p) runs d.side nodes c × IsIn c.goal places
  pops_sound Post is c h nodes = absurd h
  pops_sound Pre is c h nodes =
      let R : ℕ → Rule S W Map → Type 0 = λ k r. AreRuns s (value_of s p) runs (head_place r) r.weight ((k ∷ []) ∷ []) × IsIn (head_place r) places in
      let zero_plus : (k : ℕ) (r : Rule S W Map) → R k r → R (0 + k) r = λ k r g. let P : ℕ → Type 0 = λ i. R i r in let e : k ≡ 0 + k = omega arith in subst P e g in
      let found = pops_are R 0 p.rules (λ k r at none. zero_plus k r (direction.pops is k r at none)) c h in
      let P : Change W → Type 0 = λ e. IsSoundChange s (value_of s p) runs d.side nodes e × IsIn e.goal places in
      let Q : Side → Type 0 = λ e. IsSoundChange s (value_of s p) runs e nodes (pop_change found.0 found.1) in
      subst P found.2 (subst Q (sym is) (record { first = tt; second = tt; part = refl; are_runs = found.3.0 }), found.3.1)

  pub opening_opened : Opened (opening_state s d.side p o.edges)
  opening_opened =
      changes_opened (pops d.side p.rules) (with_edges s o.edges (bare s)) (edges_opened o.edges (λ x h. h) (bare s) bare_opened refl)
      (pops_sound d.side refl)

  -- what holds of a book that is opened
  pub opening_locked : LockInvariant s (value_of s p) runs d (opening_state s d.side p o.edges).transitions (opening_state s d.side p o.edges)
  opening_locked =
      let st = opening_state s d.side p o.edges in
      let is = opening_opened in
      record {
        nonzero = is.sound.nonzero;
        sound = is.sound.sound;
        opened = λ t in'.
            let there = in_present st.transitions t is.sound.shape.places in' in
            let P : Option (Entry S W Map) → Type 0 = IsSome in
            let Q : W → Type 0 = λ w. Below s (weight_at s t.place st.transitions) w in (
              subst P (sym there) refl,
              subst Q (ap (weight_of s) there) (below_itself laws (weight_at s t.place st.transitions) (weights_fit laws (value_of s p) fits_value runs d.side st is.sound t.place)),
            );
        closed = λ j there.
            let input = direction.asks j there.row in
            let P : Option (Entry S W Map) → Type 0 = IsSome in
            inr (inl (input.0, input.1, is.waits input.0.place (subst P (sym (there.inputs input.0 input.1)) refl)));
        hands = λ seat h at. let f : Some h ≡ None = sym at ∙ ap (hand_at seat) is.hands ∙ none_out 64 seat in cc;
        shape = is.sound.shape;
      }

  pub opening_within : IsWithin places o.edges (opening_state s d.side p o.edges)
  opening_within =
      let st = opening_state s d.side p o.edges in
      let is = opening_opened in
      record {
        transitions = λ t there. let P : Option (Entry S W Map) → Type 0 = IsSome in is.within t.place (subst P (sym there) refl);
        hands = λ seat h at. let f : Some h ≡ None = sym at ∙ ap (hand_at seat) is.hands ∙ none_out 64 seat in cc;
      }

  pub opening_fits : (t : Entry S W Map) → IsIn t (opening_state s d.side p o.edges).transitions → Fits s t.weight
  opening_fits t in' =
      let st = opening_state s d.side p o.edges in
      let is = opening_opened in
      let there = in_present st.transitions t is.sound.shape.places in' in
      let P : W → Type 0 = Fits s in
      subst P (ap (weight_of s) there) (weights_fit laws (value_of s p) fits_value runs d.side st is.sound t.place)
