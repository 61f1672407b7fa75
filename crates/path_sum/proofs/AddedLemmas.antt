-- What a sum adds to the nodes of a graph begins with the empty run.
use Rattle.std.proofs.Common.{◌≡◌, Bool, true, false, cond, List, [], ◌∷◌, ◌++◌, refl, ap, ◌∙◌, subst, append_assoc}
use Rattle.std.specs.Prelude.{Option, None, Some, ◌&&◌, option_map, option_and_then}
use Rattle.std.proofs.lemmas.Bool.{cond_both}
use Rattle.std.proofs.lemmas.Option.{same_Some}
use Rattle.semiring_laws.specs.Semiring.{Operations}
use Rattle.weighted_automata.specs.declared.place.Place.{Place}
use Rattle.weighted_automata.specs.declared.transitions.Entry.{Entry}
use Rattle.weighted_automata.specs.Entries.{entry_at}
use Rattle.witness_graph.specs.declared.node.Node.{Node}
use Rattle.witness_graph.specs.declared.node.Node.TheVariants.{Start, Lower}
use Rattle.witness_graph.specs.declared.node.Side.{Side}
use Rattle.saturation_laws.specs.declared.opening.Opening.{Opening}
use Rattle.saturation_laws.specs.Jobs.{node_of}
use Rattle.saturation_laws.specs.States.{CoreState, Change, weight_at, lower_state, apply}
use Rattle.path_sum.specs.Sums.{Ways, pair_place, can_move, has_state, along_change, end_change, Move, Along, End, Done, move, grow, bare_sum, IsGrown}
use Rattle.path_sum.specs.private.Growing.{BeginsBehind}

module _ {S W Map : Type 0} (s : Operations W Map) (side : Side) (o : Opening) (ts : List (Entry S W Map)) (ways : Ways) (nodes : List Node) where
  abbrev Begins : CoreState S W Map → Type 0
  Begins st = BeginsBehind nodes st.nodes

  applied : (c : Change W) (st : CoreState S W Map) → Begins st → Begins (apply s c st)
  applied c st begins =
      let old = weight_at s c.goal st.transitions in
      let new = s.combine old c.weight in
      let node = Lower (option_map node_of (entry_at c.goal st.transitions)) c.rule c.first c.second in
      cond_both (s.same new old) st (lower_state s c new st) Begins (λ _. begins)
      (λ _. (begins.0 ++ node ∷ [], ap (λ l. l ++ node ∷ []) begins.1 ∙ append_assoc nodes (Start ∷ begins.0) (node ∷ [])))

  from_two : (b : Bool) (us vs : Option (Entry S W Map)) (f : Entry S W Map → Entry S W Map → CoreState S W Map) → ((u v : Entry S W Map) → Begins (f u v))
      → (new : CoreState S W Map) → cond b (option_and_then (λ u. option_map (f u) vs) us) None ≡ Some new → Begins new
  from_two false us vs f all new e = cc
  from_two true None vs f all new e = cc
  from_two true (Some u) None f all new e = cc
  from_two true (Some u) (Some v) f all new e = subst Begins (same_Some (f u v) new e) (all u v)

  from_one : (b : Bool) (us : Option (Entry S W Map)) (f : Entry S W Map → CoreState S W Map) → ((u : Entry S W Map) → Begins (f u))
      → (new : CoreState S W Map) → cond b (option_map f us) None ≡ Some new → Begins new
  from_one false us f all new e = cc
  from_one true None f all new e = cc
  from_one true (Some u) f all new e = subst Begins (same_Some (f u) new e) (all u)

  moved : (m : Move) (st new : CoreState S W Map) → move s side o ts ways m st ≡ Some new → Begins st → Begins new
  moved (Along i j x) st new e begins =
      from_two (can_move ways.edges i x.label j) (entry_at (pair_place i x.from) st.transitions) (entry_at x ts) (λ u t. apply s (along_change s side j u t) st)
      (λ u t. applied (along_change s side j u t) st begins) new e
  moved (End i q) st new e begins =
      from_one (ways.final i && has_state q o.finals) (entry_at (pair_place i q) st.transitions) (λ u. apply s (end_change s side u) st) (λ u. applied (end_change s side u) st begins) new e
  moved Done st new e begins = elim st.queue as (λ r. elim r [ [] ↦ None | x ∷ q ↦ Some (past q) ] ≡ Some new → Begins new) [
    | [] ↦ λ f. cc
    | x ∷ q ↦ λ f. subst Begins (same_Some (past q) new f) begins
  ] e
    where
      past : List Place → CoreState S W Map
      past q = record { transitions = st.transitions; nodes = st.nodes; queue = q; hands = st.hands }

  grown : (ms : List Move) (st new : CoreState S W Map) → grow s side o ts ways st ms ≡ Some new → Begins st → Begins new
  grown [] st new e begins = subst Begins (same_Some st new e) begins
  grown (m ∷ ms) st new e begins =
      elim (move s side o ts ways m st) as (λ r. move s side o ts ways m st ≡ r → option_and_then (λ n. grow s side o ts ways n ms) r ≡ Some new → Begins new) [
        | None ↦ λ is f. cc
        | Some n ↦ λ is f. grown ms n new f (moved m st n is begins)
      ] refl e

  -- the nodes of a grown sum are those of the graph, the empty run and others
  pub grown_begins : (st : CoreState S W Map) → IsGrown s side o ts nodes ways st → Begins st
  grown_begins st is = grown is.moves (bare_sum s side nodes ways) st is.grows ([], refl)
