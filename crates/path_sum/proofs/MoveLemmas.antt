-- Moves one after another, and all that goes on from a pair.
use Rattle.std.proofs.Common.{◌≡◌, inl, inr, Bool, IsTrue, ℕ, true, List, [], ◌∷◌, ◌++◌, refl, sym, ap, ◌∙◌, subst}
use Rattle.std.specs.Prelude.{Option, None, Some, ◌&&◌, nat_eq, option_and_then, option_map}
use Rattle.std.proofs.lemmas.Bool.{cond_both, cond-true, and_from, or_left, or_right, eq-eqb}
use Rattle.semiring_laws.specs.Semiring.{Operations}
use Rattle.weighted_automata.specs.declared.place.Place.{Place}
use Rattle.weighted_automata.specs.declared.place.Label.TheVariants.{Symbol, Empty}
use Rattle.weighted_automata.specs.declared.transitions.Entry.{Entry}
use Rattle.weighted_automata.specs.Entries.{entry_at, Present}
use Rattle.weighted_automata.specs.Places.{same_label}
use Rattle.witness_graph.specs.declared.node.Node.{Node}
use Rattle.witness_graph.specs.declared.node.Side.{Side}
use Rattle.saturation_laws.specs.declared.opening.Opening.{Opening}
use Rattle.wpds_base.specs.Lists.{IsIn}
use Rattle.saturation_laws.specs.States.{CoreState, apply}
use Rattle.saturation_laws.proofs.CallerLemmas.{in_left, in_append}
use Rattle.path_sum.proofs.EntryLemmas.{in_right, entry_in}
use Rattle.path_sum.specs.Sums.{Ways, has_state, pair_place, can_move, along_change, Move, Along, End, Done, move, grow, bare_sum, IsGrown}
use Rattle.path_sum.specs.private.Paths.{Moves}
use Rattle.path_sum.specs.private.Work.{IsWork, edge_moves, moves_by, pair_moves, end_moves, moves_of}

module _ {S W Map : Type 0} (s : Operations W Map) (side : Side) (o : Opening) (ts : List (Entry S W Map)) (ways : Ways) where
  -- moves and then more moves
  pub grow_append : (ms more : List Move) (st mid new : CoreState S W Map) → grow s side o ts ways st ms ≡ Some mid → grow s side o ts ways mid more ≡ Some new → grow s side o ts ways st (ms ++ more) ≡ Some new
  grow_append [] more st mid new at rest = let same : st ≡ mid = cc in ap (λ m. grow s side o ts ways m more) same ∙ rest
  grow_append (m ∷ ms) more st mid new at rest =
      elim (move s side o ts ways m st) as (λ e. option_and_then (λ n. grow s side o ts ways n ms) e ≡ Some mid → option_and_then (λ n. grow s side o ts ways n (ms ++ more)) e ≡ Some new) [
        | None ↦ λ h. cc
        | Some n ↦ λ h. grow_append ms more n mid new h rest
      ] at

  -- what is grown grows on
  pub grown_on : (nodes : List Node) (st new : CoreState S W Map) (ms : List Move) → IsGrown s side o ts nodes ways st → grow s side o ts ways st ms ≡ Some new → IsGrown s side o ts nodes ways new
  grown_on nodes st new ms is more = record { moves = is.moves ++ ms; grows = grow_append is.moves ms (bare_sum s side nodes ways) st new is.grows more }

  -- a move along a transition is the change that it makes
  pub followed : (i j : ℕ) (u t : Entry S W Map) (st new : CoreState S W Map) → can_move ways.edges i t.place.label j ≡ true → entry_at (pair_place i t.place.from) st.transitions ≡ Some u → Present ts t
      → new ≡ apply s (along_change s side j u t) st → move s side o ts ways (Along i j t.place) st ≡ Some new
  followed i j u t st new edge there present is =
      let made : Option (CoreState S W Map) = option_and_then (λ v. option_map (λ w. apply s (along_change s side j v w) st) (entry_at t.place ts)) (entry_at (pair_place i t.place.from) st.transitions) in
      cond-true (can_move ways.edges i t.place.label j) made None edge
      ∙ ap (option_and_then (λ v. option_map (λ w. apply s (along_change s side j v w) st) (entry_at t.place ts))) there
      ∙ ap (option_map (λ w. apply s (along_change s side j u w) st)) present
      ∙ ap Some (sym is)

-- the edge goes from the state, on the symbol
abbrev goes : ℕ → ℕ → Place → Bool
goes i g e = nat_eq e.from i && same_label e.label (Symbol g)

goes_from : (i g j : ℕ) (e : Place) → e ≡ record { from = i; label = Symbol g; to = j } → goes i g e ≡ true
goes_from i g j e same =
    and_from (nat_eq e.from i) (same_label e.label (Symbol g)) (eq-eqb e.from i (ap (λ (y : Place). y.from) same))
    (ap (λ (y : Place). same_label y.label (Symbol g)) same ∙ eq-eqb g g refl)

edge_in : (i g j : ℕ) (x : Place) (es : List Place) → IsIn (record { from = i; label = Symbol g; to = j }) es → IsIn (Along i j x) (edge_moves i g x es)
edge_in i g j x [] h = elim h [ ]
edge_in i g j x (e ∷ es) (inl same) =
    let to : e.to ≡ j = ap (λ (y : Place). y.to) same in
    let P : List Move → Type 0 = IsIn (Along i j x) in
    subst P (sym (cond-true (goes i g e) (Along i e.to x ∷ edge_moves i g x es) (edge_moves i g x es) (goes_from i g j e same))) (inl (ap (λ n. Along i n x) to))
edge_in i g j x (e ∷ es) (inr h) =
    let P : List Move → Type 0 = IsIn (Along i j x) in
    cond_both (goes i g e) (Along i e.to x ∷ edge_moves i g x es) (edge_moves i g x es) P (λ t. inr (edge_in i g j x es h)) (λ t. edge_in i g j x es h)

pub has_state_from : (q : ℕ) (rs : List ℕ) → IsIn q rs → has_state q rs ≡ true
has_state_from q [] h = elim h [ ]
has_state_from q (r ∷ rs) (inl e) = or_left (nat_eq r q) (has_state q rs) (eq-eqb r q e)
has_state_from q (r ∷ rs) (inr h) = or_right (nat_eq r q) (has_state q rs) (has_state_from q rs h)

no_edge_done : (i g : ℕ) (x : Place) (es : List Place) → IsIn Done (edge_moves i g x es) → ⊥
no_edge_done i g x [] h = h
no_edge_done i g x (e ∷ es) h =
    let P : List Move → Type 0 = λ ms. IsIn Done ms → ⊥ in
    cond_both (goes i g e) (Along i e.to x ∷ edge_moves i g x es) (edge_moves i g x es) P
    (λ t g'. elim g' [ inl f ↦ cc | inr rest ↦ no_edge_done i g x es rest ]) (λ t g'. no_edge_done i g x es g') h

module _ {S W Map : Type 0} (o : Opening) (ways : Ways) where
  by_in : (i j : ℕ) (t : Entry S W Map) → Moves ways.edges i t.place.label j → IsIn (Along i j t.place) (moves_by o ways i t)
  by_in i j t moves = elim t.place.label as (λ l. Moves ways.edges i l j → IsIn (Along i j t.place) (elim l [ Empty ↦ Along i i t.place ∷ [] | Symbol g ↦ edge_moves i g t.place ways.edges ])) [
    | Empty ↦ λ e. inl (ap (λ n. Along i n t.place) e)
    | Symbol g ↦ λ h. edge_in i g j t.place ways.edges h
  ] moves

  no_by_done : (i : ℕ) (t : Entry S W Map) → IsIn Done (moves_by o ways i t) → ⊥
  no_by_done i t h = elim t.place.label as (λ l. IsIn Done (elim l [ Empty ↦ Along i i t.place ∷ [] | Symbol g ↦ edge_moves i g t.place ways.edges ]) → ⊥) [
    | Empty ↦ λ g'. elim g' [ inl f ↦ cc | inr rest ↦ rest ]
    | Symbol g ↦ λ g'. no_edge_done i g t.place ways.edges g'
  ] h

  pair_in : (i j q : ℕ) (t : Entry S W Map) → t.place.from ≡ q → Moves ways.edges i t.place.label j → (ts : List (Entry S W Map)) → IsIn t ts → IsIn (Along i j t.place) (pair_moves o ways i q ts)
  pair_in i j q t at moves [] h = elim h [ ]
  pair_in i j q t at moves (u ∷ ts) (inl same) =
      let P : List Move → Type 0 = IsIn (Along i j t.place) in
      let from : u.place.from ≡ q = ap (λ (v : Entry S W Map). v.place.from) same ∙ at in
      let Q : Entry S W Map → Type 0 = λ v. IsIn (Along i j t.place) (moves_by o ways i v) in
      subst P (sym (cond-true (nat_eq u.place.from q) (moves_by o ways i u ++ pair_moves o ways i q ts) (pair_moves o ways i q ts) (eq-eqb u.place.from q from)))
      (in_left (Along i j t.place) (moves_by o ways i u) (pair_moves o ways i q ts) (subst Q (sym same) (by_in i j t moves)))
  pair_in i j q t at moves (u ∷ ts) (inr h) =
      let P : List Move → Type 0 = IsIn (Along i j t.place) in
      cond_both (nat_eq u.place.from q) (moves_by o ways i u ++ pair_moves o ways i q ts) (pair_moves o ways i q ts) P
      (λ e. in_right (Along i j t.place) (moves_by o ways i u) (pair_moves o ways i q ts) (pair_in i j q t at moves ts h)) (λ e. pair_in i j q t at moves ts h)

  no_pair_done : (i q : ℕ) (ts : List (Entry S W Map)) → IsIn Done (pair_moves o ways i q ts) → ⊥
  no_pair_done i q [] h = h
  no_pair_done i q (u ∷ ts) h =
      let P : List Move → Type 0 = λ ms. IsIn Done ms → ⊥ in
      cond_both (nat_eq u.place.from q) (moves_by o ways i u ++ pair_moves o ways i q ts) (pair_moves o ways i q ts) P
      (λ e g. elim (in_append Done (moves_by o ways i u) (pair_moves o ways i q ts) g) [ inl f ↦ no_by_done i u f | inr f ↦ no_pair_done i q ts f ]) (λ e g. no_pair_done i q ts g) h

module _ (o : Opening) (ways : Ways) where
  end_in : (i q : ℕ) → IsTrue (ways.final i) → IsIn q o.finals → IsIn (End i q) (end_moves o ways i q)
  end_in i q final final' =
      let test = and_from (ways.final i) (has_state q o.finals) final (has_state_from q o.finals final') in
      let P : List Move → Type 0 = IsIn (End i q) in
      subst P (sym (cond-true (ways.final i && has_state q o.finals) (End i q ∷ []) [] test)) (inl refl)

  no_end_done : (i q : ℕ) → IsIn Done (end_moves o ways i q) → ⊥
  no_end_done i q h =
      let P : List Move → Type 0 = λ ms. IsIn Done ms → ⊥ in
      cond_both (ways.final i && has_state q o.finals) (End i q ∷ []) [] P (λ e g. elim g [ inl f ↦ cc | inr f ↦ f ]) (λ e g. g) h

module _ {S W Map : Type 0} (o : Opening) (ways : Ways) (ts : List (Entry S W Map)) where
  -- the moves of a place are the work that it asks for
  pub moves_work : (x : Place) → IsWork o ts ways x (moves_of o ways ts x)
  moves_work x = record {
    adds = elim x.label as (λ l. IsIn Done (elim l [ Empty ↦ pair_moves o ways x.from x.to ts ++ end_moves o ways x.from x.to | Symbol g ↦ [] ]) → ⊥) [
      | Empty ↦ λ h. elim (in_append Done (pair_moves o ways x.from x.to ts) (end_moves o ways x.from x.to) h) [ inl f ↦ no_pair_done o ways x.from x.to ts f | inr f ↦ no_end_done o ways x.from x.to f ]
      | Symbol g ↦ λ h. h
    ];
    along = λ i j t at there moves.
        let P : Place → Type 0 = λ y. IsIn (Along i j t.place) (moves_of o ways ts y) in
        subst P (sym at) (in_left (Along i j t.place) (pair_moves o ways i t.place.from ts) (end_moves o ways i t.place.from)
        (pair_in o ways i j t.place.from t refl moves ts (entry_in t.place ts t there)));
    ends = λ i q at final final'.
        let P : Place → Type 0 = λ y. IsIn (End i q) (moves_of o ways ts y) in
        subst P (sym at) (in_right (End i q) (pair_moves o ways i q ts) (end_moves o ways i q) (end_in o ways i q final final'));
  }
