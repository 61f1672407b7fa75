-- A sum over a finished saturation comes to its end, whether it is made or not.
use Rattle.std.proofs.Common.{◌≡◌, inl, inr, IsTrue, ℕ, zero, suc, ◌<◌, true, false, List, [], ◌∷◌, ◌++◌, cond, length, refl, sym, ap, ◌∙◌, subst, arith}
use Rattle.std.specs.Prelude.{Option, None, Some, IsSome, ◌&&◌, nat_eq, option_and_then, option_map}
use Rattle.std.specs.List.{AllByRecursion}
use Rattle.std.proofs.lemmas.Bool.{cond_both, cond-true, eqb-true, eq-eqb}
use Rattle.semiring_laws.specs.Semiring.{Operations, IsSemiring}
use Rattle.weighted_automata.specs.declared.place.Place.{Place}
use Rattle.weighted_automata.specs.declared.place.Label.TheVariants.{Symbol, Empty}
use Rattle.weighted_automata.specs.declared.transitions.Entry.{Entry}
use Rattle.weighted_automata.specs.Entries.{entry_at, lowered}
use Rattle.weighted_automata.specs.Places.{same_label, same_place}
use Rattle.weighted_automata.proofs.CallerLemmas.{cases_place, entry_at-lowered_same, entry_at-lowered_other, same_place_itself}
use Rattle.witness_graph.specs.declared.node.Node.{Node}
use Rattle.witness_graph.specs.declared.node.Node.TheVariants.{Start}
use Rattle.witness_graph.specs.declared.node.Side.{Side}
use Rattle.witness_graph.specs.Nodes.{AreNodes}
use Rattle.config_patterns.specs.Membership.{PatternValue}
use Rattle.pushdown_rules.specs.Pushdown.{Pushdown, IsSystem}
use Rattle.pushdown_rules.specs.Values.{value_of}
use Rattle.saturation_laws.specs.declared.opening.Opening.{Opening}
use Rattle.saturation_laws.specs.Openings.{AreKept}
use Rattle.saturation_laws.specs.States.{CoreState, Change, weight_at, lower_state, apply}
use Rattle.saturation_laws.specs.Ways.{Way, HasPathSums}
use Rattle.saturation_laws.proofs.CallerLemmas.{all_append}
use Rattle.wpds_base.specs.Lists.{IsIn}
use Rattle.path_sum.specs.Results.{IsSumOver}
use Rattle.path_sum.specs.Saturated.{IsSaturatedAutomaton}
use Rattle.path_sum.specs.Sums.{Ways, ways_of, pair_place, answer_place, can_move, has_state, Move, Along, End, Done, along_change, end_change, move, grow, bare_sum}
use Rattle.path_sum.specs.declared.answer.Answer.{Answer}
use Rattle.path_sum.specs.private.Inputs.{SumInputValue}
use Rattle.path_sum.specs.private.Paths.{IsSummable}
use Rattle.path_sum.specs.private.Work.{edge_moves, moves_by, pair_moves, end_moves, moves_of}
use Rattle.path_sum.proofs.AddedLemmas.{grown_begins}
use Rattle.path_sum.proofs.FinishedLemmas.{input, summable, kept_at, answer_sums}
use Rattle.path_sum.proofs.ItemLemmas.{moves_have}
use Rattle.path_sum.proofs.ListedLemmas.{listed}
use Rattle.path_sum.specs.private.Rounds.{IsUnderWay}
use Rattle.path_sum.proofs.RoundLemmas.{left_of, past, sum_good, begun, round_keeps, round_falls}

-- what stands at a place stays there when a weight is put somewhere
lowered_stays : {S W Map : Type 0} (x y : Place) (w : W) (n : ℕ) (ts : List (Entry S W Map)) → IsSome (entry_at y ts) → IsSome (entry_at y (lowered x w n ts))
lowered_stays x y w n ts there =
    elim (cases_place x y) [
      | inl same ↦ subst IsSome (sym (ap (λ z. entry_at z (lowered x w n ts)) (sym same) ∙ entry_at-lowered_same x w n ts)) refl
      | inr other ↦ subst IsSome (sym (entry_at-lowered_other x y w n ts other)) there
    ]

pub apply_stays : {S W Map : Type 0} (s : Operations W Map) (c : Change W) (y : Place) (st : CoreState S W Map) → IsSome (entry_at y st.transitions) → IsSome (entry_at y (apply s c st).transitions)
apply_stays s c y st there =
    let new = s.combine (weight_at s c.goal st.transitions) c.weight in
    let P : CoreState _ _ _ → Type 0 = λ m. IsSome (entry_at y m.transitions) in
    cond_both (s.same new (weight_at s c.goal st.transitions)) st (lower_state s c new st) P (λ _. there) (λ _. lowered_stays c.goal y new (length st.nodes) st.transitions there)

entry_there : {S W Map : Type 0} (t : Entry S W Map) (us : List (Entry S W Map)) → IsIn t us → IsSome (entry_at t.place us)
entry_there t [] h = absurd h
entry_there t (u ∷ us) h =
    elim (same_place u.place t.place) as (λ b. same_place u.place t.place ≡ b → IsSome (cond b (Some u) (entry_at t.place us))) [
      | true ↦ λ _. refl
      | false ↦ λ e. elim h [
        | inl is ↦ let f : true ≡ false = sym (same_place_itself t.place) ∙ ap (λ (v : Entry _ _ _). same_place v.place t.place) (sym is) ∙ e in cc
        | inr rest ↦ entry_there t us rest
      ]
    ] refl

module _ {S W Map : Type 0} (s : Operations W Map) (side : Side) (o : Opening) (ts : List (Entry S W Map)) (ways : Ways) where
  -- the move goes on from the pair
  abbrev GoesFrom : Place → Move → Type 0
  GoesFrom x (Along i j y) = (x ≡ pair_place i y.from) × IsTrue (can_move ways.edges i y.label j) × IsSome (entry_at y ts)
  GoesFrom x (End i q) = (x ≡ pair_place i q) × IsTrue (ways.final i && has_state q o.finals)
  GoesFrom x Done = ⊥

  -- What such a move makes: the pair is still there.
  record Made (x : Place) (m : Move) (st : CoreState S W Map) : Type 0 where
    new : CoreState S W Map
    is : move s side o ts ways m st ≡ Some new
    stays : IsSome (entry_at x new.transitions)

  made : (x : Place) (m : Move) (st : CoreState S W Map) → GoesFrom x m → IsSome (entry_at x st.transitions) → Made x m st
  made x Done st goes there = absurd goes
  made x (Along i j y) st goes there =
      let from = entry_at (pair_place i y.from) st.transitions in
      let both : Option (CoreState S W Map) = option_and_then (λ u. option_map (λ t. apply s (along_change s side j u t) st) (entry_at y ts)) from in
      elim from as (λ e. from ≡ e → IsSome e → Made x (Along i j y) st) [
        | None ↦ λ e h. cc
        | Some u ↦ λ e h. elim (entry_at y ts) as (λ f. entry_at y ts ≡ f → IsSome f → Made x (Along i j y) st) [
          | None ↦ λ f g. cc
          | Some t ↦ λ f g. record {
            new = apply s (along_change s side j u t) st;
            is = cond-true (can_move ways.edges i y.label j) both None goes.1
                ∙ ap (option_and_then (λ v. option_map (λ w. apply s (along_change s side j v w) st) (entry_at y ts))) e
                ∙ ap (option_map (λ w. apply s (along_change s side j u w) st)) f;
            stays = apply_stays s (along_change s side j u t) x st there;
          }
        ] refl goes.2
      ] refl (subst (λ z. IsSome (entry_at z st.transitions)) goes.0 there)
  made x (End i q) st goes there =
      let from = entry_at (pair_place i q) st.transitions in
      let one : Option (CoreState S W Map) = option_map (λ u. apply s (end_change s side u) st) from in
      elim from as (λ e. from ≡ e → IsSome e → Made x (End i q) st) [
        | None ↦ λ e h. cc
        | Some u ↦ λ e h. record {
          new = apply s (end_change s side u) st;
          is = cond-true (ways.final i && has_state q o.finals) one None goes.1 ∙ ap (option_map (λ v. apply s (end_change s side v) st)) e;
          stays = apply_stays s (end_change s side u) x st there;
        }
      ] refl (subst (λ z. IsSome (entry_at z st.transitions)) goes.0 there)

  -- all of them, one after another
  all_made : (x : Place) (ms : List Move) (st : CoreState S W Map) → AllByRecursion (GoesFrom x) ms → IsSome (entry_at x st.transitions)
      → (new : CoreState S W Map) × (grow s side o ts ways st ms ≡ Some new)
  all_made x [] st goes there = (st, refl)
  all_made x (m ∷ ms) st goes there =
      let one = made x m st goes.0 there in
      let rest = all_made x ms one.new goes.1 one.stays in
      (rest.0, ap (option_and_then (λ n. grow s side o ts ways n ms)) one.is ∙ rest.1)

  edges_go : (i g : ℕ) (x y : Place) → x ≡ pair_place i y.from → y.label ≡ Symbol g → IsSome (entry_at y ts) → (es : List Place)
      → ((j : ℕ) → IsIn (Along i j y) (edge_moves i g y es) → IsTrue (can_move ways.edges i (Symbol g) j)) → AllByRecursion (GoesFrom x) (edge_moves i g y es)
  edges_go i g x y at label there [] have = tt
  edges_go i g x y at label there (e ∷ es) have =
      let test = nat_eq e.from i && same_label e.label (Symbol g) in
      elim test as (λ b. ((j : ℕ) → IsIn (Along i j y) (cond b (Along i e.to y ∷ edge_moves i g y es) (edge_moves i g y es)) → IsTrue (can_move ways.edges i (Symbol g) j))
      → AllByRecursion (GoesFrom x) (cond b (Along i e.to y ∷ edge_moves i g y es) (edge_moves i g y es))) [
        | true ↦ λ h. ((at, subst (λ l. IsTrue (can_move ways.edges i l e.to)) (sym label) (h e.to (inl refl)), there), edges_go i g x y at label there es (λ j k. h j (inr k)))
        | false ↦ λ h. edges_go i g x y at label there es h
      ] have

  by_go : (i : ℕ) (x : Place) (t : Entry S W Map) → x ≡ pair_place i t.place.from → IsSome (entry_at t.place ts) → AllByRecursion (GoesFrom x) (moves_by o ways i t)
  by_go i x t at there =
      elim t.place.label as (λ l. t.place.label ≡ l → AllByRecursion (GoesFrom x) (elim l [ Empty ↦ Along i i t.place ∷ [] | Symbol g ↦ edge_moves i g t.place ways.edges ])) [
        | Empty ↦ λ e. ((at, subst (λ l. IsTrue (can_move ways.edges i l i)) (sym e) (eq-eqb i i refl), there), tt)
        | Symbol g ↦ λ e. edges_go i g x t.place at e there ways.edges (λ j h. moves_have i g j t.place ways.edges h)
      ] refl

  pair_go : (i q : ℕ) (x : Place) → x ≡ pair_place i q → (us : List (Entry S W Map)) → ((t : Entry S W Map) → IsIn t us → IsSome (entry_at t.place ts)) → AllByRecursion (GoesFrom x) (pair_moves o ways i q us)
  pair_go i q x at [] there = tt
  pair_go i q x at (t ∷ us) there =
      let here = moves_by o ways i t in
      let rest = pair_moves o ways i q us in
      let others = pair_go i q x at us (λ u h. there u (inr h)) in
      elim (nat_eq t.place.from q) as (λ b. nat_eq t.place.from q ≡ b → AllByRecursion (GoesFrom x) (cond b (here ++ rest) rest)) [
        | true ↦ λ e. all_append (GoesFrom x) here rest (by_go i x t (at ∙ ap (pair_place i) (sym (eqb-true t.place.from q e))) (there t (inl refl))) others
        | false ↦ λ e. others
      ] refl

  end_go : (i q : ℕ) (x : Place) → x ≡ pair_place i q → AllByRecursion (GoesFrom x) (end_moves o ways i q)
  end_go i q x at =
      let test = ways.final i && has_state q o.finals in
      elim test as (λ b. test ≡ b → AllByRecursion (GoesFrom x) (cond b (End i q ∷ []) [])) [
        | true ↦ λ e. ((at, e), tt)
        | false ↦ λ e. tt
      ] refl

  all_go : (x : Place) → AllByRecursion (GoesFrom x) (moves_of o ways ts x)
  all_go x =
      let pairs = pair_moves o ways x.from x.to ts in
      let ends = end_moves o ways x.from x.to in
      elim x.label as (λ l. x.label ≡ l → AllByRecursion (GoesFrom x) (elim l [ Empty ↦ pairs ++ ends | Symbol g ↦ [] ])) [
        | Empty ↦ λ e.
            let is : x ≡ pair_place x.from x.to = ap (λ l. let y : Place = record { from = x.from; label = l; to = x.to } in y) e in
            all_append (GoesFrom x) pairs ends (pair_go x.from x.to x is ts (λ t h. entry_there t ts h)) (end_go x.from x.to x is)
        | Symbol g ↦ λ e. tt
      ] refl

  -- all that goes on from a place can be added
  pub draws : (x : Place) (st : CoreState S W Map) → IsSome (entry_at x st.transitions) → (new : CoreState S W Map) × (grow s side o ts ways st (moves_of o ways ts x) ≡ Some new)
  draws x st there = all_made x (moves_of o ways ts x) st (all_go x) there

module _ {S W Map : Type 0} {s : Operations W Map} (laws : IsSemiring s) (value : List ℕ → W) (p : Pushdown S W Map) (runs : Place → List ℕ → Type 0)
    (input : SumInputValue S W Map) (nodes : List Node) (is : IsSummable s value p runs input nodes) where
  -- A sum that is under way, at its end.
  pub record Ends : Type 0 where
    pub state : CoreState S W Map
    pub now : IsUnderWay s input nodes state
    pub empty : state.queue ≡ []

  from_here : (n : ℕ) (st : CoreState S W Map) → IsUnderWay s input nodes st → left_of s input nodes st < n → Ends
  from_here zero st now less = absurd (omega (arith, less))
  from_here (suc n) st now less =
      elim st.queue as (λ q. st.queue ≡ q → Ends) [
        | [] ↦ λ e. record { state = st; now = now; empty = e }
        | x ∷ q ↦ λ e.
            let there = (sum_good laws value p runs input nodes is st now.grown).sound.shape.present x (subst (IsIn x) (sym e) (inl refl)) in
            let drawn = draws s input.side input.opening input.transitions (ways_of input.pattern) x (past st q) there in
            let keeps = round_keeps laws value p runs input nodes is st drawn.0 x q now e drawn.1 in
            let falls = round_falls laws value p runs input nodes is st drawn.0 x q now e drawn.1 in
            from_here n drawn.0 keeps (omega (arith, less, falls))
      ] refl

  pub comes_to_end : Ends
  comes_to_end =
      let bare = bare_sum s input.side nodes (ways_of input.pattern) in
      from_here (suc (left_of s input nodes bare)) bare (begun laws value p runs input nodes is bare refl) (omega arith)

module _ {S W Map D : Type 0} {operations : S → Operations W Map} (laws : (x : S) → IsSemiring (operations x)) {way : Way S W Map D}
    {p : Pushdown S W Map} (valid : IsSystem operations p) {d : D} {o : Opening} {ts : List (Entry S W Map)} {nodes : List Node}
    (is : IsSaturatedAutomaton operations way p d o ts nodes) (sums : HasPathSums operations way d p o)
    (pattern : PatternValue) (control : pattern.control < p.controls) where
  -- the sum comes to its end
  pub ending : Ends (laws p.semiring) (value_of (operations p.semiring) p) p (way.runs d p o) (input laws valid is sums pattern control) nodes (summable laws valid is sums pattern control)
  ending = comes_to_end (laws p.semiring) (value_of (operations p.semiring) p) p (way.runs d p o) (input laws valid is sums pattern control) nodes (summable laws valid is sums pattern control)

  -- and has an answer there
  pub answer_at : (end : Ends (laws p.semiring) (value_of (operations p.semiring) p) p (way.runs d p o) (input laws valid is sums pattern control) nodes (summable laws valid is sums pattern control))
      → (a : Answer S W Map) × IsSumOver operations way p d o ts nodes pattern a × (a.value ≡ weight_at (operations p.semiring) answer_place end.state.transitions)
  answer_at end =
      let s = operations p.semiring in
      let side = (way.tables d p).side in
      let over = input laws valid is sums pattern control in
      let at = summable laws valid is sums pattern control in
      let st = end.state in
      let begins = grown_begins s side o ts (ways_of pattern) nodes st end.now.grown in
      let added = Start ∷ begins.0 in
      let kept = kept_at laws valid is sums pattern control st end.now in
      let shape = (sum_good (laws p.semiring) (value_of s p) p (way.runs d p o) over nodes at st end.now.grown).sound.shape in
      let l = listed s side nodes added st.transitions (subst (λ ns. AreKept s st.transitions (length ns)) begins.1 kept) (subst AreNodes begins.1 shape.nodes)
      (begins.0, refl) (entry_at answer_place st.transitions) refl in
      let a : Answer S W Map = record { value = weight_at s answer_place st.transitions; listing = l.0 } in
      (a, answer_sums laws valid is sums pattern control st end.now end.empty a refl added begins.1 l.1, refl)

  -- there is an answer of the sum
  pub answer_exists : (a : Answer S W Map) × IsSumOver operations way p d o ts nodes pattern a
  answer_exists = let is = answer_at ending in (is.0, is.1)
