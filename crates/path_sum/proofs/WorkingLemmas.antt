-- Work on the pairs that wait, until none does.
use Rattle.std.proofs.Common.{◌≡◌, ◌⊎◌, inl, inr, ℕ, suc, ◌+◌, ◌-◌, ◌*◌, ◌<◌, ◌≤◌, List, [], ◌∷◌, length, refl, sym, ap, ◌∙◌, subst, arith}
use Rattle.std.specs.Prelude.{Option, None, Some, is_some, ◌&&◌, option_map, option_and_then}
use Rattle.std.proofs.lemmas.Bool.{cond_both, and_parts}
use Rattle.std.proofs.lemmas.Option.{same_Some}
use Rattle.semiring_laws.specs.Semiring.{Operations, IsSemiring, Fits, Below}
use Rattle.weighted_automata.specs.declared.place.Place.{Place}
use Rattle.weighted_automata.specs.declared.transitions.Entry.{Entry}
use Rattle.weighted_automata.specs.Entries.{entry_at, Present}
use Rattle.weighted_automata.proofs.CallerLemmas.{entry_at-place}
use Rattle.witness_graph.specs.declared.node.Node.{Node}
use Rattle.witness_graph.specs.declared.node.Side.{Side}
use Rattle.pushdown_rules.specs.Configuration.{Configuration}
use Rattle.pushdown_rules.specs.Pushdown.{Pushdown}
use Rattle.saturation_laws.specs.declared.opening.Opening.{Opening}
use Rattle.saturation_laws.specs.Bound.{fallen}
use Rattle.saturation_laws.proofs.CallerLemmas.{Counts, counts_itself, counts_further, apply_counts, IsSoundChange, Grows, weights_fit, entry_fits, apply_keeps, grows_itself, grows_further}
use Rattle.wpds_base.specs.Lists.{IsIn}
use Rattle.saturation_laws.specs.States.{CoreState, Change, weight_at, apply}
use Rattle.saturation_laws.specs.Invariants.{IsSound, HasShape}
use Rattle.saturation_laws.specs.Paths.{IsPath, EachRun, in_order, IsGiven}
use Rattle.semiring_laws.proofs.CallerLemmas.{below_trans}
use Rattle.path_sum.proofs.EntryLemmas.{entry_in}
use Rattle.path_sum.specs.Sums.{Ways, pair_place, answer_place, can_move, has_state, Move, Along, End, Done, along_change, end_change, move, grow, bare_sum}
use Rattle.path_sum.specs.private.Paths.{Moves, SumRun}
use Rattle.path_sum.specs.private.Work.{IsSummed, IsAwaited, IsAmong, AreReachable, IsWork}
use Rattle.path_sum.proofs.OrderLemmas.{order_fits}
use Rattle.path_sum.proofs.GrowingLemmas.{can_move_is, has_state_is, IsSum, along_sound, end_sound}
use Rattle.path_sum.proofs.SumLemmas.{still_sound, move_good, grow_good}

suc_times : (n t : ℕ) → suc n * t ≡ t + n * t
suc_times n t = omega arith

module _ {S W Map : Type 0} {s : Operations W Map} (laws : IsSemiring s) (value : List ℕ → W) (fits_value : (run : List ℕ) → Fits s (value run)) (p : Pushdown S W Map)
    (side : Side) (o : Opening) (ways : Ways) (runs : Place → List ℕ → Type 0) (control : ways.control < p.controls)
    (gives : (c : Configuration) (xs : List Place) (rs : List (List ℕ)) (to : ℕ) → c.control < p.controls → IsPath xs c.control c.stack to → EachRun runs xs rs → IsGiven s value side p o c to rs)
    (ts : List (Entry S W Map)) (nodes : List Node) (sound : (t : Entry S W Map) → Present ts t → IsSound s value runs side nodes t)
    (shape : (st : CoreState S W Map) × (st.nodes ≡ nodes) × HasShape s value side st) where
  abbrev sums : Place → List ℕ → Type 0
  sums = SumRun p side o ways runs

  abbrev Good : CoreState S W Map → Type 0
  Good = IsSum s value sums side ways nodes

  -- the move's pair waits, or what it adds is there
  abbrev Settled : Move → CoreState S W Map → Type 0
  Settled (Along i j x) st = (u t : Entry S W Map) → entry_at (pair_place i x.from) st.transitions ≡ Some u → entry_at x ts ≡ Some t
      → Below s (weight_at s (pair_place j t.place.to) st.transitions) (in_order s side u.weight t.weight) ⊎ IsIn (pair_place i x.from) st.queue
  Settled (End i q) st = (u : Entry S W Map) → entry_at (pair_place i q) st.transitions ≡ Some u → Below s (weight_at s answer_place st.transitions) u.weight ⊎ IsIn (pair_place i q) st.queue
  Settled Done st = Unit {0}

  fit_at : (st : CoreState S W Map) → Good st → (x : Place) → Fits s (weight_at s x st.transitions)
  fit_at st good x = weights_fit laws value fits_value sums side st good.sound x

  fit_pair : (st : CoreState S W Map) → Good st → (x : Place) (u : Entry S W Map) → entry_at x st.transitions ≡ Some u → Fits s u.weight
  fit_pair st good x u e = entry_fits laws value fits_value sums side st.nodes u (good.sound.sound u (ap (λ y. entry_at y st.transitions) (entry_at-place x st.transitions u e) ∙ e))

  fit_there : (x : Place) (t : Entry S W Map) → entry_at x ts ≡ Some t → Fits s t.weight
  fit_there x t e = entry_fits laws value fits_value runs side nodes t (sound t (ap (λ y. entry_at y ts) (entry_at-place x ts t e) ∙ e))

  settled_later : (m : Move) (st new : CoreState S W Map) → Good st → Good new → Grows s side st new → Settled m st → Settled m new
  settled_later (Along i j x) st new good good' grows settled = λ u t e f.
      let y = pair_place i x.from in
      elim (grows.entries y) [
        | inr waits ↦ inr waits
        | inl same ↦ elim (settled u t (sym same ∙ e) f) [
          | inr waits ↦ inr (grows.queue y waits)
          | inl below ↦ let goal = pair_place j t.place.to in
              inl (below_trans laws _ _ _ (fit_at new good' goal) (fit_at st good goal) (order_fits laws side u.weight t.weight (fit_pair new good' y u e) (fit_there x t f)) (grows.weights goal) below)
        ]
      ]
  settled_later (End i q) st new good good' grows settled = λ u e.
      let y = pair_place i q in
      elim (grows.entries y) [
        | inr waits ↦ inr waits
        | inl same ↦ elim (settled u (sym same ∙ e)) [
          | inr waits ↦ inr (grows.queue y waits)
          | inl below ↦ inl (below_trans laws _ _ _ (fit_at new good' answer_place) (fit_at st good answer_place) (fit_pair new good' y u e) (grows.weights answer_place) below)
        ]
      ]
  settled_later Done st new good good' grows settled = tt

  -- What a move that adds gives.
  pub record Adds (m : Move) (st new : CoreState S W Map) : Type 0 where
    pub grows : Grows s side st new
    pub settled : Settled m new
    pub change : Change W
    pub change_sound : IsSoundChange s value sums side st.nodes change
    pub makes : new ≡ apply s change st
    pub goal : (places : List Place) → AreReachable ts ways places → IsAmong places st.transitions → IsIn change.goal places

  move_adds : (m : Move) (st new : CoreState S W Map) → (m ≡ Done → ⊥) → Good st → move s side o ts ways m st ≡ Some new → Adds m st new
  move_adds Done st new adds good h = absurd (adds refl)
  move_adds (Along i j x) st new adds good h =
      let y = pair_place i x.from in
      let from = entry_at y st.transitions in
      let P : Option (CoreState S W Map) → Type 0 = λ e. e ≡ Some new → Adds (Along i j x) st new in
      cond_both (can_move ways.edges i x.label j) (option_and_then (λ u. option_map (λ t. apply s (along_change s side j u t) st) (entry_at x ts)) from) None P
      (λ can. elim from as (λ e. from ≡ e → option_and_then (λ u. option_map (λ t. apply s (along_change s side j u t) st) (entry_at x ts)) e ≡ Some new → Adds (Along i j x) st new) [
        | None ↦ λ e g. cc
        | Some u ↦ λ e. elim (entry_at x ts) as (λ f. entry_at x ts ≡ f → option_map (λ t. apply s (along_change s side j u t) st) f ≡ Some new → Adds (Along i j x) st new) [
          | None ↦ λ f g. cc
          | Some t ↦ λ f g.
              let at : t.place ≡ x = entry_at-place x ts t f in
              let at' : u.place ≡ pair_place i t.place.from = entry_at-place y st.transitions u e ∙ ap (λ (z : Place). pair_place i z.from) (sym at) in
              let moves : Moves ways.edges i t.place.label j = let Q : Place → Type 0 = λ z. Moves ways.edges i z.label j in subst Q (sym at) (can_move_is ways.edges i x.label j can) in
              let us = good.sound.sound u (ap (λ z. entry_at z st.transitions) (entry_at-place y st.transitions u e) ∙ e) in
              let vs = still_sound laws value fits_value p side o ways runs control gives ts nodes sound shape st good t (ap (λ z. entry_at z ts) at ∙ f) in
              let c = along_change s side j u t in
              let change = along_sound laws value fits_value p side o ways runs control gives st.nodes i j u t at' moves us vs in
              let is = apply_keeps laws value fits_value sums side st good.sound c change in
              let T : CoreState S W Map → Type 0 = Adds (Along i j x) st in
              subst T (same_Some _ new g) (record {
                grows = is.grows;
                settled = λ v w e' f'.
                    elim (is.grows.entries y) [
                      | inr waits ↦ inr waits
                      | inl same ↦
                          let eu : u ≡ v = same_Some u v (sym e ∙ sym same ∙ e') in
                          let et : t ≡ w = same_Some t w (sym f ∙ f') in
                          let Q : Entry S W Map → Entry S W Map → Type 0 = λ a b. Below s (weight_at s (pair_place j b.place.to) (apply s c st).transitions) (in_order s side a.weight b.weight) in
                          let Q₁ : Entry S W Map → Type 0 = λ a. Q a t in
                          let Q₂ : Entry S W Map → Type 0 = λ b. Q v b in
                          inl (subst Q₂ et (subst Q₁ eu is.applied))
                    ];
                change = c;
                change_sound = change;
                makes = refl;
                goal = λ places reach among. let R : Place → Type 0 = λ z. IsIn (pair_place i z.from) places in
                    reach.pairs i j t (subst R (sym at) (among y (ap is_some e))) (ap (λ z. entry_at z ts) at ∙ f) moves;
              })
        ] refl
      ] refl)
      (λ cannot g. cc) h
  move_adds (End i q) st new adds good h =
      let y = pair_place i q in
      let from = entry_at y st.transitions in
      let P : Option (CoreState S W Map) → Type 0 = λ e. e ≡ Some new → Adds (End i q) st new in
      cond_both (ways.final i && has_state q o.finals) (option_map (λ u. apply s (end_change s side u) st) from) None P
      (λ can. elim from as (λ e. from ≡ e → option_map (λ u. apply s (end_change s side u) st) e ≡ Some new → Adds (End i q) st new) [
        | None ↦ λ e g. cc
        | Some u ↦ λ e g.
            let tests = and_parts (ways.final i) (has_state q o.finals) can in
            let us = good.sound.sound u (ap (λ z. entry_at z st.transitions) (entry_at-place y st.transitions u e) ∙ e) in
            let c = end_change s side u in
            let change = end_sound laws value fits_value p side o ways runs control gives st.nodes i q u (entry_at-place y st.transitions u e) tests.0 (has_state_is q o.finals tests.1) us in
            let is = apply_keeps laws value fits_value sums side st good.sound c change in
            let T : CoreState S W Map → Type 0 = Adds (End i q) st in
            subst T (same_Some _ new g) (record {
              grows = is.grows;
              settled = λ v e'. elim (is.grows.entries y) [
                | inr waits ↦ inr waits
                | inl same ↦ let eu : u ≡ v = same_Some u v (sym e ∙ sym same ∙ e') in
                    let Q : Entry S W Map → Type 0 = λ a. Below s (weight_at s answer_place (apply s c st).transitions) a.weight in
                    inl (subst Q eu is.applied)
              ];
              change = c;
              change_sound = change;
              makes = refl;
              goal = λ places reach among. reach.answer;
            })
      ] refl)
      (λ cannot g. cc) h

  -- What moves that add give.
  pub record AddsAll (ms : List Move) (st new : CoreState S W Map) : Type 0 where
    pub grows : Grows s side st new
    pub settled : (m : Move) → IsIn m ms → Settled m new

  moves_add : (ms : List Move) (st new : CoreState S W Map) → (IsIn Done ms → ⊥) → Good st → grow s side o ts ways st ms ≡ Some new → AddsAll ms st new
  moves_add [] st new adds good h =
      let T : CoreState S W Map → Type 0 = AddsAll [] st in
      subst T (same_Some st new h) (record { grows = grows_itself laws value fits_value sums side st good.sound; settled = λ m in'. absurd in' })
  moves_add (m ∷ ms) st new adds good h =
      elim (move s side o ts ways m st) as (λ e. move s side o ts ways m st ≡ e → option_and_then (λ n. grow s side o ts ways n ms) e ≡ Some new → AddsAll (m ∷ ms) st new) [
        | None ↦ λ e g. cc
        | Some n ↦ λ e g.
            let mid = move_good laws value fits_value p side o ways runs control gives ts nodes sound shape m st n good e in
            let end = grow_good laws value fits_value p side o ways runs control gives ts nodes sound shape ms n new mid g in
            let one = move_adds m st n (λ d. adds (inl d)) good e in
            let rest = moves_add ms n new (λ d. adds (inr d)) mid g in
            record {
              grows = grows_further laws value fits_value sums side st n new good.sound mid.sound end.sound one.grows rest.grows;
              settled = λ i in'. elim in' [
                | inl same ↦ let P : Move → Type 0 = λ k. Settled k new in subst P same (settled_later m n new mid end rest.grows one.settled)
                | inr there ↦ rest.settled i there
              ];
            }
      ] refl h

  abbrev pub past : CoreState S W Map → List Place → CoreState S W Map
  past st q = record { transitions = st.transitions; nodes = st.nodes; queue = q; hands = st.hands }

  pub past_good : (st : CoreState S W Map) (x : Place) (q : List Place) → Good st → st.queue ≡ x ∷ q → Good (past st q)
  past_good st x q good front = move_good laws value fits_value p side o ways runs control gives ts nodes sound shape Done st (past st q) good
      (ap (λ r. elim r [ [] ↦ None | y ∷ z ↦ Some (past st z) ]) front)

  -- what is drawn from the pair at the front keeps what waits
  pub work_keeps : (st new : CoreState S W Map) (x : Place) (q : List Place) (ms : List Move) → Good st → st.queue ≡ x ∷ q → IsWork o ts ways x ms → IsAwaited s side o ts ways st
      → grow s side o ts ways (past st q) ms ≡ Some new → IsAwaited s side o ts ways new
  work_keeps st new x q ms good front work awaited h =
      let good' = past_good st x q good front in
      let end = grow_good laws value fits_value p side o ways runs control gives ts nodes sound shape ms (past st q) new good' h in
      let all = moves_add ms (past st q) new work.adds good' h in
      record {
        along = λ i j u t e there moves.
            let y = pair_place i t.place.from in
            elim (all.grows.entries y) [
              | inr waits ↦ inr waits
              | inl same ↦ elim (awaited.along i j u t (sym same ∙ e) there moves) [
                | inl below ↦ let goal = pair_place j t.place.to in
                    inl (below_trans laws _ _ _ (fit_at new end goal) (fit_at (past st q) good' goal) (order_fits laws side u.weight t.weight (fit_pair new end y u e) (fit_there t.place t there)) (all.grows.weights goal) below)
                | inr waited ↦ let P : List Place → Type 0 = IsIn y in elim (subst P front waited) [
                  | inl here ↦ all.settled (Along i j t.place) (work.along i j t here there moves) u t e there
                  | inr rest ↦ inr (all.grows.queue y rest)
                ]
              ]
            ];
        ends = λ i r u e final final'.
            let y = pair_place i r in
            elim (all.grows.entries y) [
              | inr waits ↦ inr waits
              | inl same ↦ elim (awaited.ends i r u (sym same ∙ e) final final') [
                | inl below ↦ inl (below_trans laws _ _ _ (fit_at new end answer_place) (fit_at (past st q) good' answer_place) (fit_pair new end y u e) (all.grows.weights answer_place) below)
                | inr waited ↦ let P : List Place → Type 0 = IsIn y in elim (subst P front waited) [
                  | inl here ↦ all.settled (End i r) (work.ends i r here final final') u e
                  | inr rest ↦ inr (all.grows.queue y rest)
                ]
              ]
            ];
      }

  -- at the start the one pair waits
  pub bare_awaited : IsAwaited s side o ts ways (bare_sum s side nodes ways)
  bare_awaited =
      let start : Entry S W Map = record { place = pair_place 0 ways.control; weight = s.one; node = length nodes } in
      let only : (y : Place) (u : Entry S W Map) → entry_at y (start ∷ []) ≡ Some u → IsIn y (pair_place 0 ways.control ∷ []) = λ y u e.
      let there = entry_in y (start ∷ []) u e in
      inl (elim there [ inl same ↦ ap (λ (v : Entry S W Map). v.place) same ∙ entry_at-place y (start ∷ []) u e | inr g ↦ absurd g ]) in
      record {
        along = λ i j u t e there moves. inr (only (pair_place i t.place.from) u e);
        ends = λ i q u e final final'. inr (only (pair_place i q) u e);
      }

  module _ (places : List Place) (reach : AreReachable ts ways places) where
    pub moves_count : (ms : List Move) (st new : CoreState S W Map) → (IsIn Done ms → ⊥) → Good st → IsAmong places st.transitions → grow s side o ts ways st ms ≡ Some new → Counts s places st new
    moves_count [] st new adds good among h = let T : CoreState S W Map → Type 0 = Counts s places st in subst T (same_Some st new h) (counts_itself places st)
    moves_count (m ∷ ms) st new adds good among h =
        elim (move s side o ts ways m st) as (λ e. move s side o ts ways m st ≡ e → option_and_then (λ n. grow s side o ts ways n ms) e ≡ Some new → Counts s places st new) [
          | None ↦ λ e g. cc
          | Some n ↦ λ e g.
              let mid = move_good laws value fits_value p side o ways runs control gives ts nodes sound shape m st n good e in
              let one = move_adds m st n (λ d. adds (inl d)) good e in
              let T : CoreState S W Map → Type 0 = Counts s places st in
              let first = subst T (sym one.makes) (apply_counts laws value fits_value sums side places st good.sound one.change one.change_sound (one.goal places reach among)) in
              let after : IsAmong places n.transitions = λ x there. elim (first.within x there) [ inl before ↦ among x before | inr in' ↦ in' ] in
              counts_further places st n new first (moves_count ms n new (λ d. adds (inr d)) mid after g)
        ] refl h

    pub fallen_top : (st : CoreState S W Map) → (xs : List Place) → fallen s st.transitions xs ≤ length xs * s.top_rank
    fallen_top st [] = omega arith
    fallen_top st (x ∷ xs) = omega (arith, fallen_top st xs, suc_times (length xs) s.top_rank)

    -- what is left to do
    abbrev pub left : CoreState S W Map → ℕ
    left st = (length places * s.top_rank - fallen s st.transitions places) + length st.queue

    -- work on the pair at the front leaves less to do
    pub work_falls : (st new : CoreState S W Map) (x : Place) (q : List Place) (ms : List Move) → Good st → IsAmong places st.transitions → st.queue ≡ x ∷ q → (IsIn Done ms → ⊥)
        → grow s side o ts ways (past st q) ms ≡ Some new → left new < left st
    work_falls st new x q ms good among front adds h =
        let counts = moves_count ms (past st q) new adds (past_good st x q good front) among h in
        let long : length st.queue ≡ suc (length q) = ap length front in
        omega (arith, counts.queue, counts.nodes, fallen_top new places, long)

  -- where nothing waits, nothing more is to be added
  pub summed_up : (st : CoreState S W Map) → IsAwaited s side o ts ways st → st.queue ≡ [] → IsSummed s side o ts ways st.transitions
  summed_up st awaited empty = record {
    along = λ i j u t e there moves. elim (awaited.along i j u t e there moves) [
      | inl below ↦ below
      | inr waits ↦ let P : List Place → Type 0 = IsIn (pair_place i t.place.from) in absurd (subst P empty waits)
    ];
    ends = λ i q u e final final'. elim (awaited.ends i q u e final final') [
      | inl below ↦ below
      | inr waits ↦ let P : List Place → Type 0 = IsIn (pair_place i q) in absurd (subst P empty waits)
    ];
  }
