-- A sum that is grown and closed answers the query.
use Rattle.std.proofs.Common.{◌≡◌, inl, inr, Bool, ℕ, ◌<◌, true, false, List, [], ◌∷◌, map, length, refl, sym, ap, ◌∙◌, subst, arith}
use Rattle.std.specs.Prelude.{Option, None, Some, IsTrue, IsSome, slice_get, ◌&&◌, option_map, option_and_then}
use Rattle.std.specs.List.{AllByRecursion}
use Rattle.std.proofs.lemmas.Bool.{cond_both, cond-true, and_parts, cases_Bool}
use Rattle.std.proofs.lemmas.Option.{same_Some, slice_get_within}
use Rattle.std.proofs.lemmas.List.{length_push}
use Rattle.semiring_laws.specs.Semiring.{Operations, IsSemiring, Fits, Below}
use Rattle.semiring_laws.specs.Combination.{combination}
use Rattle.semiring_laws.proofs.CallerLemmas.{combine_zero, below_itself, below_trans, below_zero}
use Rattle.weighted_automata.specs.declared.place.Place.{Place}
use Rattle.weighted_automata.specs.declared.transitions.Entry.{Entry}
use Rattle.weighted_automata.specs.Places.{same_place}
use Rattle.weighted_automata.specs.Entries.{entry_at, Present}
use Rattle.weighted_automata.proofs.CallerLemmas.{same_place_itself, entry_at-place}
use Rattle.witness_graph.specs.declared.node.Node.{Node}
use Rattle.witness_graph.specs.declared.node.Node.TheVariants.{Start}
use Rattle.witness_graph.specs.declared.node.Side.{Side}
use Rattle.witness_graph.specs.declared.node.Side.TheVariants.{Pre, Post}
use Rattle.witness_graph.specs.Runs.{runs_of}
use Rattle.witness_graph.proofs.CallerLemmas.{runs_of-push_old, runs_of-push_new, nodes_push}
use Rattle.pushdown_rules.specs.Configuration.{Configuration}
use Rattle.pushdown_rules.specs.Pushdown.{Pushdown}
use Rattle.pushdown_rules.specs.Values.{value_of}
use Rattle.saturation_laws.specs.declared.opening.Opening.{Opening}
use Rattle.saturation_laws.specs.Jobs.{Tables}
use Rattle.wpds_base.specs.Lists.{IsIn, IsOnce}
use Rattle.saturation_laws.specs.States.{CoreState, Change, weight_of, weight_at, apply}
use Rattle.saturation_laws.specs.Directions.{AreRuns}
use Rattle.saturation_laws.specs.Invariants.{IsSound, HasShape}
use Rattle.witness_graph.specs.Nodes.{AreNodes, is_orderly}
use Rattle.witness_graph.specs.Tight.{IsTightNode}
use Rattle.saturation_laws.specs.Paths.{IsPath, EachRun, IsOpened, Joins, IsSaturated, IsGiven, HasSums}
use Rattle.saturation_laws.proofs.CallerLemmas.{get_push, IsSoundChange, weights_fit, tight_same, apply_keeps}
use Rattle.path_sum.specs.Sums.{Ways, pair_place, answer_place, can_move, has_state, Move, Along, End, Done, along_change, end_change, move, grow, bare_sum, IsGrown}
use Rattle.path_sum.specs.private.Paths.{HasWay, Moves, AnswerRun, SumRun, IsQuery, listed, answer_runs}
use Rattle.path_sum.specs.private.Work.{IsSummed}
use Rattle.pushdown_rules.specs.Answers.{Leads, Answers}
use Rattle.path_sum.specs.Answers.{first_of, last_of}
use Rattle.path_sum.proofs.PairLemmas.{met_below}
use Rattle.path_sum.proofs.GrowingLemmas.{can_move_is, has_state_is, IsSum, along_sound, end_sound}

module _ {S W Map : Type 0} {s : Operations W Map} (laws : IsSemiring s) (value : List ℕ → W) (fits_value : (run : List ℕ) → Fits s (value run)) (p : Pushdown S W Map)
    (side : Side) (o : Opening) (ways : Ways) (runs : Place → List ℕ → Type 0) (control : ways.control < p.controls)
    (gives : (c : Configuration) (xs : List Place) (rs : List (List ℕ)) (to : ℕ) → c.control < p.controls → IsPath xs c.control c.stack to → EachRun runs xs rs → IsGiven s value side p o c to rs)
    (ts : List (Entry S W Map)) (nodes : List Node) (sound : (t : Entry S W Map) → Present ts t → IsSound s value runs side nodes t)
    (shape : (st : CoreState S W Map) × (st.nodes ≡ nodes) × HasShape s value side st) where
  abbrev sums : Place → List ℕ → Type 0
  sums = SumRun p side o ways runs

  abbrev Good : CoreState S W Map → Type 0
  Good = IsSum s value sums side ways nodes

  abbrev start_place : Place
  start_place = pair_place 0 ways.control

  abbrev start : Entry S W Map
  start = record { place = start_place; weight = s.one; node = length nodes }

  abbrev bare : CoreState S W Map
  bare = bare_sum s side nodes ways

  only_start : (t : Entry S W Map) → Present (start ∷ []) t → start ≡ t
  only_start t there = let P : Option (Entry S W Map) → Type 0 = λ e. e ≡ Some t → start ≡ t in
      cond_both (same_place start_place t.place) (Some start) None P (λ e h. same_Some start t h) (λ e h. cc) there

  start_there : entry_at start_place (start ∷ []) ≡ Some start
  start_there = cond-true (same_place start_place start_place) (Some start) None (same_place_itself start_place)

  start_is : runs_of side bare.nodes (length nodes) ≡ [] ∷ []
  start_is = runs_of-push_new side nodes Start

  start_runs : AreRuns s value sums start_place s.one (runs_of side bare.nodes (length nodes))
  start_runs =
      let given = gives (record { control = ways.control; stack = [] }) [] [] ways.control control (refl, refl) tt in
      let none : value [] ≡ s.one = given.value_is in
      let Q : List (List ℕ) → Type 0 = AreRuns s value sums start_place s.one in
      subst Q (sym start_is) (record {
        each = (([], [], [], refl, (refl, refl), tt, refl), tt);
        weight = sym (ap (λ w. s.combine w s.zero) none ∙ combine_zero laws s.one laws.fits-one);
      })

  abbrev worth : List Node → ℕ → W
  worth ns i = combination s (map value (runs_of side ns i))

  are_nodes : AreNodes nodes
  are_nodes = let P : List Node → Type 0 = AreNodes in subst P shape.1 shape.2.nodes

  orderly : (k : ℕ) (n : Node) → slice_get nodes k ≡ Some n → IsTrue (is_orderly k n)
  orderly k n at = (are_nodes.each k n at).orderly

  tight : (k : ℕ) (n : Node) → slice_get nodes k ≡ Some n → IsTightNode (worth nodes) s.zero k n
  tight k n at = let P : List Node → Type 0 = λ ns. IsTightNode (worth ns) s.zero k n in subst P shape.1 (shape.2.tight.each k n (ap (λ ns. slice_get ns k) shape.1 ∙ at))

  pub bare_good : Good bare
  bare_good = record {
    sound = record {
      nonzero = λ t there z. laws.one_is_not_zero (ap (λ (e : Entry S W Map). e.weight) (only_start t there) ∙ z);
      sound = λ t there. let P : Entry S W Map → Type 0 = IsSound s value sums side bare.nodes in
          subst P (only_start t there) (record { node = omega (arith, length_push nodes Start); are_runs = start_runs });
      shape = record {
        places = (refl, tt);
        seats = refl;
        queue = (λ h. h, tt);
        present = λ x h. elim h [
          | inl e ↦ let P : Place → Type 0 = λ y. IsSome (entry_at y (start ∷ [])) in let Q : Option (Entry S W Map) → Type 0 = IsSome in subst P e (subst Q (sym start_there) refl)
          | inr g ↦ absurd g
        ];
        nodes = nodes_push nodes Start are_nodes (record { orderly = refl; part = refl });
        tight = record {
          each = λ k n at. elim (get_push nodes Start n k at) [
            | inl e ↦ tight_same (worth nodes) (worth bare.nodes) s.zero k n
                (λ i below. let within : k < length nodes = slice_get_within nodes k n e in
                ap (λ rs. combination s (map value rs)) (runs_of-push_old side nodes Start i (omega arith)))
                (orderly k n e) (tight k n e)
            | inr e ↦ let P : Node → Type 0 = IsTightNode (worth bare.nodes) s.zero k in subst P e.1 tt
          ];
        };
      };
    };
    more = omega (arith, length_push nodes Start);
    same = λ k within. runs_of-push_old side nodes Start k within;
    opens = let P : W → Type 0 = λ w. Below s w s.one in subst P (sym (ap (weight_of s) start_there)) (below_itself laws s.one laws.fits-one);
  }

  -- a transition of the book, over the nodes of a sum
  pub still_sound : (st : CoreState S W Map) → Good st → (t : Entry S W Map) → Present ts t → IsSound s value runs side st.nodes t
  still_sound st good t there =
      let is = sound t there in
      let P : List (List ℕ) → Type 0 = AreRuns s value runs t.place t.weight in
      record { node = omega (arith, good.more, is.node); are_runs = subst P (sym (good.same t.node is.node)) is.are_runs }

  change_good : (st : CoreState S W Map) → Good st → (c : Change W) → IsSoundChange s value sums side st.nodes c → Good (apply s c st)
  change_good st good c change =
      let is = apply_keeps laws value fits_value sums side st good.sound c change in
      record {
        sound = is.sound;
        more = omega (arith, good.more, is.grows.more);
        same = λ k within. is.grows.runs k (omega (arith, good.more)) ∙ good.same k within;
        opens = below_trans laws _ _ _ (weights_fit laws value fits_value sums side (apply s c st) is.sound start_place) (weights_fit laws value fits_value sums side st good.sound start_place) laws.fits-one
            (is.grows.weights start_place) good.opens;
      }

  pub itself : (x : Place) (us : List (Entry S W Map)) (u : Entry S W Map) → entry_at x us ≡ Some u → Present us u
  itself x us u e = ap (λ y. entry_at y us) (entry_at-place x us u e) ∙ e

  pub move_good : (m : Move) (st new : CoreState S W Map) → Good st → move s side o ts ways m st ≡ Some new → Good new
  move_good (Along i j x) st new good h =
      let from = entry_at (pair_place i x.from) st.transitions in
      let P : Option (CoreState S W Map) → Type 0 = λ e. e ≡ Some new → Good new in
      cond_both (can_move ways.edges i x.label j) (option_and_then (λ u. option_map (λ t. apply s (along_change s side j u t) st) (entry_at x ts)) from) None P
      (λ can. elim from as (λ e. from ≡ e → option_and_then (λ u. option_map (λ t. apply s (along_change s side j u t) st) (entry_at x ts)) e ≡ Some new → Good new) [
        | None ↦ λ e g. cc
        | Some u ↦ λ e. elim (entry_at x ts) as (λ f. entry_at x ts ≡ f → option_map (λ t. apply s (along_change s side j u t) st) f ≡ Some new → Good new) [
          | None ↦ λ f g. cc
          | Some t ↦ λ f g.
              let at : t.place ≡ x = entry_at-place x ts t f in
              let at' : u.place ≡ pair_place i t.place.from = entry_at-place (pair_place i x.from) st.transitions u e ∙ ap (λ (y : Place). pair_place i y.from) (sym at) in
              let moves : Moves ways.edges i t.place.label j = let Q : Place → Type 0 = λ y. Moves ways.edges i y.label j in subst Q (sym at) (can_move_is ways.edges i x.label j can) in
              let us = good.sound.sound u (itself (pair_place i x.from) st.transitions u e) in
              let vs = still_sound st good t (itself x ts t f) in
              let T : CoreState S W Map → Type 0 = Good in
              subst T (same_Some _ new g) (change_good st good (along_change s side j u t)
              (along_sound laws value fits_value p side o ways runs control gives st.nodes i j u t at' moves us vs))
        ] refl
      ] refl)
      (λ cannot g. cc) h
  move_good (End i q) st new good h =
      let from = entry_at (pair_place i q) st.transitions in
      let P : Option (CoreState S W Map) → Type 0 = λ e. e ≡ Some new → Good new in
      cond_both (ways.final i && has_state q o.finals) (option_map (λ u. apply s (end_change s side u) st) from) None P
      (λ can. elim from as (λ e. from ≡ e → option_map (λ u. apply s (end_change s side u) st) e ≡ Some new → Good new) [
        | None ↦ λ e g. cc
        | Some u ↦ λ e g.
            let tests = and_parts (ways.final i) (has_state q o.finals) can in
            let us = good.sound.sound u (itself (pair_place i q) st.transitions u e) in
            let T : CoreState S W Map → Type 0 = Good in
            subst T (same_Some _ new g) (change_good st good (end_change s side u)
            (end_sound laws value fits_value p side o ways runs control gives st.nodes i q u (entry_at-place (pair_place i q) st.transitions u e) tests.0 (has_state_is q o.finals tests.1) us))
      ] refl)
      (λ cannot g. cc) h
  move_good Done st new good h =
      elim st.queue as (λ q. st.queue ≡ q → (elim q [ [] ↦ None | x ∷ r ↦ Some (record { transitions = st.transitions; nodes = st.nodes; queue = r; hands = st.hands }) ]) ≡ Some new → Good new) [
        | [] ↦ λ e g. cc
        | x ∷ r ↦ λ e g.
            let shape = good.sound.shape in
            let P : List Place → Type 0 = IsOnce in
            let once = subst P e shape.queue in
            let T : CoreState S W Map → Type 0 = Good in
            subst T (same_Some _ new g) (record {
              sound = record {
                nonzero = good.sound.nonzero;
                sound = good.sound.sound;
                shape = record {
                  places = shape.places;
                  seats = shape.seats;
                  queue = once.1;
                  present = λ y in'. let Q : List Place → Type 0 = IsIn y in shape.present y (subst Q (sym e) (inr in'));
                  nodes = shape.nodes;
                  tight = shape.tight;
                };
              };
              more = good.more;
              same = good.same;
              opens = good.opens;
            })
      ] refl h

  pub grow_good : (ms : List Move) (st new : CoreState S W Map) → Good st → grow s side o ts ways st ms ≡ Some new → Good new
  grow_good [] st new good h = let P : CoreState S W Map → Type 0 = Good in subst P (same_Some st new h) good
  grow_good (m ∷ ms) st new good h =
      elim (move s side o ts ways m st) as (λ e. move s side o ts ways m st ≡ e → option_and_then (λ n. grow s side o ts ways n ms) e ≡ Some new → Good new) [
        | None ↦ λ e g. cc
        | Some n ↦ λ e g. grow_good ms n new (move_good m st n good e) g
      ] refl h

  -- what is grown from a book is a sum over its nodes
  pub grown_good : (st : CoreState S W Map) → IsGrown s side o ts nodes ways st → Good st
  grown_good st grown = grow_good grown.moves bare st bare_good grown.grows

module _ {S W Map : Type 0} {s : Operations W Map} (laws : IsSemiring s) (p : Pushdown S W Map) (fits_value : (run : List ℕ) → Fits s (value_of s p run))
    (side : Side) (o : Opening) (ways : Ways) (d : Tables S W Map) (opening : List (Entry S W Map)) (runs : Place → List ℕ → Type 0) (control : ways.control < p.controls)
    (laws_on_sums : HasSums s (value_of s p) p o side d opening runs)
    (ts : List (Entry S W Map)) (saturated : IsSaturated s d opening ts) (nodes : List Node) (sound : (t : Entry S W Map) → Present ts t → IsSound s (value_of s p) runs side nodes t)
    (shape : (st : CoreState S W Map) × (st.nodes ≡ nodes) × HasShape s (value_of s p) side st)
    (near far : Configuration → Bool) (query : IsQuery p o ways near far) where
  abbrev value : List ℕ → W
  value = value_of s p

  leads_from : (sd : Side) (run : List ℕ) (c d' : Configuration) → HasWay ways c → IsOpened o d' → d'.control < p.controls → Joins sd p c run d' → Leads s p (first_of sd near far) (last_of sd near far) run
  leads_from Pre run c d' way opened low joins = (c, d', (query.near_is c).1 way, (query.far_is d').1 (opened, low), joins)
  leads_from Post run c d' way opened low joins = (d', c, (query.far_is d').1 (opened, low), (query.near_is c).1 way, joins)

  all_lead : (zs : List (List ℕ)) → AllByRecursion (AnswerRun p side o ways runs) zs → AllByRecursion (Leads s p (first_of side near far) (last_of side near far)) zs
  all_lead [] _ = tt
  all_lead (z ∷ zs) all = (leads_from side z all.0.0 all.0.1 all.0.2 all.0.3 all.0.4 all.0.5, all_lead zs all.1)

  joins_of : (sd : Side) (run : List ℕ) → Leads s p (first_of sd near far) (last_of sd near far) run → (c : Configuration) × (d' : Configuration) × HasWay ways c × (IsOpened o d' × (d'.control < p.controls)) × Joins sd p c run d'
  joins_of Pre run leads = (leads.0, leads.1, (query.near_is leads.0).0 leads.2, (query.far_is leads.1).0 leads.3, leads.4)
  joins_of Post run leads = (leads.1, leads.0, (query.near_is leads.1).0 leads.3, (query.far_is leads.0).0 leads.2, leads.4)

  module _ (st : CoreState S W Map) (grown : IsGrown s side o ts nodes ways st) (summed : IsSummed s side o ts ways st.transitions) where
    good : IsSum s value (SumRun p side o ways runs) side ways nodes st
    good = grown_good laws value fits_value p side o ways runs control laws_on_sums.gives ts nodes sound shape st grown

    answer_is : (e : Option (Entry S W Map)) → entry_at answer_place st.transitions ≡ e
        → AllByRecursion (AnswerRun p side o ways runs) (listed side st e) × (weight_of s e ≡ combination s (map value (listed side st e)))
    answer_is None e = (tt, refl)
    answer_is (Some t) e =
        let at : t.place ≡ answer_place = entry_at-place answer_place st.transitions t e in
        let is = (good.sound.sound t (ap (λ y. entry_at y st.transitions) at ∙ e)).are_runs in
        let P : Place → Type 0 = λ x. AllByRecursion (SumRun p side o ways runs x) (runs_of side st.nodes t.node) in
        (subst P at is.each, is.weight)

    below_run : (run : List ℕ) → Leads s p (first_of side near far) (last_of side near far) run → Below s (weight_at s answer_place st.transitions) (value run)
    below_run run leads =
        let j = joins_of side run leads in
        let fit = weights_fit laws value fits_value (SumRun p side o ways runs) side st good.sound in
        let v = value run in
        let decides = laws.same_is_equal v s.zero (fits_value run) laws.fits-zero in
        let P : W → Type 0 = Below s (weight_at s answer_place st.transitions) in
        let low : j.0.control < p.controls = let Q : ℕ → Type 0 = λ n. n < p.controls in subst Q (sym j.2.0) control in
        elim (cases_Bool (s.same v s.zero)) [
          | inl e ↦ subst P (sym (decides.0 e)) (below_zero laws (weight_at s answer_place st.transitions) (fit answer_place))
          | inr e ↦ met_below laws side o ts ways st.transitions saturated.fit fit good.opens summed j.0 v (fits_value run) j.2
              (laws_on_sums.met ts saturated run j.0 j.1 low j.3.1 j.4 j.3.0 (λ z. let f : true ≡ false = sym (decides.1 z) ∙ e in cc))
        ]

    -- the sum answers the query, with the runs of the answer's node
    pub sum_answers : Answers s p (first_of side near far) (last_of side near far) (weight_at s answer_place st.transitions) (answer_runs side st)
    sum_answers =
        let is = answer_is (entry_at answer_place st.transitions) refl in
        record { lead = all_lead (answer_runs side st) is.0; combined = is.1; below = below_run }
