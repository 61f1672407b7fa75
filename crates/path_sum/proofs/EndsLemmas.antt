-- What a finished walk comes to, for any final states over the same edges.
use Rattle.std.proofs.Common.{◌≡◌, inl, inr, IsTrue, ℕ, suc, ◌<◌, true, false, List, [], ◌∷◌, ◌++◌, cond, length, map, refl, sym, ap, ap₂, ◌∙◌, subst}
use Rattle.std.specs.Prelude.{All, None, Some, ◌&&◌, option_and_then, option_map}
use Rattle.std.specs.List.{AllByRecursion, range_with_len}
use Rattle.std.proofs.lemmas.Bool.{cond_both, cond-true, and_from}
use Rattle.std.proofs.lemmas.List.Elements.{All-from_recursion}
use Rattle.semiring_laws.specs.Semiring.{Operations, IsSemiring, Fits, Below}
use Rattle.semiring_laws.specs.Combination.{combination}
use Rattle.semiring_laws.proofs.CallerLemmas.{fits, below_trans, combine_zero, combine_below_left, combine_below_right}
use Rattle.weighted_automata.specs.declared.place.Place.{Place}
use Rattle.weighted_automata.specs.declared.place.Label.TheVariants.{Symbol, Empty}
use Rattle.weighted_automata.specs.declared.transitions.Entry.{Entry}
use Rattle.weighted_automata.specs.Entries.{entry_at}
use Rattle.weighted_automata.proofs.CallerLemmas.{entry_at-place, entry_at-lowered_same, entry_at-lowered_other}
use Rattle.witness_graph.specs.declared.node.Node.{Node}
use Rattle.witness_graph.specs.declared.node.Side.{Side}
use Rattle.witness_graph.specs.Runs.{runs_of}
use Rattle.config_patterns.specs.Edges.{is_final_of}
use Rattle.config_patterns.specs.Membership.{PatternValue, has_member}
use Rattle.pattern_openings.specs.PatternOpenings.{finals_of_items}
use Rattle.pattern_openings.proofs.CallerLemmas.{is_final}
use Rattle.pushdown_rules.specs.Pushdown.{Pushdown, IsSystem}
use Rattle.pushdown_rules.specs.Values.{value_of}
use Rattle.pushdown_rules.specs.Answers.{Answers}
use Rattle.saturation_laws.specs.Paths.{in_order}
use Rattle.saturation_laws.specs.declared.opening.Opening.{Opening}
use Rattle.saturation_laws.specs.States.{CoreState, weight_of, weight_at, lower_state, apply}
use Rattle.saturation_laws.specs.Openings.{AreKept}
use Rattle.saturation_laws.specs.Ways.{Way, HasPathSums}
use Rattle.saturation_laws.proofs.CallerLemmas.{in_map, in_left, from_filter, weights_fit, all_append}
use Rattle.wpds_base.specs.Lists.{IsIn}
use Rattle.path_sum.specs.Answers.{first_of, last_of}
use Rattle.path_sum.specs.Saturated.{IsSaturatedAutomaton}
use Rattle.path_sum.specs.Sums.{Ways, ways_of, pair_place, answer_place, has_state, Move, Along, End, Done, end_change, move, grow, bare_sum, IsGrown}
use Rattle.path_sum.specs.private.Ends.{pairs_with, pairs_to, weights_at, total_to}
use Rattle.path_sum.specs.private.Inputs.{SumInputValue}
use Rattle.path_sum.specs.private.Paths.{SumRun, IsSummable, IsQuery, answer_runs}
use Rattle.path_sum.specs.private.Work.{IsSummed}
use Rattle.path_sum.specs.Values.{with_finals, IsSaturatedTo, IsValueTo, AreValuesTo}
use Rattle.path_sum.proofs.BookLemmas.{finished_answers}
use Rattle.path_sum.proofs.EntryLemmas.{in_right, present_here}
use Rattle.path_sum.proofs.FinishedLemmas.{summable}
use Rattle.path_sum.proofs.MemberLemmas.{members_way}
use Rattle.path_sum.proofs.MoveLemmas.{has_state_from, grown_on}
use Rattle.path_sum.specs.private.Rounds.{IsWalked, input_of}
use Rattle.path_sum.proofs.RoundLemmas.{sum_good, ended}

-- ---- lists

module _ {W Map : Type 0} {s : Operations W Map} (laws : IsSemiring s) where
  -- a combination lies below each of its weights
  below_each : (ws : List W) (w : W) → AllByRecursion (Fits s) ws → IsIn w ws → Below s (combination s ws) w
  below_each [] w fit h = absurd h
  below_each (v ∷ ws) w fit (inl is) =
      let P : W → Type 0 = Below s (combination s (v ∷ ws)) in
      subst P is (combine_below_left laws v (combination s ws) fit.0 (fits laws ws fit.1))
  below_each (v ∷ ws) w fit (inr h) =
      let rest = combination s ws in
      let fr = fits laws ws fit.1 in
      below_trans laws (s.combine v rest) rest w (laws.fits-combine v rest fit.0 fr) fr (fit_in ws w fit.1 h) (combine_below_right laws v rest fit.0 fr) (below_each ws w fit.1 h)
    where
      fit_in : (us : List W) (u : W) → AllByRecursion (Fits s) us → IsIn u us → Fits s u
      fit_in [] u all g = absurd g
      fit_in (z ∷ us) u all (inl e) = subst (Fits s) e all.0
      fit_in (z ∷ us) u all (inr g) = fit_in us u all.1 g

pair_among : (ends qs : List ℕ) (i q : ℕ) → IsIn i ends → IsIn q qs → IsIn (pair_place i q) (pairs_to ends qs)
pair_among ends [] i q in_ends h = absurd h
pair_among ends (r ∷ qs) i q in_ends (inl is) =
    let P : ℕ → Type 0 = λ z. IsIn (pair_place i z) (pairs_with ends r ++ pairs_to ends qs) in
    subst P is (in_left (pair_place i r) (pairs_with ends r) (pairs_to ends qs) (in_map (λ j. pair_place j r) i ends in_ends))
pair_among ends (r ∷ qs) i q in_ends (inr h) = in_right (pair_place i q) (pairs_with ends r) (pairs_to ends qs) (pair_among ends qs i q in_ends h)

-- ---- moves with and without final states

module _ {S W Map : Type 0} (s : Operations W Map) (side : Side) (o u : Opening) (ts : List (Entry S W Map)) (ways : Ways) (none : o.finals ≡ []) where
  no_end : (i q : ℕ) → (ways.final i && has_state q o.finals) ≡ false
  no_end i q = ap (λ f. ways.final i && has_state q f) none ∙ elim (ways.final i) as (λ b. (b && has_state q []) ≡ false) [ true ↦ refl | false ↦ refl ]

  move_same : (m : Move) (st new : CoreState S W Map) → move s side o ts ways m st ≡ Some new → move s side u ts ways m st ≡ Some new
  move_same (Along i j x) st new is = is
  move_same (End i q) st new is =
      let one = option_map (λ v. apply s (end_change s side v) st) (entry_at (pair_place i q) st.transitions) in
      let f : cond false one None ≡ Some new = sym (ap (λ b. cond b one None) (no_end i q)) ∙ is in cc
  move_same Done st new is = is

  -- what grows without final states grows with any
  grow_same : (ms : List Move) (st new : CoreState S W Map) → grow s side o ts ways st ms ≡ Some new → grow s side u ts ways st ms ≡ Some new
  grow_same [] st new is = is
  grow_same (m ∷ ms) st new is =
      elim (move s side o ts ways m st) as (λ e. move s side o ts ways m st ≡ e → option_and_then (λ n. grow s side o ts ways n ms) e ≡ Some new → grow s side u ts ways st (m ∷ ms) ≡ Some new) [
        | None ↦ λ e h. cc
        | Some n ↦ λ e h. ap (option_and_then (λ k. grow s side u ts ways k ms)) (move_same m st n e) ∙ grow_same ms n new h
      ] refl is

  pub grown_same : (nodes : List Node) (st : CoreState S W Map) → IsGrown s side o ts nodes ways st → IsGrown s side u ts nodes ways st
  grown_same nodes st is = record { moves = is.moves; grows = grow_same is.moves (bare_sum s side nodes ways) st is.grows }

-- ---- the ends of a walk

module _ {S W Map : Type 0} {s : Operations W Map} (laws : IsSemiring s) (value : List ℕ → W) (p : Pushdown S W Map) (runs : Place → List ℕ → Type 0)
    (input : SumInputValue S W Map) (nodes : List Node) (is : IsSummable s value p runs input nodes) where
  abbrev ways : Ways
  ways = ways_of input.pattern

  abbrev Grown : CoreState S W Map → Type 0
  Grown = IsGrown s input.side input.opening input.transitions nodes ways

  abbrev sums : Place → List ℕ → Type 0
  sums = SumRun p input.side input.opening ways runs

  fit_at : (st : CoreState S W Map) → Grown st → (x : Place) → Fits s (weight_at s x st.transitions)
  fit_at st grown x = weights_fit laws value is.fits sums input.side st (sum_good laws value p runs input nodes is st grown).sound x

  fit_all : (st : CoreState S W Map) → Grown st → (xs : List Place) → AllByRecursion (Fits s) (weights_at s st.transitions xs)
  fit_all st grown [] = tt
  fit_all st grown (x ∷ xs) = (fit_at st grown x, fit_all st grown xs)

  -- without final states there is no answer
  no_answer : input.opening.finals ≡ [] → (st : CoreState S W Map) → Grown st → weight_at s answer_place st.transitions ≡ s.zero
  no_answer none st grown =
      elim (entry_at answer_place st.transitions) as (λ e. entry_at answer_place st.transitions ≡ e → weight_of s e ≡ s.zero) [
        | None ↦ λ e. refl
        | Some t ↦ λ e.
            let at : t.place ≡ answer_place = entry_at-place answer_place st.transitions t e in
            let good = sum_good laws value p runs input nodes is st grown in
            let are = (good.sound.sound t (present_here answer_place st.transitions t e)).are_runs in
            let zs = runs_of input.side st.nodes t.node in
            let P : Place → Type 0 = λ x. AllByRecursion (sums x) zs in
            elim zs as (λ rs. AllByRecursion (sums answer_place) rs → t.weight ≡ combination s (map value rs) → t.weight ≡ s.zero) [
              | [] ↦ λ each weight. weight
              | r ∷ rs ↦ λ each weight. absurd (subst (IsIn each.0.3.0) none each.0.3.2)
            ] (subst P at are.each) are.weight
      ] refl

  -- the pair of a final state of the pattern and one of the opening
  abbrev IsEnd : Place → Type 0
  IsEnd x = (i : ℕ) × (q : ℕ) × (x ≡ pair_place i q) × IsTrue (ways.final i) × IsIn q input.opening.finals

  -- What adding these ends makes.
  pub record Added (xs : List Place) (st : CoreState S W Map) : Type 0 where
    pub new : CoreState S W Map
    pub grown : Grown new
    pub pairs : (i q : ℕ) → entry_at (pair_place i q) new.transitions ≡ entry_at (pair_place i q) st.transitions
    pub weight : weight_at s answer_place new.transitions ≡ s.combine (weight_at s answer_place st.transitions) (combination s (weights_at s st.transitions xs))

  not_answer : (i q : ℕ) → answer_place ≡ pair_place i q → ⊥
  not_answer i q e = let f : Symbol 0 ≡ Empty = ap (λ (x : Place). x.label) e in cc

  -- a state with one end more
  module _ (st : CoreState S W Map) (grown : Grown st) (u : Entry S W Map) (fit : Fits s u.weight) where
    abbrev old : W
    old = weight_at s answer_place st.transitions

    abbrev both : W
    both = s.combine old u.weight

    abbrev more : CoreState S W Map
    more = apply s (end_change s input.side u) st

    more_pairs : (i q : ℕ) → entry_at (pair_place i q) more.transitions ≡ entry_at (pair_place i q) st.transitions
    more_pairs i q =
        let P : CoreState S W Map → Type 0 = λ m. entry_at (pair_place i q) m.transitions ≡ entry_at (pair_place i q) st.transitions in
        cond_both (s.same both old) st (lower_state s (end_change s input.side u) both st) P (λ _. refl)
        (λ _. entry_at-lowered_other answer_place (pair_place i q) both (length st.nodes) st.transitions (not_answer i q))

    more_weight : weight_at s answer_place more.transitions ≡ both
    more_weight =
        let P : CoreState S W Map → Type 0 = λ m. weight_at s answer_place m.transitions ≡ both in
        let fo = fit_at st grown answer_place in
        cond_both (s.same both old) st (lower_state s (end_change s input.side u) both st) P
        (λ e. sym ((laws.same_is_equal both old (laws.fits-combine old u.weight fo fit) fo).0 e))
        (λ _. ap (weight_of s) (entry_at-lowered_same answer_place both (length st.nodes) st.transitions))

  -- weights of pairs are those of before
  same_weights : (xs : List Place) → AllByRecursion IsEnd xs → (st new : CoreState S W Map) → ((i q : ℕ) → entry_at (pair_place i q) new.transitions ≡ entry_at (pair_place i q) st.transitions)
      → weights_at s new.transitions xs ≡ weights_at s st.transitions xs
  same_weights [] ends st new same = refl
  same_weights (x ∷ xs) ends st new same =
      let here : weight_at s x new.transitions ≡ weight_at s x st.transitions =
      ap (λ y. weight_at s y new.transitions) ends.0.2 ∙ ap (weight_of s) (same ends.0.0 ends.0.1) ∙ sym (ap (λ y. weight_at s y st.transitions) ends.0.2) in
      ap₂ (λ w ws. w ∷ ws) here (same_weights xs ends.1 st new same)

  pub add_ends : (xs : List Place) → AllByRecursion IsEnd xs → (st : CoreState S W Map) → Grown st → Added xs st
  add_ends [] ends st grown = record { new = st; grown = grown; pairs = λ i q. refl; weight = sym (combine_zero laws (weight_at s answer_place st.transitions) (fit_at st grown answer_place)) }
  add_ends (x ∷ xs) ends st grown =
      let i = ends.0.0 in
      let q = ends.0.1 in
      let old = weight_at s answer_place st.transitions in
      let fo = fit_at st grown answer_place in
      let rest = combination s (weights_at s st.transitions xs) in
      let fr = fits laws (weights_at s st.transitions xs) (fit_all st grown xs) in
      elim (entry_at (pair_place i q) st.transitions) as (λ e. entry_at (pair_place i q) st.transitions ≡ e → Added (x ∷ xs) st) [
        | None ↦ λ e.
            let is = add_ends xs ends.1 st grown in
            let zero : weight_at s x st.transitions ≡ s.zero = ap (λ y. weight_at s y st.transitions) ends.0.2 ∙ ap (weight_of s) e in
            record {
              new = is.new;
              grown = is.grown;
              pairs = is.pairs;
              weight = is.weight ∙ ap (s.combine old) (sym (ap (λ w. s.combine w rest) zero ∙ laws.combine_zero rest fr));
            }
        | Some u ↦ λ e.
            let w : weight_at s x st.transitions ≡ u.weight = ap (λ y. weight_at s y st.transitions) ends.0.2 ∙ ap (weight_of s) e in
            let fu : Fits s u.weight = subst (Fits s) w (fit_at st grown x) in
            let mid = more st grown u fu in
            let moved : move s input.side input.opening input.transitions ways (End i q) st ≡ Some mid =
            cond-true (ways.final i && has_state q input.opening.finals) (option_map (λ v. apply s (end_change s input.side v) st) (entry_at (pair_place i q) st.transitions)) None
            (and_from (ways.final i) (has_state q input.opening.finals) ends.0.3 (has_state_from q input.opening.finals ends.0.4))
            ∙ ap (option_map (λ v. apply s (end_change s input.side v) st)) e in
            let there = grown_on s input.side input.opening input.transitions ways nodes st mid (End i q ∷ []) grown (ap (option_and_then (λ n. Some n)) moved) in
            let is = add_ends xs ends.1 mid there in
            let same = same_weights xs ends.1 st mid (more_pairs st grown u fu) in
            record {
              new = is.new;
              grown = is.grown;
              pairs = λ j r. is.pairs j r ∙ more_pairs st grown u fu j r;
              weight =
                  is.weight ∙ ap₂ (λ a ws. s.combine a (combination s ws)) (more_weight st grown u fu) same
                  ∙ laws.combine_assoc old u.weight rest fo fu fr
                  ∙ ap (λ v. s.combine old (s.combine v rest)) (sym w);
            }
      ] refl

-- ---- what a walk answers

module _ {S W Map D : Type 0} (operations : S → Operations W Map) (laws : (x : S) → IsSemiring (operations x)) (way : Way S W Map D)
    (p : Pushdown S W Map) (valid : IsSystem operations p) (d : D) (plain : Opening) (ts : List (Entry S W Map)) (nodes : List Node)
    (pattern : PatternValue) (control : pattern.control < p.controls)
    (bare : IsSaturatedTo operations way p d plain ts nodes []) (bare_sums : HasPathSums operations way d p (with_finals plain []))
    (finals : List ℕ) (is : IsSaturatedTo operations way p d plain ts nodes finals) (path_sums : HasPathSums operations way d p (with_finals plain finals))
    (st : CoreState S W Map) (walked : IsWalked operations way p d (with_finals plain []) ts nodes pattern st) where
  abbrev o : Opening
  o = with_finals plain finals

  abbrev s : Operations W Map
  s = operations p.semiring

  abbrev side : Side
  side = (way.tables d p).side

  abbrev bare_input : SumInputValue S W Map
  bare_input = input_of operations way p d (with_finals plain []) ts nodes pattern

  abbrev over : SumInputValue S W Map
  over = input_of operations way p d o ts nodes pattern

  abbrev bare_runs : Place → List ℕ → Type 0
  bare_runs = way.runs d p (with_finals plain [])

  abbrev runs : Place → List ℕ → Type 0
  runs = way.runs d p o

  abbrev totalled : List Place
  totalled = pairs_to (finals_of_items pattern.items) finals

  at_bare : IsSummable s (value_of s p) p bare_runs bare_input nodes
  at_bare = summable laws valid bare bare_sums pattern control

  at : IsSummable s (value_of s p) p runs over nodes
  at = summable laws valid is path_sums pattern control

  grown : IsGrown s side o ts nodes (ways_of pattern) st
  grown = grown_same s side (with_finals plain []) o ts (ways_of pattern) refl nodes st walked.under_way.grown

  abbrev AreEnds : List Place → Type 0
  AreEnds xs = AllByRecursion (IsEnd (laws p.semiring) (value_of s p) p runs over nodes at) xs

  ends_with : (is' : List ℕ) → ((i : ℕ) → IsIn i is' → is_final_of pattern.items i ≡ true) → (q : ℕ) → IsIn q finals → AreEnds (pairs_with is' q)
  ends_with [] final q there = tt
  ends_with (i ∷ is') final q there = ((i, q, refl, final i (inl refl), there), ends_with is' (λ j h. final j (inr h)) q there)

  are_ends : (qs : List ℕ) → ((q : ℕ) → IsIn q qs → IsIn q finals) → AreEnds (pairs_to (finals_of_items pattern.items) qs)
  are_ends [] sub = tt
  are_ends (q ∷ qs) sub =
      let items = pattern.items in
      all_append (IsEnd (laws p.semiring) (value_of s p) p runs over nodes at) (pairs_with (finals_of_items items) q) (pairs_to (finals_of_items items) qs)
      (ends_with (finals_of_items items) (λ i h. (from_filter (is_final_of items) i (range_with_len 0 (suc (length items))) h).1) q (sub q (inl refl)))
      (are_ends qs (λ r h. sub r (inr h)))

  added : Added (laws p.semiring) (value_of s p) p runs over nodes at totalled st
  added = add_ends (laws p.semiring) (value_of s p) p runs over nodes at totalled (are_ends finals (λ q h. h)) st grown

  weights_fit_all : AllByRecursion (Fits s) (weights_at s st.transitions totalled)
  weights_fit_all = fit_all (laws p.semiring) (value_of s p) p runs over nodes at st grown totalled

  -- the answer is the total
  total_is : weight_at s answer_place added.new.transitions ≡ total_to s st.transitions (finals_of_items pattern.items) finals
  total_is =
      let zero = no_answer (laws p.semiring) (value_of s p) p bare_runs bare_input nodes at_bare refl st walked.under_way.grown in
      let total = total_to s st.transitions (finals_of_items pattern.items) finals in
      added.weight ∙ ap (λ w. s.combine w total) zero ∙ (laws p.semiring).combine_zero total (fits (laws p.semiring) (weights_at s st.transitions totalled) weights_fit_all)

  summed : IsSummed s side o ts (ways_of pattern) added.new.transitions
  summed =
      let all = ended (laws p.semiring) (value_of s p) p bare_runs bare_input nodes at_bare st walked.under_way walked.ended in
      record {
        along = λ i j u t e there moves.
            let P : W → Type 0 = λ w. Below s w (in_order s side u.weight t.weight) in
            subst P (sym (ap (weight_of s) (added.pairs j t.place.to))) (all.along i j u t (sym (added.pairs i t.place.from) ∙ e) there moves);
        ends = λ i q u e final in'.
            let w : weight_at s (pair_place i q) st.transitions ≡ u.weight = ap (weight_of s) (sym (added.pairs i q) ∙ e) in
            let here = pair_among (finals_of_items pattern.items) finals i q (is_final pattern.items i final) in' in
            let P : W → Type 0 = Below s (weight_at s answer_place added.new.transitions) in
            let Q : W → Type 0 = λ v. Below s v (weight_at s (pair_place i q) st.transitions) in
            subst P w (subst Q (sym total_is) (below_each (laws p.semiring) (weights_at s st.transitions totalled) (weight_at s (pair_place i q) st.transitions) weights_fit_all
            (in_map (λ x. weight_at s x st.transitions) (pair_place i q) totalled here)));
      }

  -- so the total answers, between the pattern and what the edges read to the final states
  pub total_answers : IsValueTo operations way p d plain pattern finals (total_to s st.transitions (finals_of_items pattern.items) finals)
  total_answers = (
    answer_runs side added.new,
    λ far far_is.
        let query : IsQuery p o (ways_of pattern) (has_member pattern) far = record { near_is = members_way pattern; far_is = far_is } in
        let found = finished_answers operations laws way p valid d o ts nodes is path_sums (ways_of pattern) control (has_member pattern) far query added.new added.grown summed in
        subst (λ v. Answers s p (first_of side (has_member pattern) far) (last_of side (has_member pattern) far) v (answer_runs side added.new)) total_is found,
  )

-- ---- what the code asks

-- weights of kept transitions are weights of the semiring
pub weights_kept : {S W Map : Type 0} {s : Operations W Map} (laws : IsSemiring s) (ts : List (Entry S W Map)) (n : ℕ) → AreKept s ts n → (xs : List Place) (ws : List W) → ws ≡ weights_at s ts xs → All (Fits s) ws
weights_kept {s = s} laws ts n kept xs ws is = let P : List _ → Type 0 = All (Fits s) in subst P (sym is) (All-from_recursion (Fits s) (weights_at s ts xs) (each xs))
  where
    at : (x : Place) → Fits s (weight_at s x ts)
    at x = elim (entry_at x ts) as (λ e. entry_at x ts ≡ e → Fits s (weight_of s e)) [
      | None ↦ λ e. laws.fits-zero
      | Some t ↦ λ e. (kept.each t (present_here x ts t e)).0
    ] refl

    each : (ys : List Place) → AllByRecursion (Fits s) (weights_at s ts ys)
    each [] = tt
    each (y ∷ ys) = (at y, each ys)

module _ {S W Map D : Type 0} (operations : S → Operations W Map) (laws : (x : S) → IsSemiring (operations x)) (way : Way S W Map D)
    (p : Pushdown S W Map) (valid : IsSystem operations p) (d : D) (sums : (u : Opening) → IsTrue (way.fits_opening d p u) → HasPathSums operations way d p u)
    (o : Opening) (ts : List (Entry S W Map)) (nodes : List Node) (is : IsSaturatedAutomaton operations way p d o ts nodes) (none : o.finals ≡ [])
    (pattern : PatternValue) (control : pattern.control < p.controls) (st : CoreState S W Map) (walked : IsWalked operations way p d o ts nodes pattern st) where
  bare : o ≡ with_finals o []
  bare = ap (with_finals o) none

  bare_is : IsSaturatedTo operations way p d o ts nodes []
  bare_is = subst (λ u. IsSaturatedAutomaton operations way p d u ts nodes) bare is

  bare_walked : IsWalked operations way p d (with_finals o []) ts nodes pattern st
  bare_walked = subst (λ u. IsWalked operations way p d u ts nodes pattern st) bare walked

  -- the totals of a walk are values
  pub all_values : (sets : List (List ℕ)) → AllByRecursion (IsSaturatedTo operations way p d o ts nodes) sets
      → AreValuesTo operations way p d o pattern sets (map (total_to (operations p.semiring) st.transitions (finals_of_items pattern.items)) sets)
  all_values [] each = tt
  all_values (finals ∷ sets) each = (
    total_answers operations laws way p valid d o ts nodes pattern control bare_is (sums (with_finals o []) bare_is.fits) finals
        each.0 (sums (with_finals o finals) each.0.fits) st bare_walked,
    all_values sets each.1,
  )
