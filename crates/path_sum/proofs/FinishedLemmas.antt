-- What the answer of a sum that is done is.
use Rattle.std.proofs.Common.{◌≡◌, ◌++◌, ℕ, ◌+◌, ◌*◌, ◌<◌, List, [], ◌∷◌, length, refl, sym, ap, ◌∙◌, subst, arith}
use Rattle.std.specs.Prelude.{◌↔◌, Option, None, Some, IfSome}
use Rattle.std.proofs.lemmas.List.{append_cancel_left}
use Rattle.semiring_laws.specs.Semiring.{Operations, IsSemiring}
use Rattle.weighted_automata.specs.declared.place.Place.{Place}
use Rattle.weighted_automata.specs.declared.transitions.Entry.{Entry}
use Rattle.weighted_automata.specs.Entries.{entry_at, index_at}
use Rattle.witness_graph.specs.declared.node.Node.{Node}
use Rattle.witness_graph.specs.declared.node.Node.TheVariants.{Start}
use Rattle.witness_graph.specs.declared.node.Side.{Side}
use Rattle.witness_graph.specs.declared.listing.Listing.{Listing}
use Rattle.witness_graph.specs.Nodes.{AreNodes}
use Rattle.witness_graph.specs.Runs.{runs_of}
use Rattle.witness_graph.specs.Tight.{IsTight}
use Rattle.witness_graph.specs.Shorter.{BeginsEmpty}
use Rattle.witness_graph.proofs.CallerLemmas.{stays_tight}
use Rattle.config_patterns.specs.Membership.{PatternValue, has_member}
use Rattle.pushdown_rules.specs.Pushdown.{Pushdown, IsSystem}
use Rattle.pushdown_rules.specs.Values.{value_of}
use Rattle.pushdown_rules.specs.Answers.{Answers}
use Rattle.pushdown_rules.proofs.CallerLemmas.{value_fits}
use Rattle.saturation_laws.specs.declared.opening.Opening.{Opening}
use Rattle.saturation_laws.specs.Openings.{AreKept}
use Rattle.saturation_laws.specs.States.{CoreState, weight_of, weight_at}
use Rattle.path_sum.specs.declared.answer.Answer.{Answer}
use Rattle.path_sum.specs.Sums.{ways_of, answer_place, bare_sum}
use Rattle.path_sum.specs.private.Paths.{SumRun, IsSummable, IsQuery, answer_runs, listed}
use Rattle.path_sum.specs.private.Inputs.{SumInputValue}
use Rattle.path_sum.specs.private.Work.{moves_of, sum_places}
use Rattle.path_sum.specs.private.Growing.{IsReady, GrowsBy}
use Rattle.path_sum.specs.Pairs.{states_of}
use Rattle.path_sum.specs.Saturated.{IsSaturatedAutomaton}
use Rattle.path_sum.specs.Answers.{first_of, last_of, AnswersOpening, listed_runs, IsListingOf, IsGrownAnswer}
use Rattle.path_sum.specs.Results.{IsSumOver}
use Rattle.path_sum.proofs.AddedLemmas.{grown_begins}
use Rattle.path_sum.proofs.EntryLemmas.{present_here}
use Rattle.path_sum.proofs.GrowingLemmas.{IsSum}
use Rattle.path_sum.proofs.BookLemmas.{finished_answers}
use Rattle.path_sum.specs.private.Rounds.{IsUnderWay, input_of}
use Rattle.path_sum.proofs.RoundLemmas.{left_of, past, sum_good, begun, front_ready, round_keeps, round_falls, ended, all_kept, few_nodes}
use Rattle.path_sum.proofs.PlaceLemmas.{places_count}
use Rattle.path_sum.proofs.MemberLemmas.{members_way}
use Rattle.saturation_laws.specs.Ways.{Way, HasPathSums}

times_more : (n t : ℕ) → n * (t + 1) ≡ n * t + n
times_more n t = omega arith

module _ {S W Map D : Type 0} {operations : S → Operations W Map} (laws : (x : S) → IsSemiring (operations x)) {way : Way S W Map D}
    {p : Pushdown S W Map} (valid : IsSystem operations p) {d : D} {o : Opening} {ts : List (Entry S W Map)} {nodes : List Node}
    (is : IsSaturatedAutomaton operations way p d o ts nodes) (sums : HasPathSums operations way d p o)
    (pattern : PatternValue) (control : pattern.control < p.controls) where
  abbrev s : Operations W Map
  s = operations p.semiring

  abbrev side : Side
  side = (way.tables d p).side

  abbrev pub input : SumInputValue S W Map
  input = input_of operations way p d o ts nodes pattern

  -- what the code goes over
  pub input_is : (t : SumInputValue S W Map) (m : S) (sd : Side) → t ≡ record { semiring = m; side = sd; opening = o; transitions = ts; pattern = pattern } → m ≡ p.semiring → side ≡ sd → t ≡ input
  input_is t m sd is same goes =
      let of : S → Side → SumInputValue S W Map = λ n b. record { semiring = n; side = b; opening = o; transitions = ts; pattern = pattern } in
      is ∙ ap (λ n. of n sd) same ∙ ap (of p.semiring) (sym goes)

  pub summable : IsSummable s (value_of s p) p (way.runs d p o) input nodes
  summable = record { fits = value_fits valid (laws p.semiring); control = control; gives = sums.gives; sound = is.sound; shape = is.shape }

  -- the rounds, as the code sees them
  pub begun_at : (t : SumInputValue S W Map) → t ≡ input → (st : CoreState S W Map) → st ≡ bare_sum (operations t.semiring) t.side nodes (ways_of t.pattern) → IsUnderWay s input nodes st
  begun_at t e st is =
      let P : SumInputValue S W Map → Type 0 = λ u. st ≡ bare_sum (operations u.semiring) u.side nodes (ways_of u.pattern) in
      begun (laws p.semiring) (value_of s p) p (way.runs d p o) input nodes summable st (subst P e is)

  pub ready_at : (t : SumInputValue S W Map) → t ≡ input → (st mid : CoreState S W Map) (k : ℕ) (x : Place) (q : List Place) → IsUnderWay s input nodes st → mid ≡ past st q → index_at x mid.transitions ≡ Some k
      → IsReady (operations t.semiring) t.transitions k x mid
  ready_at t e st mid k x q now taken at =
      let P : SumInputValue S W Map → Type 0 = λ u. IsReady (operations u.semiring) u.transitions k x mid in
      let Q : CoreState S W Map → Type 0 = λ m. index_at x m.transitions ≡ Some k in
      let R : CoreState S W Map → Type 0 = IsReady s input.transitions k x in
      subst P (sym e) (subst R (sym taken) (front_ready (laws p.semiring) (value_of s p) p (way.runs d p o) input nodes summable st k x q now (subst Q taken at)))

  pub round_at : (t : SumInputValue S W Map) → t ≡ input → (st mid new : CoreState S W Map) (x : Place) (q : List Place) → IsUnderWay s input nodes st → mid ≡ past st q → st.queue ≡ x ∷ q
      → GrowsBy operations t (moves_of t.opening (ways_of t.pattern) t.transitions x) mid new
      → IsUnderWay s input nodes new × (left_of s input nodes new < left_of s input nodes st)
  round_at t e st mid new x q now taken front drawn =
      let P : SumInputValue S W Map → Type 0 = λ u. GrowsBy operations u (moves_of u.opening (ways_of u.pattern) u.transitions x) mid new in
      let Q : CoreState S W Map → Type 0 = λ m. GrowsBy operations input (moves_of input.opening (ways_of input.pattern) input.transitions x) m new in
      let at : Q (past st q) = subst Q taken (subst P e drawn) in (
        round_keeps (laws p.semiring) (value_of s p) p (way.runs d p o) input nodes summable st new x q now front at,
        round_falls (laws p.semiring) (value_of s p) p (way.runs d p o) input nodes summable st new x q now front at,
      )

  pub kept_at : (st : CoreState S W Map) → IsUnderWay s input nodes st → AreKept s st.transitions (length st.nodes)
  kept_at st now = all_kept (laws p.semiring) (value_of s p) p (way.runs d p o) input nodes summable st now

  module _ (st : CoreState S W Map) (now : IsUnderWay s input nodes st) (empty : st.queue ≡ []) (a : Answer S W Map)
      (value_is : a.value ≡ weight_at s answer_place st.transitions) (added : List Node) (nodes_are : st.nodes ≡ nodes ++ added)
      (listing : IsListingOf side nodes added (entry_at answer_place st.transitions) a.listing) where
    good : IsSum s (value_of s p) (SumRun p side o (ways_of pattern) (way.runs d p o)) side (ways_of pattern) nodes st
    good = sum_good (laws p.semiring) (value_of s p) p (way.runs d p o) input nodes summable st now.grown

    runs_are : (e : Option (Entry S W Map)) (l : Option Listing) → IsListingOf side nodes added e l → listed_runs l ≡ listed side st e
    runs_are None l is = ap listed_runs is
    runs_are (Some t) l is = ap listed_runs is.1 ∙ is.4 ∙ ap (λ ns. runs_of side ns t.node) (sym nodes_are)

    -- it answers the query
    answer_answers : AnswersOpening s side p o (has_member pattern) a.value (listed_runs a.listing)
    answer_answers far far_is =
        let query : IsQuery p o (ways_of pattern) (has_member pattern) far = record { near_is = members_way pattern; far_is = far_is } in
        let found = finished_answers operations laws way p valid d o ts nodes is sums (ways_of pattern) control (has_member pattern) far query st now.grown
        (ended (laws p.semiring) (value_of s p) p (way.runs d p o) input nodes summable st now empty) in
        let P : W → Type 0 = λ v. Answers s p (first_of side (has_member pattern) far) (last_of side (has_member pattern) far) v (answer_runs side st) in
        let Q : List (List ℕ) → Type 0 = Answers s p (first_of side (has_member pattern) far) (last_of side (has_member pattern) far) a.value in
        subst Q (sym (runs_are (entry_at answer_place st.transitions) a.listing listing)) (subst P (sym value_is) found)

    none_where : (e : Option (Entry S W Map)) → entry_at answer_place st.transitions ≡ e → IsListingOf side nodes added e a.listing → a.value ≡ weight_of s e → (a.listing ≡ None) ↔ (a.value ≡ s.zero)
    none_where None e is value = (λ _. value, λ _. is)
    none_where (Some t) e is value = (
      λ none. let f : Some is.0 ≡ None = sym is.1 ∙ none in cc,
      λ zero. absurd (good.sound.nonzero t (present_here answer_place st.transitions t e) (sym value ∙ zero)),
    )

    -- there is no listing exactly where it is zero
    answer_none : (a.listing ≡ None) ↔ (a.value ≡ s.zero)
    answer_none = none_where (entry_at answer_place st.transitions) refl listing value_is

    -- what is added begins with the empty run
    added_begins : BeginsEmpty added
    added_begins =
        let begins = grown_begins s side o ts (ways_of pattern) nodes st now.grown in
        (begins.0, append_cancel_left nodes added (Start ∷ begins.0) (sym nodes_are ∙ begins.1))

    side_of : (e : Option (Entry S W Map)) → IsListingOf side nodes added e a.listing → IfSome a.listing (λ l. l.side ≡ side)
    side_of None is = let P : Option Listing → Type 0 = λ o. IfSome o (λ l. l.side ≡ side) in subst P (sym is) tt
    side_of (Some t) is = let P : Option Listing → Type 0 = λ o. IfSome o (λ l. l.side ≡ side) in subst P (sym is.1) is.2

    answer_side : IfSome a.listing (λ l. l.side ≡ side)
    answer_side = side_of (entry_at answer_place st.transitions) listing

    tight_of : (e : Option (Entry S W Map)) → entry_at answer_place st.transitions ≡ e → IsListingOf side nodes added e a.listing → IfSome a.listing (λ l. IsTight s (value_of s p) l.side l.nodes)
    tight_of None e is = let P : Option Listing → Type 0 = λ o. IfSome o (λ l. IsTight s (value_of s p) l.side l.nodes) in subst P (sym is) tt
    tight_of (Some t) e is =
        let P : Option Listing → Type 0 = λ o. IfSome o (λ l. IsTight s (value_of s p) l.side l.nodes) in
        let Q : Side → Type 0 = λ sd. IsTight s (value_of s p) sd is.0.nodes in
        let R : List Node → Type 0 = IsTight s (value_of s p) side in
        let within = (good.sound.sound t (present_here answer_place st.transitions t e)).node in
        let shape = good.sound.shape in
        subst P (sym is.1) (subst Q (sym is.2) (subst R (sym is.3)
        (stays_tight s (value_of s p) side nodes added t.node (subst AreNodes nodes_are shape.nodes) added_begins (subst (λ ns. t.node < length ns) nodes_are within) (subst R nodes_are shape.tight))))

    -- its listing is tight
    answer_tight : IfSome a.listing (λ l. IsTight s (value_of s p) l.side l.nodes)
    answer_tight = tight_of (entry_at answer_place st.transitions) refl listing

    -- and it is grown, with few nodes
    answer_grown : IsGrownAnswer s side o ts nodes (ways_of pattern) a
    answer_grown =
        let n = (length pattern.items + 1) * length (states_of pattern.control ts) in
        let few = few_nodes (laws p.semiring) (value_of s p) p (way.runs d p o) input nodes summable st now in
        let count : length (sum_places (ways_of pattern) ts) ≡ n + 1 = places_count ts pattern in
        let more : (n + 1) * (s.top_rank + 1) ≡ (n + 1) * s.top_rank + (n + 1) = times_more (n + 1) s.top_rank in
        let same : length (sum_places (ways_of pattern) ts) * s.top_rank ≡ (n + 1) * s.top_rank = ap (λ k. k * s.top_rank) count in
        record { state = st; grown = now.grown; value = value_is; added = added; nodes_are = nodes_are; listing = listing; few = omega (arith, few, more, same) }

    -- all that a sum says of its answer
    pub answer_sums : IsSumOver operations way p d o ts nodes pattern a
    answer_sums = record { answers = answer_answers; unlisted = answer_none; side = answer_side; tight = answer_tight; grown = answer_grown }
