-- A backward search to which a rule comes is a search over the system with that rule.
use Rattle.std.proofs.Common.{◌≡◌, ◌⊎◌, inl, inr, ℕ, ◌+◌, ◌<◌, ◌≤◌, true, List, [], ◌∷◌, ◌++◌, length, refl, sym, ap, ◌∙◌, subst, arith}
use Rattle.std.specs.Prelude.{Option, None, Some, IsSome, IfSome, All, filter, slice_get, nat_eq, ◌&&◌}
use Rattle.std.proofs.lemmas.Bool.{cases_lt, and_from, eq-eqb, cond_both}
use Rattle.std.proofs.lemmas.Option.{same_Some}
use Rattle.std.proofs.lemmas.List.{get_or_append_left, get_or_push, length_push}
use Rattle.semiring_laws.specs.Semiring.{Operations, IsSemiring, Fits, Below}
use Rattle.semiring_laws.specs.Combination.{combination}
use Rattle.semiring_laws.proofs.CallerLemmas.{below_trans, below_itself, zero_below}
use Rattle.weighted_automata.specs.declared.place.Place.{Place}
use Rattle.weighted_automata.specs.declared.place.Label.TheVariants.{Symbol}
use Rattle.weighted_automata.specs.declared.transitions.Entry.{Entry}
use Rattle.weighted_automata.specs.Entries.{entry_at, Present, is_from}
use Rattle.weighted_automata.specs.Places.{same_label}
use Rattle.weighted_automata.proofs.CallerLemmas.{entry_at-place}
use Rattle.witness_graph.specs.declared.node.Node.{Node}
use Rattle.witness_graph.specs.declared.node.Side.TheVariants.{Pre}
use Rattle.witness_graph.specs.Runs.{runs_of}
use Rattle.witness_graph.specs.Tight.{IsTight, worth_of}
use Rattle.pushdown_rules.specs.declared.rule.Rule.{Rule}
use Rattle.pushdown_rules.specs.Pushdown.{Pushdown, IsRule, IsSystem}
use Rattle.pushdown_rules.specs.Values.{value_of}
use Rattle.pushdown_rules.proofs.CallerLemmas.{value_fits, weight_fits}
use Rattle.wpds_base.specs.Lists.{IsIn, IsOnce}
use Rattle.wpds_base.specs.Limits.{most_rules}
use Rattle.saturation_laws.specs.declared.opening.Opening.{Opening}
use Rattle.saturation_laws.specs.declared.holding.Holding.{Holding}
use Rattle.saturation_laws.specs.declared.job.Job.{Job}
use Rattle.saturation_laws.specs.declared.job.JobKind.{JobKind}
use Rattle.saturation_laws.specs.declared.job.JobKind.TheVariants.{PreStep, PrePushControl, PrePushOther}
use Rattle.saturation_laws.specs.Jobs.{Tables, row_of, HasInput, place_of}
use Rattle.saturation_laws.specs.States.{CoreState, Change, hand_at, weight_of, weight_at, apply, lower_state, change_of}
use Rattle.saturation_laws.specs.Openings.{head_place, opening_state, pop_change}
use Rattle.saturation_laws.specs.Directions.{IsConsequence, IsDirection, AgreeOn}
use Rattle.saturation_laws.specs.Invariants.{IsSound, IsSoundJob, IsDue}
use Rattle.saturation_laws.specs.Bound.{IsWithin}
use Rattle.saturation_laws.specs.Bound.{fallen}
use Rattle.saturation_laws.specs.Searches.{SearchValue, IsSearch, search_from}
use Rattle.saturation_laws.specs.Ways.{IsLawful}
use Rattle.saturation_laws.proofs.CallerLemmas.{each_or_some, in_present, none_out, opened_below, opening_edges, opening_pops, opening_weights_fit, search_begun, weights_fit, tight_same, get_push, Grows, IsSoundState, IsSoundChange, apply_keeps, apply_counts, queued_keeps, in_queued, once_queued, queued_cases, in_map, in_filter, from_map, from_filter, entry_in, change_fits, job_sound}
use Rattle.prestar_laws.specs.Rows.{pre_rows}
use Rattle.prestar_laws.specs.Fitting.{pre_places}
use Rattle.prestar_laws.specs.Jobs.{pre_tables}
use Rattle.prestar_laws.specs.Reading.{PreRun}
use Rattle.prestar_laws.specs.Ways.{pre_way}
use Rattle.prestar_laws.specs.LaterRules.{and_rule, all_queued, rule_named, NameRulesBelow, places_from, waiting, with_rule, with_later_rule}
use Rattle.prestar_laws.proofs.LawLemmas.{pre_laws, same_candidates}
use Rattle.prestar_laws.proofs.OpeningBounds.{opening_above}
use Rattle.prestar_laws.proofs.RowTestLemmas.{rule_job, row_test, step_test, call_test, stay_test, IsStepJob, IsPushJob, row_says}
use Rattle.prestar_laws.proofs.RuleRunLemmas.{get_more, get_last, runs_below, values_more, are_runs_more}
use Rattle.direction_parts.specs.Places.{arrow}

-- a list of which all hold, with one more
all_push : {X : Type 0} (P : X → Type 0) (xs : List X) (y : X) → All P xs → P y → All P (xs ++ y ∷ [])
all_push P xs y all here k d low = elim (cases_lt k (length xs)) [
  | inl less ↦ subst P (sym (get_or_append_left xs (y ∷ []) d k less)) (all k d less)
  | inr more ↦ let e : length xs ≡ k = (let l : length (xs ++ y ∷ []) ≡ length xs + 1 = length_push xs y in omega arith) in subst P (sym (get_or_push xs y d k e)) here
]

-- ---- the queue to which places come

pub all_queued_keep : (xs : List Place) (q : List Place) (y : Place) → IsIn y q → IsIn y (all_queued xs q)
all_queued_keep [] q y h = h
all_queued_keep (x ∷ xs) q y h = all_queued_keep xs _ y (queued_keeps x y q h)

pub in_all_queued : (xs : List Place) (q : List Place) (y : Place) → IsIn y xs → IsIn y (all_queued xs q)
in_all_queued [] q y h = absurd h
in_all_queued (x ∷ xs) q y (inl same) =
    let P : Place → Type 0 = λ z. IsIn z (all_queued (x ∷ xs) q) in
    subst P same (all_queued_keep xs _ x (in_queued x q))
in_all_queued (x ∷ xs) q y (inr h) = in_all_queued xs _ y h

module _ (Q : Place → Type 0) where
  all_queued_each : (xs : List Place) (q : List Place) → ((x : Place) → IsIn x xs → Q x) → ((x : Place) → IsIn x q → Q x) → (y : Place) → IsIn y (all_queued xs q) → Q y
  all_queued_each [] q each was y h = was y h
  all_queued_each (x ∷ xs) q each was y h = all_queued_each xs _ (λ z g. each z (inr g)) (λ z g. elim (queued_cases x z q g) [
    | inl same ↦ subst Q same (each x (inl refl))
    | inr old ↦ was z old
  ]) y h

module _ {S W Map : Type 0} where
  -- the transitions from a state over a symbol stand among their places
  in_places_from : (state symbol to : ℕ) (ts : List (Entry S W Map)) (t : Entry S W Map) → IsIn t ts → t.place ≡ arrow state symbol to → IsIn t.place (places_from state symbol ts)
  in_places_from state symbol to ts t there at =
      let test : is_from state (Symbol symbol) t ≡ true = ap (λ (x : Place). nat_eq x.from state && same_label x.label (Symbol symbol)) at
      ∙ and_from (nat_eq state state) (nat_eq symbol symbol) (eq-eqb state state refl) (eq-eqb symbol symbol refl) in
      in_map place_of t (filter (is_from state (Symbol symbol)) ts) (in_filter (is_from state (Symbol symbol)) t ts there test)

-- ---- the search

module _ {S W Map D : Type 0} (operations : S → Operations W Map) (laws : (x : S) → IsSemiring (operations x)) where
  lawful : IsLawful {D = D} operations (pre_way operations)
  lawful d p o valid fits = pre_laws valid (laws p.semiring) o fits

  module _ (v : SearchValue S W Map D) (is : IsSearch operations (pre_way operations) v) (names : NameRulesBelow (length v.system.rules) v.state.nodes)
      (r : Rule S W Map) (rule : IsRule (operations v.system.semiring) v.system.controls v.system.symbols r) (few : length v.system.rules < most_rules) where
    abbrev p : Pushdown S W Map
    p = v.system

    abbrev q : Pushdown S W Map
    q = and_rule v.system r

    abbrev n : ℕ
    n = length v.system.rules

    abbrev s : Operations W Map
    s = operations v.system.semiring

    abbrev o : Opening
    o = v.opening

    abbrev st : CoreState S W Map
    st = v.state

    abbrev old : Tables S W Map
    old = pre_tables s p

    abbrev new_tables : Tables S W Map
    new_tables = pre_tables s q

    law : IsSemiring s
    law = laws v.system.semiring

    valid : IsSystem operations q
    valid = record {
      few_controls = is.system.few_controls;
      few_symbols = is.system.few_symbols;
      few = omega (arith, few, length_push p.rules r);
      rules = all_push (IsRule s p.controls p.symbols) p.rules r is.system.rules rule;
    }

    value_fit : (run : List ℕ) → Fits s (value_of s q run)
    value_fit = value_fits valid law

    direction : IsDirection s q o new_tables (pre_places q o) (PreRun q o.edges)
    direction = pre_laws valid law o is.fits

    sound_more : (t : Entry S W Map) → IsSound s (value_of s p) (PreRun p o.edges) Pre st.nodes t → IsSound s (value_of s q) (PreRun q o.edges) Pre st.nodes t
    sound_more t sound = record { node = sound.node; are_runs = are_runs_more p r s o.edges t.place t.weight (runs_of Pre st.nodes t.node) sound.are_runs }

    worth_more : (k : ℕ) → worth_of s (value_of s q) Pre st.nodes k ≡ worth_of s (value_of s p) Pre st.nodes k
    worth_more k = ap (combination s) (values_more p r s (runs_of Pre st.nodes k) (runs_below n Pre st.nodes names k))

    tight_more : IsTight s (value_of s q) Pre st.nodes
    tight_more = record {
      each = λ k node at.
          tight_same (worth_of s (value_of s p) Pre st.nodes) (worth_of s (value_of s q) Pre st.nodes) s.zero k node (λ i _. worth_more i)
          (is.lock.shape.nodes.each k node at).orderly (is.lock.shape.tight.each k node at);
    }

    -- what was found is sound over the larger system
    still_sound : IsSoundState s (value_of s q) (PreRun q o.edges) Pre st
    still_sound = record {
      nonzero = is.lock.nonzero;
      sound = λ t there. sound_more t (is.lock.sound t there);
      shape = record {
        places = is.lock.shape.places;
        seats = is.lock.shape.seats;
        queue = is.lock.shape.queue;
        present = is.lock.shape.present;
        nodes = is.lock.shape.nodes;
        tight = tight_more;
      };
    }

    -- ---- rows

    -- A job of the rule that comes: its first input goes on from where the rule goes, over the symbol that it leaves on top.
    record ReadsFirst (j : Job S W Map) : Type 0 where
      pub top : ℕ
      pub below : List ℕ
      pub leaves : r.right ≡ top ∷ below
      pub input : Entry S W Map
      pub first : j.first ≡ Some input
      pub to : ℕ
      pub place : input.place ≡ arrow r.to top to

    step_was : (j : Job S W Map) (job : IsStepJob q j) → slice_get p.rules job.number ≡ Some job.by → pre_rows p (row_of j) ≡ true
    step_was j job there = ap (λ z. pre_rows p (row_of z)) job.is
        ∙ row_test p job.number job.by there PreStep (Some job.input) None j.goal.to (step_test p job.number job.by job.top job.right j.goal.to job.input job.place)

    push_was : (j : Job S W Map) (job : IsPushJob q j) → slice_get p.rules job.number ≡ Some job.by → pre_rows p (row_of j) ≡ true
    push_was j job there =
        let at : JobKind → Job S W Map = λ kind. rule_job p job.number job.by kind (Some job.callee) (Some job.after) j.goal.to in
        ap (λ z. pre_rows p (row_of z)) job.is ∙ elim job.sorted [
          | inl control ↦ ap (λ kind. pre_rows p (row_of (at kind))) control.0
              ∙ row_test p job.number job.by there PrePushControl (Some job.callee) (Some job.after) j.goal.to
              (call_test p job.number job.by job.top job.below job.right job.mid j.goal.to job.callee job.after job.place job.next control.1)
          | inr other ↦ ap (λ kind. pre_rows p (row_of (at kind))) other.0
              ∙ row_test p job.number job.by there PrePushOther (Some job.callee) (Some job.after) j.goal.to
              (stay_test p job.number job.by job.top job.below job.right job.mid j.goal.to job.callee job.after job.place job.next other.1)
        ]

    -- a row of the larger system is one of the smaller, or the new rule's
    old_or_new : (j : Job S W Map) → pre_rows q (row_of j) ≡ true → (pre_rows p (row_of j) ≡ true) ⊎ ReadsFirst j
    old_or_new j row = elim (row_says q j row) [
      | inl step ↦
          let job : IsStepJob q j = step in
          elim (get_push p.rules r job.by job.number job.there) [
            | inl was ↦ inl (step_was j job was)
            | inr comes ↦ inr (record {
              top = job.top;
              below = [];
              leaves = ap (λ (u : Rule S W Map). u.right) comes.1 ∙ job.right;
              input = job.input;
              first = ap (λ (z : Job S W Map). z.first) job.is;
              to = j.goal.to;
              place = job.place ∙ ap (λ (u : Rule S W Map). arrow u.to job.top j.goal.to) (sym comes.1);
            })
          ]
      | inr push ↦
          let job : IsPushJob q j = push in
          elim (get_push p.rules r job.by job.number job.there) [
            | inl was ↦ inl (push_was j job was)
            | inr comes ↦ inr (record {
              top = job.top;
              below = job.below ∷ [];
              leaves = ap (λ (u : Rule S W Map). u.right) comes.1 ∙ job.right;
              input = job.callee;
              first = ap (λ (z : Job S W Map). z.first) job.is;
              to = job.mid;
              place = job.place ∙ ap (λ (u : Rule S W Map). arrow u.to job.top job.mid) (sym comes.1);
            })
          ]
    ]

    agrees : (j : Job S W Map) → pre_rows p (row_of j) ≡ true → AgreeOn p q j
    agrees j row =
        let P : Job S W Map → Type 0 = AgreeOn p q in
        elim (row_says p j row) [
          | inl step ↦ let job : IsStepJob p j = step in
              subst P (sym job.is) (record { semiring = refl; rule = job.there ∙ sym (get_more p.rules r job.number job.by job.there); frame = tt })
          | inr push ↦ let job : IsPushJob p j = push in
              subst P (sym job.is) (record { semiring = refl; rule = job.there ∙ sym (get_more p.rules r job.number job.by job.there); frame = tt })
        ]

    -- its candidate is the same
    same_worth : (j : Job S W Map) → pre_rows p (row_of j) ≡ true → old.candidate j ≡ new_tables.candidate j
    same_worth j row = same_candidates operations p q j refl (agrees j row)

    -- ---- the state with the rule

    -- What the state with the rule is, next to the one before.
    record IsTaken (new : CoreState S W Map) : Type 0 where
      pub sound : IsSoundState s (value_of s q) (PreRun q o.edges) Pre new
      pub grows : Grows s Pre st new
      pub within : (x : Place) → IsSome (entry_at x new.transitions) → IsSome (entry_at x st.transitions) ⊎ IsIn x (pre_places q o)
      pub pops : r.right ≡ [] → Below s (weight_at s (head_place r) new.transitions) r.weight
      pub waits : (j : Job S W Map) → ReadsFirst j → (t : Entry S W Map) → j.first ≡ Some t → Present new.transitions t → IsIn t.place new.queue

    module _ (new : CoreState S W Map) (taken : IsTaken new) where
      new_fit : (x : Place) → Fits s (weight_at s x new.transitions)
      new_fit = weights_fit law (value_of s q) value_fit (PreRun q o.edges) Pre new taken.sound

      old_fit : (x : Place) → Fits s (weight_at s x st.transitions)
      old_fit = weights_fit law (value_of s q) value_fit (PreRun q o.edges) Pre st still_sound

      abbrev opening : List (Entry S W Map)
      opening = (opening_state s Pre p o.edges).transitions

      rules_fit : (k : ℕ) (u : Rule S W Map) → slice_get p.rules k ≡ Some u → Fits s u.weight
      rules_fit k u there = weight_fits is.system law k u there

      opening_fit : (x : Place) → Fits s (weight_at s x opening)
      opening_fit = opening_weights_fit law p rules_fit o.edges

      as_was : (x : Place) (w : W) → Fits s w → Below s (weight_at s x st.transitions) w → Below s (weight_at s x new.transitions) w
      as_was x w fit below = below_trans law (weight_at s x new.transitions) (weight_at s x st.transitions) w (new_fit x) (old_fit x) fit (taken.grows.weights x) below

      edge_below : (x : Place) → IsIn x o.edges → Below s (weight_at s x new.transitions) s.one
      edge_below x h = as_was x s.one law.fits-one
          (opened_below law opening st.transitions is.lock.opened opening_fit old_fit x s.one law.fits-one (opening_edges law p rules_fit o.edges x h))

      pop_below : (k : ℕ) (u : Rule S W Map) → slice_get q.rules k ≡ Some u → u.right ≡ [] → Fits s u.weight × Below s (weight_at s (head_place u) new.transitions) u.weight
      pop_below k u there nothing = elim (get_push p.rules r u k there) [
        | inl was ↦
            let fit = rules_fit k u was in
            (fit, as_was (head_place u) u.weight fit (opened_below law opening st.transitions is.lock.opened opening_fit old_fit (head_place u) u.weight fit (opening_pops law p rules_fit o.edges k u was nothing)))
        | inr comes ↦
            let P : Rule S W Map → Type 0 = λ x. Fits s x.weight × Below s (weight_at s (head_place x) new.transitions) x.weight in
            subst P comes.1 (rule.fits.weight, taken.pops (ap (λ (x : Rule S W Map). x.right) comes.1 ∙ nothing))
      ]

      -- what is below a weight that is not zero is there
      below_some : (x : Place) (w : W) → Fits s w → (w ≡ s.zero → ⊥) → Below s (weight_at s x new.transitions) w → IsSome (entry_at x new.transitions)
      below_some x w fit some below = elim (entry_at x new.transitions) as (λ e. Below s (weight_of s e) w → IsSome e) [
        | None ↦ λ h. absurd (some (zero_below law w fit h))
        | Some t ↦ λ h. refl
      ] below

      begun : IsSearch operations (pre_way operations) (search_from operations (pre_way operations) q v.direction o)
      begun = search_begun operations laws (pre_way operations) lawful q v.direction o valid is.fits

      opened_all : (t : Entry S W Map) → IsIn t (opening_state s Pre q o.edges).transitions → IsSome (entry_at t.place new.transitions) × Below s (weight_at s t.place new.transitions) t.weight
      opened_all t listed =
          let ts = (opening_state s Pre q o.edges).transitions in
          let there : entry_at t.place ts ≡ Some t = in_present ts t begun.lock.shape.places listed in
          let high = opening_above law (λ x. weight_at s x new.transitions) new_fit q o.edges edge_below pop_below in
          let F : W → Type 0 = Fits s in
          let B : W → Type 0 = Below s (weight_at s t.place new.transitions) in
          let fit : Fits s t.weight = subst F (ap (weight_of s) there) (high.fits t.place) in
          let below : Below s (weight_at s t.place new.transitions) t.weight = subst B (ap (weight_of s) there) (high.below t.place) in
          (below_some t.place t.weight fit (begun.lock.nonzero t there) below, below)

      no_hand : (seat : ℕ) (h : Holding S W Map) → hand_at seat new.hands ≡ Some h → ⊥
      no_hand seat h at = let f : Some h ≡ None = sym at ∙ ap (hand_at seat) (taken.grows.hands ∙ is.free) ∙ none_out 64 seat in cc

      none_before : (seat : ℕ) (h : Holding S W Map) → hand_at seat st.hands ≡ Some h → ⊥
      none_before seat h at = let f : Some h ≡ None = sym at ∙ ap (hand_at seat) is.free ∙ none_out 64 seat in cc

      candidate_fit : (j : Job S W Map) → pre_rows q (row_of j) ≡ true → ((t : Entry S W Map) → HasInput j t → Present st.transitions t) → Fits s (new_tables.candidate j)
      candidate_fit j row inputs =
          let input = direction.asks j row in
          let job : IsSoundJob s (value_of s q) (PreRun q o.edges) new_tables st.nodes input.0.place j =
          record { row = row; taken = (input.0, input.1, refl); inputs = λ t has. still_sound.sound t (inputs t has) } in
          change_fits law (value_of s q) value_fit (PreRun q o.edges) Pre st.nodes (change_of s new_tables j)
          (job_sound law value_fit (PreRun q o.edges) direction [] (λ t h. absurd h) st.nodes input.0.place j job)

      old_due : (j : Job S W Map) → pre_rows q (row_of j) ≡ true → pre_rows p (row_of j) ≡ true → ((t : Entry S W Map) → HasInput j t → Present st.transitions t) → IsDue s new_tables new j
      old_due j here row inputs = elim (is.lock.closed j (record { row = row; inputs = inputs })) [
        | inl applied ↦
            let P : W → Type 0 = λ w. Below s (weight_at s j.goal st.transitions) w in
            inl (as_was j.goal (new_tables.candidate j) (candidate_fit j here inputs) (subst P (same_worth j row) applied))
        | inr due ↦ elim due [
          | inl waiting ↦ inr (inl (waiting.0, waiting.1, taken.grows.queue waiting.0.place waiting.2))
          | inr held ↦ absurd (none_before held.0 held.1 held.2)
        ]
      ]

      closed_all : (j : Job S W Map) → IsConsequence new_tables new.transitions j → IsDue s new_tables new j
      closed_all j there =
          let Waits : Entry S W Map → Type 0 = λ t. IsIn t.place new.queue in
          elim (old_or_new j there.row) [
            | inr reads ↦ inr (inl (reads.input, inl reads.first, taken.waits j reads reads.input reads.first (there.inputs reads.input (inl reads.first))))
            | inl row ↦ elim (each_or_some j (Present st.transitions) Waits (λ t input. elim (taken.grows.entries t.place) [
              | inl same ↦ inl (sym same ∙ there.inputs t input)
              | inr waits ↦ inr waits
            ])) [
              | inl were ↦ old_due j there.row row were
              | inr waits ↦ inr (inl waits)
            ]
          ]

      was_within : (x : Place) → IsSome (entry_at x st.transitions) → IsIn x (pre_places q o) ⊎ IsIn x o.edges
      was_within x there =
          let P : Place → Type 0 = λ y. IsIn y (pre_places q o) ⊎ IsIn y o.edges in
          elim (entry_at x st.transitions) as (λ e. entry_at x st.transitions ≡ e → IsSome e → P x) [
            | None ↦ λ e h. cc
            | Some t ↦ λ e h. let at : t.place ≡ x = entry_at-place x st.transitions t e in subst P at (is.within.transitions t (ap (λ z. entry_at z st.transitions) at ∙ e))
          ] refl there

      within_all : IsWithin (pre_places q o) o.edges new
      within_all = record {
        transitions = λ t there.
            let P : Option (Entry S W Map) → Type 0 = IsSome in
            elim (taken.within t.place (subst P (sym there) refl)) [
              | inr place ↦ inl place
              | inl was ↦ was_within t.place was
            ];
        hands = λ seat h at. absurd (no_hand seat h at);
      }

      taken_search : IsSearch operations (pre_way operations) (record { system = q; direction = v.direction; opening = o; state = new })
      taken_search = record {
        system = valid;
        fits = is.fits;
        lock = record {
          nonzero = taken.sound.nonzero;
          sound = taken.sound.sound;
          opened = opened_all;
          closed = closed_all;
          hands = λ seat h at. absurd (no_hand seat h at);
          shape = taken.sound.shape;
        };
        within = within_all;
        free = taken.grows.hands ∙ is.free;
        start =
            let begins = is.start in
            let more = taken.grows.more in
            (omega (arith, begins.0, more), taken.grows.runs 0 begins.0 ∙ begins.1);
      }

    -- ---- what the rule makes of the state

    once_all : (xs q : List Place) → IsOnce q → IsOnce (all_queued xs q)
    once_all [] q once = once
    once_all (x ∷ xs) q once = once_all xs _ (once_queued x q once)

    module _ (g : ℕ) (gs : List ℕ) (right : r.right ≡ g ∷ gs) where
      abbrev reading : List Place
      reading = places_from r.to g st.transitions

      there_each : (x : Place) → IsIn x reading → IsSome (entry_at x st.transitions)
      there_each x h =
          let found = from_map place_of x (filter (is_from r.to (Symbol g)) st.transitions) h in
          let member = from_filter (is_from r.to (Symbol g)) found.before st.transitions found.there in
          let present = in_present st.transitions found.before is.lock.shape.places member.0 in
          let P : Place → Type 0 = λ y. IsSome (entry_at y st.transitions) in
          let Q : Option (Entry S W Map) → Type 0 = IsSome in
          subst P found.is (subst Q (sym present) refl)

      -- any rule but a pop
      waits_taken : IsTaken (waiting reading st)
      waits_taken = record {
        sound = record {
          nonzero = still_sound.nonzero;
          sound = still_sound.sound;
          shape = record {
            places = is.lock.shape.places;
            seats = is.lock.shape.seats;
            queue = once_all reading st.queue is.lock.shape.queue;
            present = all_queued_each (λ y. IsSome (entry_at y st.transitions)) reading st.queue there_each is.lock.shape.present;
            nodes = is.lock.shape.nodes;
            tight = tight_more;
          };
        };
        grows = record {
          more = omega arith;
          runs = λ k _. refl;
          hands = refl;
          queue = all_queued_keep reading st.queue;
          entries = λ x. inl refl;
          present = λ x h. h;
          weights = λ x. below_itself law (weight_at s x st.transitions) (weights_fit law (value_of s q) value_fit (PreRun q o.edges) Pre st still_sound x);
        };
        within = λ x h. inl h;
        pops = λ none. let e : [] ≡ g ∷ gs = sym none ∙ right in cc;
        waits = λ j reads t first there.
            let same : reads.input ≡ t = same_Some reads.input t (sym reads.first ∙ first) in
            let words : reads.top ∷ reads.below ≡ g ∷ gs = sym reads.leaves ∙ right in
            let top : reads.top ≡ g = cc in
            let at : t.place ≡ arrow r.to g reads.to = ap place_of (sym same) ∙ reads.place ∙ ap (λ h. arrow r.to h reads.to) top in
            in_all_queued reading st.queue t.place (in_places_from r.to g reads.to st.transitions t (entry_in t.place st.transitions t there) at);
      }

    -- a pop rule
    pop_taken : r.right ≡ [] → IsTaken (apply s (pop_change n r) st)
    pop_taken right =
        let c : Change W = pop_change n r in
        let pops = direction.pops refl n r (get_last p.rules r) right in
        let change : IsSoundChange s (value_of s q) (PreRun q o.edges) Pre st.nodes c = record { first = tt; second = tt; part = refl; are_runs = pops.0 } in
        let kept = apply_keeps law (value_of s q) value_fit (PreRun q o.edges) Pre st still_sound c change in
        let counts = apply_counts law (value_of s q) value_fit (PreRun q o.edges) Pre (pre_places q o) st still_sound c change pops.1 in
        record {
          sound = kept.sound;
          grows = kept.grows;
          within = counts.within;
          pops = λ _. kept.applied;
          waits = λ j reads t first there. let e : [] ≡ reads.top ∷ reads.below = sym right ∙ reads.leaves in cc;
        }

    rule_taken : (word : List ℕ) → r.right ≡ word → IsTaken (elim word [ [] ↦ apply s (pop_change n r) st | g ∷ gs ↦ waiting (places_from r.to g st.transitions) st ])
    rule_taken [] right = pop_taken right
    rule_taken (g ∷ gs) right = waits_taken g gs right

    -- the search to which the rule comes is a search
    pub search_takes_rule : IsSearch operations (pre_way operations) (with_later_rule operations r v)
    search_takes_rule = taken_search (with_rule s n r st) (rule_taken r.right refl)

    -- ---- the nodes

    weaker : (m k : ℕ) → m ≤ k → (i : Option ℕ) → IfSome i (λ j. j < m) → IfSome i (λ j. j < k)
    weaker m k more None h = tt
    weaker m k more (Some j) h = let low : j < m = h in omega arith

    names_push : (node : Node) → IfSome (rule_named node) (λ i. i < n + 1) → NameRulesBelow (n + 1) (st.nodes ++ node ∷ [])
    names_push node here = record {
      each = λ k m at. elim (get_push st.nodes node m k at) [
        | inl was ↦ weaker n (n + 1) (omega arith) (rule_named m) (names.each k m was)
        | inr new ↦ let P : Node → Type 0 = λ x. IfSome (rule_named x) (λ i. i < n + 1) in subst P new.1 here
      ];
    }

    names_kept : NameRulesBelow (n + 1) st.nodes
    names_kept = record { each = λ k m at. weaker n (n + 1) (omega arith) (rule_named m) (names.each k m at) }

    abbrev NamesMore : CoreState S W Map → Type 0
    NamesMore x = NameRulesBelow (n + 1) x.nodes

    names_by : (word : List ℕ) → NamesMore (elim word [ [] ↦ apply s (pop_change n r) st | g ∷ gs ↦ waiting (places_from r.to g st.transitions) st ])
    names_by [] =
        let c : Change W = pop_change n r in
        let w = s.combine (weight_at s c.goal st.transitions) c.weight in
        let P : CoreState S W Map → Type 0 = λ x. NameRulesBelow (n + 1) x.nodes in
        let low : n < n + 1 = omega arith in
        cond_both (s.same w (weight_at s c.goal st.transitions)) st (lower_state s c w st) P (λ _. names_kept) (λ _. names_push _ low)
    names_by (g ∷ gs) = names_kept

    -- its nodes name rules of the larger system
    pub rules_still_below : NameRulesBelow (length (with_later_rule operations r v).system.rules) (with_later_rule operations r v).state.nodes
    rules_still_below =
        let P : ℕ → Type 0 = λ m. NameRulesBelow m (with_rule s n r st).nodes in
        subst P (sym (length_push p.rules r)) (names_by r.right)

    -- ---- the bound on nodes

    abbrev Falls : CoreState S W Map → Type 0
    Falls new = length new.nodes + fallen s st.transitions (pre_places q o) ≤ length st.nodes + fallen s new.transitions (pre_places q o)

    pop_falls : r.right ≡ [] → Falls (apply s (pop_change n r) st)
    pop_falls right =
        let c : Change W = pop_change n r in
        let pops = direction.pops refl n r (get_last p.rules r) right in
        let change : IsSoundChange s (value_of s q) (PreRun q o.edges) Pre st.nodes c = record { first = tt; second = tt; part = refl; are_runs = pops.0 } in
        let counts = apply_counts law (value_of s q) value_fit (PreRun q o.edges) Pre (pre_places q o) st still_sound c change pops.1 in
        counts.nodes

    falls_by : (word : List ℕ) → r.right ≡ word → Falls (elim word [ [] ↦ apply s (pop_change n r) st | g ∷ gs ↦ waiting (places_from r.to g st.transitions) st ])
    falls_by [] right = pop_falls right
    falls_by (g ∷ gs) right = omega arith

    -- it makes no more nodes than ranks fall
    pub rule_falls : Falls (with_rule s n r st)
    rule_falls = falls_by r.right refl
