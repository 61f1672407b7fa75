-- The laws of the backward direction.
use Rattle.std.proofs.Common.{◌≡◌, ◌⊎◌, inl, inr, ℕ, ◌<◌, true, [], refl, sym, ap, ◌∙◌, subst}
use Rattle.std.specs.Prelude.{Option, None, Some, IfSome, IsTrue, is_some, ◌||◌, slice_get}
use Rattle.std.proofs.lemmas.Bool.{or_left}
use Rattle.semiring_laws.specs.Semiring.{Operations, IsSemiring}
use Rattle.weighted_automata.specs.declared.place.Place.{Place}
use Rattle.weighted_automata.specs.declared.transitions.Entry.{Entry}
use Rattle.witness_graph.specs.declared.node.Side.TheVariants.{Pre}
use Rattle.pushdown_rules.specs.declared.rule.Rule.{Rule}
use Rattle.pushdown_rules.specs.Pushdown.{Pushdown, IsSystem}
use Rattle.pushdown_rules.specs.Values.{value_of}
use Rattle.pushdown_rules.proofs.CallerLemmas.{rule_at}
use Rattle.saturation_laws.specs.declared.opening.Opening.{Opening}
use Rattle.saturation_laws.specs.declared.job.JobKind.{JobKind}
use Rattle.saturation_laws.specs.declared.job.JobKind.TheVariants.{PrePushControl, PrePushOther}
use Rattle.saturation_laws.specs.declared.job.Job.{Job}
use Rattle.saturation_laws.specs.Jobs.{row_of, HasInput, named_rule, named_first}
use Rattle.wpds_base.specs.Lists.{IsIn}
use Rattle.saturation_laws.specs.Openings.{head_place, opening_state}
use Rattle.saturation_laws.specs.Directions.{IsDirection, HaveSameCandidates}
use Rattle.saturation_laws.specs.Paths.{HasSums}
use Rattle.prestar_laws.specs.Rows.{pre_rows, at_rule}
use Rattle.prestar_laws.specs.Jobs.{pre_tables}
use Rattle.prestar_laws.specs.Reading.{PreRun}
use Rattle.prestar_laws.specs.Fitting.{fits_pre, state_count, pre_places}
use Rattle.prestar_laws.proofs.TableLemmas.{pre_sound, pre_opens, pre_pops}
use Rattle.prestar_laws.proofs.RowTestLemmas.{rule_job, row_says}
use Rattle.prestar_laws.proofs.JobLemmas.{jobs_are, jobs_all}
use Rattle.prestar_laws.proofs.PlaceLemmas.{control_is_state, edge_to_state, in_arrows, arrow_to, leads_to_items, reads_one}
use Rattle.prestar_laws.proofs.ClosingLemmas.{pre_sums}
use Rattle.direction_parts.specs.Places.{arrow}

module _ {S W Map : Type 0} (p : Pushdown S W Map) where
  -- a row has an input
  pub pre_asks : (j : Job S W Map) → pre_rows p (row_of j) ≡ true → (t : Entry S W Map) × HasInput j t
  pre_asks j row = elim (row_says p j row) [
    | inl is ↦ (is.input, inl (ap (λ (z : Job S W Map). z.first) is.is))
    | inr is ↦ (is.callee, inl (ap (λ (z : Job S W Map). z.first) is.is))
  ]

  names_rule : (j i : Job S W Map) → j ≡ i → is_some (named_rule i) ≡ true → is_some (named_rule j) ≡ true
  names_rule j i e h = ap (λ (z : Job S W Map). is_some (named_rule z)) e ∙ h

  push_names : (k : ℕ) (r : Rule S W Map) (kind : JobKind) (first second : Option (Entry S W Map)) (q : ℕ) → (kind ≡ PrePushControl) ⊎ (kind ≡ PrePushOther)
      → is_some (named_rule (rule_job p k r kind first second q)) ≡ true
  push_names k r kind first second q sort = elim sort [
    | inl e ↦ ap (λ z. is_some (named_rule (rule_job p k r z first second q))) e
    | inr e ↦ ap (λ z. is_some (named_rule (rule_job p k r z first second q))) e
  ]

  -- and its node names a rule
  pub pre_names : (j : Job S W Map) → pre_rows p (row_of j) ≡ true → IsTrue (is_some (named_rule j) || (is_some (named_first j) || is_some j.second))
  pre_names j row = or_left (is_some (named_rule j)) (is_some (named_first j) || is_some j.second) (elim (row_says p j row) [
    | inl is ↦ names_rule j _ is.is refl
    | inr is ↦ names_rule j _ is.is (push_names is.number is.by is.sort (Some is.callee) (Some is.after) j.goal.to (elim is.sorted [ inl e ↦ inl e.0 | inr e ↦ inr e.0 ]))
  ])

module _ {S W Map : Type 0} {operations : S → Operations W Map} {p : Pushdown S W Map} (valid : IsSystem operations p) (o : Opening) where
  -- a place that is reached, or an opening edge's, leads to a state
  to_state : (x : Place) → IsIn x (pre_places p o) ⊎ IsIn x o.edges → x.to < state_count p.controls o
  to_state x (inl reached) = arrow_to p.controls p.symbols (state_count p.controls o) x reached
  to_state x (inr edge) = edge_to_state p.controls o x edge

  rule_reaches : (k : ℕ) (r : Rule S W Map) → slice_get p.rules k ≡ Some r → (q : ℕ) → q < state_count p.controls o → IsIn (arrow r.control r.symbol q) (pre_places p o)
  rule_reaches k r there q low =
      let rule = rule_at valid k r there in
      in_arrows p.controls p.symbols (state_count p.controls o) r.control r.symbol q rule.control rule.symbol low

  -- a row leads to a place that is reached
  pub pre_reaches : (j : Job S W Map) → pre_rows p (row_of j) ≡ true → ((t : Entry S W Map) → HasInput j t → IsIn t.place (pre_places p o) ⊎ IsIn t.place o.edges) → IsIn j.goal (pre_places p o)
  pre_reaches j row inputs =
      let P : Place → Type 0 = λ x. IsIn x (pre_places p o) in
      let L : ℕ → Type 0 = λ n. n < state_count p.controls o in
      elim (row_says p j row) [
        | inl is ↦
            let low = to_state is.input.place (inputs is.input (inl (ap (λ (z : Job S W Map). z.first) is.is))) in
            subst P (sym (ap (λ (z : Job S W Map). z.goal) is.is)) (rule_reaches is.number is.by is.there j.goal.to (subst L (ap (λ (x : Place). x.to) is.place) low))
        | inr is ↦
            let low = to_state is.after.place (inputs is.after (inr (ap (λ (z : Job S W Map). z.second) is.is))) in
            subst P (sym (ap (λ (z : Job S W Map). z.goal) is.is)) (rule_reaches is.number is.by is.there j.goal.to (subst L (ap (λ (x : Place). x.to) is.next) low))
      ]

  pub pop_reaches : (k : ℕ) (r : Rule S W Map) → slice_get p.rules k ≡ Some r → IsIn (head_place r) (pre_places p o)
  pop_reaches k r there = rule_reaches k r there r.to (control_is_state p.controls o r.to (rule_at valid k r there).to)

module _ {S W Map : Type 0} {operations : S → Operations W Map} {p : Pushdown S W Map} (valid : IsSystem operations p) (laws : IsSemiring (operations p.semiring))
    (o : Opening) (fits : IsTrue (fits_pre p o)) where
  -- the empty run is a run of each opening edge
  pub edges_open : (x : Place) → IsIn x o.edges → PreRun p o.edges x []
  edges_open x edge =
      let g = reads_one p.controls o.edges fits x edge in
      let same : x ≡ arrow x.from g.0 x.to = ap (λ l. let y : Place = record { from = x.from; label = l; to = x.to } in y) g.1 in
      let P : Place → Type 0 = λ y. IsIn y o.edges in
      let Q : Place → Type 0 = λ y. PreRun p o.edges y [] in
      subst Q (sym same) (pre_opens valid laws o.edges (leads_to_items p.controls o.edges fits) x.from g.0 x.to (subst P same edge))

  -- the laws of a direction
  pub pre_laws : IsDirection (operations p.semiring) p o (pre_tables (operations p.semiring) p) (pre_places p o) (PreRun p o.edges)
  pre_laws =
      let s = operations p.semiring in
      let items = leads_to_items p.controls o.edges fits in
      record {
        sound = λ j xs ys row is more. pre_sound valid laws o.edges items j xs ys row is more;
        opens = edges_open;
        pops = λ side k r there none. (pre_pops valid laws o.edges items k r there none, pop_reaches valid o k r there);
        asks = λ j row. pre_asks p j row;
        names = λ j row. pre_names p j row;
        reaches = λ j row inputs. pre_reaches valid o j row inputs;
        jobs_are = λ ts t j distinct here listed. jobs_are s p ts t distinct here j listed;
        jobs_all = λ ts t j distinct here drawn has. jobs_all s p ts t distinct here j drawn has;
      }

  -- the two laws on sums
  pub pre_has_sums : HasSums (operations p.semiring) (value_of (operations p.semiring) p) p o Pre (pre_tables (operations p.semiring) p)
      (opening_state (operations p.semiring) Pre p o.edges).transitions (PreRun p o.edges)
  pre_has_sums = pre_sums valid laws o (leads_to_items p.controls o.edges fits) (pre_tables (operations p.semiring) p) (record { side = refl; rows = λ row. refl; candidate = λ j. refl })

-- a candidate depends on the semiring and the rule that the job names
pub same_candidates : {S W Map : Type 0} (operations : S → Operations W Map) (p q : Pushdown S W Map)
    → HaveSameCandidates (pre_tables (operations p.semiring) p) (pre_tables (operations q.semiring) q) p q
same_candidates operations p q j side agree =
    elim j.rule as (λ o. IfSome o (λ k. slice_get p.rules k ≡ slice_get q.rules k)
    → (elim o [ None ↦ (operations p.semiring).zero | Some k ↦ at_rule (operations p.semiring) (slice_get p.rules k) j ])
    ≡ (elim o [ None ↦ (operations q.semiring).zero | Some k ↦ at_rule (operations q.semiring) (slice_get q.rules k) j ])) [
      | None ↦ λ e. ap (λ x. (operations x).zero) agree.semiring
      | Some k ↦ λ e. ap (λ x. at_rule (operations x) (slice_get p.rules k) j) agree.semiring ∙ ap (λ r. at_rule (operations q.semiring) r j) e
    ] agree.rule
