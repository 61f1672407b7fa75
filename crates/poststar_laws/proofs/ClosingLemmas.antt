-- A saturation's weights are closed under the forward rows, and the two laws on sums.
use Rattle.std.proofs.Common.{◌≡◌, ◌≢◌, inl, inr, ℕ, ◌<◌, ◌≤◌, true, List, [], ◌∷◌, refl, sym, ap, ap₂, ◌∙◌, subst}
use Rattle.std.specs.Prelude.{Option, None, Some, nat_eq, slice_get, unwrap_or}
use Rattle.std.proofs.lemmas.Bool.{and_from, eq-eqb}
use Rattle.std.proofs.lemmas.Option.{same_Some}
use Rattle.semiring_laws.specs.Semiring.{Operations, IsSemiring, Fits, Below}
use Rattle.semiring_laws.proofs.CallerLemmas.{below_itself, below_zero, zero_below}
use Rattle.weighted_automata.specs.declared.place.Place.{Place}
use Rattle.weighted_automata.specs.declared.place.Label.TheVariants.{Empty}
use Rattle.weighted_automata.specs.declared.transitions.Entry.{Entry}
use Rattle.weighted_automata.specs.Places.{same_label}
use Rattle.weighted_automata.specs.Entries.{entry_at, Present}
use Rattle.weighted_automata.proofs.CallerLemmas.{entry_at-place}
use Rattle.witness_graph.specs.declared.node.Side.TheVariants.{Post}
use Rattle.pushdown_rules.specs.declared.rule.Rule.{Rule}
use Rattle.pushdown_rules.specs.Configuration.{Configuration}
use Rattle.pushdown_rules.specs.Pushdown.{Pushdown, IsSystem}
use Rattle.pushdown_rules.specs.Firing.{Run}
use Rattle.pushdown_rules.specs.Values.{value_of}
use Rattle.pushdown_rules.proofs.CallerLemmas.{weight_fits, map_fits, value_fits}
use Rattle.wpds_base.specs.Lists.{IsIn}
use Rattle.saturation_laws.specs.declared.opening.Opening.{Opening}
use Rattle.saturation_laws.specs.declared.job.JobKind.{JobKind}
use Rattle.saturation_laws.specs.declared.job.JobKind.TheVariants.{PostStep, PostPopMiddle, PostPopOther, PostEnter, PostLeave}
use Rattle.saturation_laws.specs.declared.job.Job.{Job}
use Rattle.saturation_laws.specs.Jobs.{Tables}
use Rattle.saturation_laws.specs.States.{CoreState, weight_of, weight_at}
use Rattle.saturation_laws.specs.Openings.{bare, opening_state}
use Rattle.saturation_laws.specs.Directions.{IsConsequence}
use Rattle.saturation_laws.specs.Invariants.{IsApplied}
use Rattle.saturation_laws.specs.Paths.{IsPath, along, IsOpened, IsMet, IsSaturated, HasSums}
use Rattle.saturation_laws.proofs.CallerLemmas.{edges_fit, edges_one, opened_below}
use Rattle.direction_parts.specs.Places.{arrow}
use Rattle.direction_parts.specs.Worths.{after_return}
use Rattle.direction_parts.proofs.CallerLemmas.{is_there, weights_at_fit}
use Rattle.poststar_laws.specs.Middles.{middle_of}
use Rattle.poststar_laws.specs.declared.drawn.Drawn.{Drawn}
use Rattle.poststar_laws.specs.Rows.{skip, head_to, draws, are_glued, at_rule, rule_named, returned_worth, post_candidate, return_drawn, pop_drawn}
use Rattle.poststar_laws.specs.Jobs.{drawn_job, glue_job, post_tables}
use Rattle.poststar_laws.specs.Reading.{IsMiddle, PostRun}
use Rattle.poststar_laws.proofs.Weights.{HasItemEdges, IsClosedForward}
use Rattle.poststar_laws.proofs.FrameLemmas.{frame_there, no_frame}
use Rattle.poststar_laws.proofs.DrawnLemmas.{step_there, return_there, pop_there, enter_there, leave_there}
use Rattle.poststar_laws.proofs.RowTestLemmas.{row_test, glue_test}
use Rattle.poststar_laws.proofs.MeetingLemmas.{run_met_forward}
use Rattle.poststar_laws.proofs.PathLemmas.{post_gives}

module _ {S W Map : Type 0} {operations : S → Operations W Map} {p : Pushdown S W Map} (valid : IsSystem operations p) (laws : IsSemiring (operations p.semiring))
    (base : ℕ) (ts : List (Entry S W Map))
    (fit : (x : Place) → Fits (operations p.semiring) (weight_at (operations p.semiring) x ts))
    (applied : (j : Job S W Map) → IsConsequence (post_tables base p (operations p.semiring)) ts j → IsApplied (operations p.semiring) (post_tables base p (operations p.semiring)) ts j) where
  abbrev s : Operations W Map
  s = operations p.semiring

  abbrev weight : Place → W
  weight x = weight_at s x ts

  itself : (x : Place) (t : Entry S W Map) → entry_at x ts ≡ Some t → Present ts t
  itself x t e = ap (λ y. entry_at y ts) (entry_at-place x ts t e) ∙ e

  zero_case : (x : Place) (w : W) → w ≡ s.zero → Below s (weight x) w
  zero_case x w e = let P : W → Type 0 = Below s (weight x) in subst P (sym e) (below_zero laws (weight x) (fit x))

  module _ (k : ℕ) (r : Rule S W Map) (there : slice_get p.rules k ≡ Some r) where
    fr : Fits s r.weight
    fr = weight_fits valid laws k r there

    abbrev middle : ℕ
    middle = middle_of base p.rules k

    -- what the rule draws from a transition that is there is applied
    drawn_below : (kind : JobKind) (q : ℕ) (t : Entry S W Map) → entry_at (head_to r q) ts ≡ Some t → (d : Drawn) → draws base p kind k r q ≡ Some d
        → (w : W) → post_candidate s p (drawn_job kind k d t) ≡ w → Below s (weight d.goal) w
    drawn_below kind q t e d makes w worth =
        let j = drawn_job kind k d t in
        let at : t.place ≡ head_to r q = entry_at-place (head_to r q) ts t e in
        let to : q ≡ t.place.to = sym (ap (λ (x : Place). x.to) at) in
        let here : t.place ≡ head_to r t.place.to = at ∙ ap (head_to r) to in
        let made : draws base p kind k r t.place.to ≡ Some d = ap (draws base p kind k r) (sym to) ∙ makes in
        let P : W → Type 0 = Below s (weight d.goal) in
        subst P worth (applied j (record {
          row = row_test base p kind k r there t here d made;
          inputs = λ u has. elim has [
            | inl h ↦ let Q : Entry S W Map → Type 0 = Present ts in subst Q (same_Some t u h) (itself (head_to r q) t e)
            | inr h ↦ cc
          ];
        }))

    by_rule : (j : Job S W Map) (w : W) → at_rule s (rule_named p.rules j.frame) (Some r) j ≡ w → at_rule s (rule_named p.rules j.frame) (slice_get p.rules k) j ≡ w
    by_rule j w e = ap (λ o. at_rule s (rule_named p.rules j.frame) o j) there ∙ e

    step_below : (g : ℕ) → r.right ≡ g ∷ [] → (q : ℕ) (o : Option (Entry S W Map)) → entry_at (head_to r q) ts ≡ o → Below s (weight (arrow r.to g q)) (s.extend (weight_of s o) r.weight)
    step_below g right q None e = zero_case (arrow r.to g q) _ (laws.extend-zero_left r.weight fr)
    step_below g right q (Some t) e = drawn_below PostStep q t e _ (step_there r g right q) _ (by_rule (drawn_job PostStep k (record { frame = None; goal = arrow r.to g q }) t) _ refl)

    pop_below : r.right ≡ [] → (q : ℕ) → q < base → (o : Option (Entry S W Map)) → entry_at (head_to r q) ts ≡ o → Below s (weight (skip r.to q)) (s.extend (weight_of s o) r.weight)
    pop_below right q low None e = zero_case (skip r.to q) _ (laws.extend-zero_left r.weight fr)
    pop_below right q low (Some t) e =
        drawn_below PostPopOther q t e _ (ap (λ f. pop_drawn f r q) (no_frame p base q low) ∙ pop_there r right q) _
        (by_rule (drawn_job PostPopOther k (record { frame = None; goal = skip r.to q }) t) _ refl)

    return_below : r.right ≡ [] → (m : ℕ) (u : Rule S W Map) → slice_get p.rules m ≡ Some u → (g₁ g₂ : ℕ) → u.right ≡ g₁ ∷ g₂ ∷ [] → (o : Option (Entry S W Map))
        → entry_at (head_to r (middle_of base p.rules m)) ts ≡ o
        → Below s (weight (skip r.to (middle_of base p.rules m))) (after_return s u (s.extend (weight_of s o) r.weight))
    return_below right m u is g₁ g₂ push None e =
        let h = unwrap_or u.map s.plain in
        zero_case (skip r.to (middle_of base p.rules m)) _ (ap (s.after h) (laws.extend-zero_left r.weight fr) ∙ laws.after-zero h (map_fits valid laws m u is g₁ g₂ push))
    return_below right m u is g₁ g₂ push (Some t) e =
        let q = middle_of base p.rules m in
        let at : IsMiddle p base q m = record { rule = u; there = is; callee = g₁; waits = g₂; right = push; state = refl } in
        let j = drawn_job PostPopMiddle k (record { frame = Some m; goal = skip r.to q }) t in
        drawn_below PostPopMiddle q t e _ (ap (λ f. return_drawn f r q) (frame_there p base q m at) ∙ return_there r m right q) _
        (by_rule j _ (ap (λ o. returned_worth s o r j) is))

    enter_below : (g₁ g₂ : ℕ) → r.right ≡ g₁ ∷ g₂ ∷ [] → (q : ℕ) (o : Option (Entry S W Map)) → entry_at (head_to r q) ts ≡ o → weight_of s o ≢ s.zero → Below s (weight (arrow r.to g₁ middle)) r.weight
    enter_below g₁ g₂ right q None e some = absurd (some refl)
    enter_below g₁ g₂ right q (Some t) e some =
        drawn_below PostEnter q t e _ (enter_there r middle g₁ g₂ right) _ (by_rule (drawn_job PostEnter k (record { frame = None; goal = arrow r.to g₁ middle }) t) _ refl)

    leave_below : (g₁ g₂ : ℕ) → r.right ≡ g₁ ∷ g₂ ∷ [] → (q : ℕ) (o : Option (Entry S W Map)) → entry_at (head_to r q) ts ≡ o → Below s (weight (arrow middle g₂ q)) (weight_of s o)
    leave_below g₁ g₂ right q None e = zero_case (arrow middle g₂ q) s.zero refl
    leave_below g₁ g₂ right q (Some t) e =
        drawn_below PostLeave q t e _ (leave_there r middle g₁ g₂ right q) _ (by_rule (drawn_job PostLeave k (record { frame = None; goal = arrow middle g₂ q }) t) _ refl)

  glue_below : (from q g to : ℕ) (o o' : Option (Entry S W Map)) → entry_at (arrow q g to) ts ≡ o → entry_at (skip from q) ts ≡ o' → Fits s (weight_of s o) → Fits s (weight_of s o')
      → Below s (weight (arrow from g to)) (s.extend (weight_of s o) (weight_of s o'))
  glue_below from q g to None o' e e' f f' = zero_case (arrow from g to) _ (laws.extend-zero_left (weight_of s o') f')
  glue_below from q g to (Some t) None e e' f f' = zero_case (arrow from g to) _ (laws.extend-zero_right t.weight f)
  glue_below from q g to (Some t) (Some u) e e' f f' =
      let j = glue_job t u in
      let at : t.place ≡ arrow q g to = entry_at-place (arrow q g to) ts t e in
      let at' : u.place ≡ skip from q = entry_at-place (skip from q) ts u e' in
      let glues : are_glued t.place u.place ≡ true = ap₂ are_glued at at' ∙ and_from (same_label Empty Empty) (nat_eq q q) refl (eq-eqb q q refl) in
      let goal : j.goal ≡ arrow from g to = ap₂ (λ (x y : Place). let z : Place = record { from = y.from; label = x.label; to = x.to } in z) at at' in
      let P : Place → Type 0 = λ x. Below s (weight x) (s.extend t.weight u.weight) in
      subst P goal (applied j (record {
        row = glue_test base p t u glues;
        inputs = λ v has. let Q : Entry S W Map → Type 0 = Present ts in elim has [
          | inl h ↦ subst Q (same_Some t v h) (itself (arrow q g to) t e)
          | inr h ↦ subst Q (same_Some u v h) (itself (skip from q) u e')
        ];
      }))

  pub closed_forward : (edges : List Place) → ((x : Place) → IsIn x edges → Below s (weight x) s.one) → IsClosedForward s p edges base weight
  closed_forward edges opens = record {
    fits = fit;
    opens = opens;
    steps = λ k r there g right q. step_below k r there g right q (entry_at (head_to r q) ts) refl;
    pops = λ k r there right q low. pop_below k r there right q low (entry_at (head_to r q) ts) refl;
    returns = λ k r there right m u is g₁ g₂ push. return_below k r there right m u is g₁ g₂ push (entry_at (head_to r (middle_of base p.rules m)) ts) refl;
    enters = λ k r there g₁ g₂ right q some. enter_below k r there g₁ g₂ right q (entry_at (head_to r q) ts) refl some;
    leaves = λ k r there g₁ g₂ right q. leave_below k r there g₁ g₂ right q (entry_at (head_to r q) ts) refl;
    glues = λ from q g to. glue_below from q g to (entry_at (arrow q g to) ts) (entry_at (skip from q) ts) refl refl (fit (arrow q g to)) (fit (skip from q));
  }

module _ {S W Map : Type 0} {operations : S → Operations W Map} {p : Pushdown S W Map} (valid : IsSystem operations p) (laws : IsSemiring (operations p.semiring))
    (o : Opening) (base : ℕ) (high : p.controls ≤ base) (items : HasItemEdges p base o.edges) (finals : (q : ℕ) → IsIn q o.finals → q < base) where
  abbrev sr : Operations W Map
  sr = operations p.semiring

  abbrev tables : Tables S W Map
  tables = post_tables base p sr

  abbrev opening : List (Entry S W Map)
  opening = (opening_state sr Post p o.edges).transitions

  saturated_forward : (ts : List (Entry S W Map)) → IsSaturated sr tables opening ts → IsClosedForward sr p o.edges base (λ x. weight_at sr x ts)
  saturated_forward ts is =
      let fit = weights_at_fit laws ts is.fit in
      let start : CoreState S W Map = bare sr in
      let fo = edges_fit laws o.edges start (λ x. laws.fits-zero) in
      closed_forward valid laws base ts fit is.applied o.edges
      (λ x edge. let P : W → Type 0 = Below sr (weight_at sr x opening) in
      opened_below laws opening ts is.opened fo fit x sr.one laws.fits-one (subst P (edges_one laws o.edges start x (inr edge)) (below_itself laws (weight_at sr x opening) (fo x))))

  met_forward : (ts : List (Entry S W Map)) → IsSaturated sr tables opening ts → (run : List ℕ) (from to : Configuration) → Run p to run from → IsOpened o to → value_of sr p run ≢ sr.zero
      → IsMet sr Post o.finals ts from (value_of sr p run)
  met_forward ts is run from to goes opened some =
      let v = value_of sr p run in
      let fit = weights_at_fit laws ts is.fit in
      let met = run_met_forward valid laws o.edges base items.last (λ x. weight_at sr x ts) (saturated_forward ts is) run to from opened.0 opened.1 goes some in
      let there = is_there laws ts Post fit met.places (λ none. let P : W → Type 0 = λ w. Below sr w v in some (zero_below laws v (value_fits valid laws run) (subst P none met.below))) in
      let Q : List Place → Type 0 = λ xs. IsPath xs from.control from.stack opened.0 in
      let R : List W → Type 0 = λ ws. Below sr (along sr Post ws) v in
      record {
        path = there.path;
        to = opened.0;
        present = there.present;
        reads = subst Q (sym there.places) met.leads;
        final = opened.2;
        below = subst R (sym there.weights) met.below;
      }

  -- the two laws on sums, for the forward table
  pub post_sums : HasSums sr (value_of sr p) p o Post tables opening (PostRun p o.edges base)
  post_sums = record {
    met = λ ts is run from to low low' goes opened some. met_forward ts is run from to goes opened some;
    gives = λ c xs rs to low path each. post_gives valid laws o.edges base high items o refl finals c xs rs to low path each;
  }
