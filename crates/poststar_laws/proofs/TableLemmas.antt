-- The forward table meets the law on runs.
use Rattle.std.proofs.Common.{◌≡◌, inl, inr, ℕ, ◌≤◌, true, List, [], ◌∷◌, ◌++◌, map, refl, sym, ap, ap₂, ◌∙◌, subst}
use Rattle.std.specs.Prelude.{Option, None, Some, IsTrue, ◌&&◌, nat_eq, slice_get, unwrap_or}
use Rattle.std.specs.List.{AllByRecursion}
use Rattle.std.proofs.lemmas.Bool.{and_parts, eqb-true, cases_lt}
use Rattle.std.proofs.lemmas.List.{map-id}
use Rattle.semiring_laws.specs.Semiring.{Operations, IsSemiring, Fits}
use Rattle.semiring_laws.specs.Combination.{combination}
use Rattle.semiring_laws.proofs.CallerLemmas.{combine_zero}
use Rattle.weighted_automata.specs.declared.place.Place.{Place}
use Rattle.weighted_automata.specs.declared.place.Label.{Label}
use Rattle.weighted_automata.specs.declared.place.Label.TheVariants.{Symbol, Empty}
use Rattle.weighted_automata.specs.declared.transitions.Entry.{Entry}
use Rattle.weighted_automata.specs.Places.{same_label}
use Rattle.witness_graph.specs.declared.node.Side.TheVariants.{Post}
use Rattle.witness_graph.specs.Runs.{concatenations, parts_runs, rule_runs}
use Rattle.pushdown_rules.specs.declared.rule.Rule.{Rule}
use Rattle.pushdown_rules.specs.Configuration.{at_stack}
use Rattle.pushdown_rules.specs.Pushdown.{Pushdown, IsSystem}
use Rattle.pushdown_rules.specs.Values.{value_of}
use Rattle.pushdown_rules.proofs.CallerLemmas.{value_fits, weight_fits, map_fits}
use Rattle.wpds_base.specs.Lists.{IsIn}
use Rattle.saturation_laws.specs.declared.job.JobKind.{JobKind}
use Rattle.saturation_laws.specs.declared.job.JobKind.TheVariants.{PreStep, PrePushControl, PrePushOther, PostStep, PostPopMiddle, PostPopOther, PostEnter, PostLeave, PostGlue}
use Rattle.saturation_laws.specs.declared.job.Job.{Job}
use Rattle.saturation_laws.specs.Jobs.{row_of, named_rule, named_first}
use Rattle.saturation_laws.specs.Directions.{AreRuns, AreInputRuns}
use Rattle.saturation_laws.proofs.CallerLemmas.{IsLinear, bilinear, all_pairs, then_empty, worth_fits}
use Rattle.direction_parts.specs.Places.{arrow, reads_symbol}
use Rattle.direction_parts.specs.Worths.{after_return}
use Rattle.direction_parts.proofs.CallerLemmas.{linear_extend, linear_extended, symbol_of}
use Rattle.poststar_laws.specs.Middles.{middle_of, frame_of}
use Rattle.poststar_laws.specs.declared.drawn.Drawn.{Drawn}
use Rattle.poststar_laws.specs.Rows.{skip, head_to, draws, are_glued, glued, post_rows, post_candidate, at_rule, rule_named, returned_worth}
use Rattle.poststar_laws.specs.Jobs.{drawn_job, glue_job}
use Rattle.poststar_laws.specs.Reading.{IsMiddle, PostRun}
use Rattle.poststar_laws.proofs.Weights.{HasItemEdges}
use Rattle.poststar_laws.proofs.FrameLemmas.{frame_is, frame_there}
use Rattle.poststar_laws.proofs.DrawnLemmas.{step_says, return_says, pop_says, enter_says, leave_says}
use Rattle.poststar_laws.proofs.RowLemmas.{step_run, pop_run, return_run, enter_run, leave_run, glue_run}
use Rattle.poststar_laws.proofs.RowTestLemmas.{row_says}

pub weaker : {X : Type 0} (P Q : X → Type 0) → ((x : X) → P x → Q x) → (xs : List X) → AllByRecursion P xs → AllByRecursion Q xs
weaker P Q f [] _ = tt
weaker P Q f (x ∷ xs) all = (f x all.0, weaker P Q f xs all.1)

-- a label that passes reads nothing
pub empty_is : (l : Label) → same_label l Empty ≡ true → l ≡ Empty
empty_is (Symbol g) h = cc
empty_is Empty h = refl

module _ {W Map : Type 0} {s : Operations W Map} (laws : IsSemiring s) (value : List ℕ → W) (fits_value : (run : List ℕ) → Fits s (value run)) where
  -- one rule after each run
  pub lasts : (k : ℕ) (G : W → W) → IsLinear s G → (P R : List ℕ → Type 0) → ((a : List ℕ) → P a → R (a ++ k ∷ []) × (value (a ++ k ∷ []) ≡ G (value a)))
      → (xs : List (List ℕ)) → AllByRecursion P xs → AllByRecursion R (concatenations xs ((k ∷ []) ∷ [])) × (G (combination s (map value xs)) ≡ combination s (map value (concatenations xs ((k ∷ []) ∷ []))))
  lasts k G lin P R each [] _ = (tt, lin.strict)
  lasts k G lin P R each (x ∷ xs) all =
      let one = each x all.0 in
      let rest = lasts k G lin P R each xs all.1 in
      ((one.0, rest.0), lin.adds (value x) (combination s (map value xs)) (fits_value x) (worth_fits laws value fits_value xs) ∙ ap₂ s.combine (sym one.1) rest.1)

module _ {S W Map : Type 0} {operations : S → Operations W Map} {p : Pushdown S W Map} (valid : IsSystem operations p) (laws : IsSemiring (operations p.semiring))
    (edges : List Place) (base : ℕ) (high : p.controls ≤ base) (items : HasItemEdges p base edges) where
  abbrev s : Operations W Map
  s = operations p.semiring

  abbrev value : List ℕ → W
  value = value_of s p

  abbrev fv : (run : List ℕ) → Fits s (value run)
  fv run = value_fits valid laws run

  abbrev runs : Place → List ℕ → Type 0
  runs = PostRun p edges base

  abbrev Sound : Job S W Map → List (List ℕ) → List (List ℕ) → Type 0
  Sound j xs ys = AreInputRuns s value runs (named_first j) xs → AreInputRuns s value runs j.second ys
      → AreRuns s value runs j.goal (post_candidate s p j) (parts_runs Post (rule_runs (named_rule j)) xs ys)

  module _ (k : ℕ) (r : Rule S W Map) (there : slice_get p.rules k ≡ Some r) (t : Entry S W Map) (at : t.place ≡ head_to r t.place.to) (d : Drawn) (xs ys : List (List ℕ)) where
    abbrev q : ℕ
    q = t.place.to

    abbrev middle : ℕ
    middle = middle_of base p.rules k

    fr : Fits s r.weight
    fr = weight_fits valid laws k r there

    abbrev job : JobKind → Drawn → Job S W Map
    job kind e = drawn_job kind k e t

    -- the runs of the input, at the rule's head
    at_head : AreRuns s value runs t.place t.weight xs → AreRuns s value runs (head_to r q) t.weight xs
    at_head is = let P : Place → Type 0 = λ x. AreRuns s value runs x t.weight xs in subst P at is

    -- one rule after the runs of the input
    one_rule : (goal : Place) (G : W → W) → IsLinear s G → ((a : List ℕ) → runs (head_to r q) a → runs goal (a ++ k ∷ []) × (value (a ++ k ∷ []) ≡ G (value a)))
        → AreRuns s value runs t.place t.weight xs → ys ≡ [] ∷ [] → AreRuns s value runs goal (G t.weight) (parts_runs Post (rule_runs (Some k)) xs ys)
    one_rule goal G lin each is only =
        let here = at_head is in
        let all = lasts laws value fv k G lin (runs (head_to r q)) (runs goal) each xs here.each in
        let Q : List (List ℕ) → Type 0 = λ zs. AreRuns s value runs goal (G t.weight) (parts_runs Post (rule_runs (Some k)) xs zs) in
        subst Q (sym only) (record { each = all.0; weight = ap G here.weight ∙ all.1 })

    abbrev Draws : JobKind → Type 0
    Draws kind = draws base p kind k r q ≡ Some d → Sound (job kind d) xs ys

    -- by the rule that is there
    by_rule : (kind : JobKind) (e : Drawn) → e ≡ d → (rule : Option ℕ) → named_rule (job kind d) ≡ rule → (w : W) → at_rule s (rule_named p.rules e.frame) (Some r) (job kind e) ≡ w
        → (post_candidate s p (job kind d) ≡ at_rule s (rule_named p.rules d.frame) (slice_get p.rules k) (job kind d))
        → AreRuns s value runs e.goal w (parts_runs Post (rule_runs rule) xs ys)
        → AreRuns s value runs d.goal (post_candidate s p (job kind d)) (parts_runs Post (rule_runs (named_rule (job kind d))) xs ys)
    by_rule kind e same rule named w worth made all =
        let P : W → Option ℕ → Type 0 = λ v n. AreRuns s value runs e.goal v (parts_runs Post (rule_runs n) xs ys) in
        let Q : Drawn → Type 0 = λ f. AreRuns s value runs f.goal (at_rule s (rule_named p.rules f.frame) (Some r) (job kind f)) (parts_runs Post (rule_runs (named_rule (job kind d))) xs ys) in
        let R : W → Type 0 = λ v. AreRuns s value runs d.goal v (parts_runs Post (rule_runs (named_rule (job kind d))) xs ys) in
        let P₁ : W → Type 0 = λ v. P v rule in
        let P₂ : Option ℕ → Type 0 = P (at_rule s (rule_named p.rules e.frame) (Some r) (job kind e)) in
        subst R (sym (made ∙ ap (λ o. at_rule s (rule_named p.rules d.frame) o (job kind d)) there)) (subst Q same (subst P₂ (sym named) (subst P₁ (sym worth) all)))

    step_is : Draws PostStep
    step_is h is only =
        let says = step_says r q d h in
        by_rule PostStep _ says.is (Some k) refl _ refl refl
        (one_rule (arrow r.to says.top q) (λ w. s.extend w r.weight) (linear_extended laws r.weight fr)
        (λ a run. step_run valid laws edges base high items k r there says.top says.right q a run) is only)

    pop_is : Draws PostPopOther
    pop_is h is only =
        let says = pop_says r (frame_of base p.rules q) q d h in
        let none : (m : ℕ) → IsMiddle p base q m → ⊥ = λ m push. let e : None ≡ Some m = sym says.frame_is ∙ frame_there p base q m push in cc in
        by_rule PostPopOther _ says.is (Some k) refl _ refl refl
        (one_rule (skip r.to q) (λ w. s.extend w r.weight) (linear_extended laws r.weight fr)
        (λ a run. pop_run valid laws edges base high items k r there says.right q none a run) is only)

    return_is : Draws PostPopMiddle
    return_is h is only =
        let says = return_says r (frame_of base p.rules q) q d h in
        let m = says.number in
        let push = frame_is p base q m says.frame_is in
        let u = push.rule in
        let h' = unwrap_or u.map s.plain in
        let fm = map_fits valid laws m u push.there push.callee push.waits push.right in
        let lin : IsLinear s (λ w. after_return s u (s.extend w r.weight)) = record {
          strict = ap (s.after h') (laws.extend-zero_left r.weight fr) ∙ laws.after-zero h' fm;
          adds = λ a b fa fb. ap (s.after h') (laws.extend-combine_left a b r.weight fa fb fr)
              ∙ laws.after-combine h' (s.extend a r.weight) (s.extend b r.weight) fm (laws.fits-extend a r.weight fa fr) (laws.fits-extend b r.weight fb fr);
        } in
        by_rule PostPopMiddle _ says.is (Some k) refl _ (ap (λ o. returned_worth s o r (job PostPopMiddle (record { frame = Some m; goal = skip r.to q }))) push.there) refl
        (one_rule (skip r.to q) (λ w. after_return s u (s.extend w r.weight)) lin
        (λ a run. return_run valid laws edges base high items k r there says.right q m push a run) is only)

    enter_is : Draws PostEnter
    enter_is h is only =
        let says = enter_says r middle d h in
        let push : IsMiddle p base middle k = record { rule = r; there = there; callee = says.callee; waits = says.waits; right = says.right; state = refl } in
        let one = enter_run valid laws edges base high items k r there push in
        let goal = arrow r.to says.callee middle in
        let alone : AreRuns s value runs goal r.weight ((k ∷ []) ∷ []) = record { each = (one.0, tt); weight = sym (ap (λ w. s.combine w s.zero) one.1 ∙ combine_zero laws r.weight fr) } in
        let P : List (List ℕ) → Type 0 = λ zs. AreRuns s value runs goal r.weight (parts_runs Post (rule_runs (Some k)) zs ([] ∷ [])) in
        let Q : List (List ℕ) → Type 0 = λ zs. AreRuns s value runs goal r.weight (parts_runs Post (rule_runs (Some k)) xs zs) in
        by_rule PostEnter _ says.is (Some k) refl _ refl refl (subst Q (sym only) (subst P (sym is) alone))

    leave_is : Draws PostLeave
    leave_is h is only =
        let says = leave_says r middle q d h in
        let push : IsMiddle p base middle k = record { rule = r; there = there; callee = says.callee; waits = says.waits; right = says.right; state = refl } in
        let here = at_head is in
        let goal = arrow middle says.waits q in
        let left = weaker (runs (head_to r q)) (runs goal) (λ a run. leave_run valid laws edges base high items k r there push q a run) xs here.each in
        let P : List (List ℕ) → Type 0 = AreRuns s value runs goal t.weight in
        let Q : List (List ℕ) → Type 0 = λ zs. AreRuns s value runs goal t.weight (parts_runs Post (rule_runs None) xs zs) in
        by_rule PostLeave _ says.is None refl _ refl refl (subst Q (sym only) (subst P (sym (then_empty xs)) (record { each = left; weight = here.weight })))

    by_kind : (kind : JobKind) → Draws kind
    by_kind PreStep h is only = cc
    by_kind PrePushControl h is only = cc
    by_kind PrePushOther h is only = cc
    by_kind PostGlue h is only = cc
    by_kind PostStep h is only = step_is h is only
    by_kind PostPopMiddle h is only = return_is h is only
    by_kind PostPopOther h is only = pop_is h is only
    by_kind PostEnter h is only = enter_is h is only
    by_kind PostLeave h is only = leave_is h is only

  glue_is : (t u : Entry S W Map) → are_glued t.place u.place ≡ true → (xs ys : List (List ℕ)) → Sound (glue_job t u) xs ys
  glue_is t u test xs ys is more =
      let q = t.place.from in
      let to = t.place.to in
      let from = u.place.from in
      let parts = and_parts (reads_symbol t.place.label) (same_label u.place.label Empty && nat_eq u.place.to q) test in
      let meets = and_parts (same_label u.place.label Empty) (nat_eq u.place.to q) parts.1 in
      let reads = symbol_of t.place.label parts.0 in
      let g = reads.0 in
      let deep : t.place ≡ arrow q g to = ap (λ l. let z : Place = record { from = q; label = l; to = to } in z) reads.1 in
      let empty : u.place ≡ skip from q = ap₂ (λ l n. let z : Place = record { from = from; label = l; to = n } in z) (empty_is u.place.label meets.0) (eqb-true u.place.to q meets.1) in
      let goal : glued t.place u.place ≡ arrow from g to = ap (λ l. let z : Place = record { from = from; label = l; to = to } in z) reads.1 in
      let P : Place → Type 0 = λ x. AreRuns s value runs x t.weight xs in
      let P' : Place → Type 0 = λ x. AreRuns s value runs x u.weight ys in
      let high' : AreRuns s value runs (arrow q g to) t.weight xs = subst P deep is in
      let low : AreRuns s value runs (skip from q) u.weight ys = subst P' empty more in
      let same : List ℕ → List ℕ = λ z. z in
      let each = λ (b a : List ℕ) (rb : runs (arrow q g to) b) (ra : runs (skip from q) a). glue_run valid laws edges base high items from q g to a b ra rb in
      let all : AllByRecursion (runs (arrow from g to)) (map same (concatenations xs ys)) =
      all_pairs (runs (arrow from g to)) same (runs (arrow q g to)) (runs (skip from q)) (λ b a rb ra. (each b a rb ra).0) xs ys high'.each low.each in
      let weight = ap₂ s.extend high'.weight low.weight
      ∙ sym (bilinear laws value fv s.extend (λ b fb. linear_extended laws b fb) (λ a fa. linear_extend laws a fa) same (runs (arrow q g to)) (runs (skip from q)) (λ b a rb ra. (each b a rb ra).1) xs ys high'.each low.each) in
      let Q : List (List ℕ) → Type 0 = AreRuns s value runs (arrow from g to) (s.extend t.weight u.weight) in
      let R : Place → Type 0 = λ x. AreRuns s value runs x (s.extend t.weight u.weight) (concatenations xs ys) in
      let T : List (List ℕ) → Type 0 = λ zs. AreRuns s value runs (glued t.place u.place) (s.extend t.weight u.weight) (concatenations xs zs) in
      subst T (sym (then_empty ys)) (subst R (sym goal) (subst Q (map-id (concatenations xs ys)) (record { each = all; weight = weight })))

  -- the law on runs, for the forward table
  pub post_sound : (j : Job S W Map) (xs ys : List (List ℕ)) → IsTrue (post_rows base p (row_of j)) → Sound j xs ys
  post_sound j xs ys row =
      let P : Job S W Map → Type 0 = λ i. Sound i xs ys in
      elim (row_says base p j row) [
        | inl is ↦ subst P (sym is.is) (by_kind is.number is.by is.there is.input is.place is.makes xs ys is.kind is.made)
        | inr is ↦ subst P (sym is.is) (glue_is is.deep is.empty is.glues xs ys)
      ]

  -- the empty run is a run of an opening edge
  pub post_opens : (x : Place) → IsIn x edges → runs x []
  post_opens x edge = elim (cases_lt x.from p.controls) [
    | inr item ↦ inr (inl (record { item = item; last = items.first x edge; edge = edge; empty = refl }))
    | inl control ↦
        let reads = items.symbols x edge in
        let g = reads.0 in
        let same : x ≡ arrow x.from g x.to = ap (λ l. let z : Place = record { from = x.from; label = l; to = x.to } in z) reads.1 in
        let P : Place → Type 0 = λ z. IsIn z edges in
        let Q : Place → Type 0 = λ z. runs z [] in
        subst Q (sym same) (inl (
          control,
          inl (record {
            item = items.items x edge;
            last = items.last x edge;
            from = at_stack x.from (g ∷ []);
            low = control;
            reads = (x.to, subst P same edge, refl);
            goes = refl;
          }),
        ))
  ]
