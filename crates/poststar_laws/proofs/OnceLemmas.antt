-- Each job of a transition is listed once.
use Rattle.std.proofs.Common.{◌≡◌, ◌⊎◌, inl, inr, ℕ, ◌+◌, ◌≤◌, true, List, ◌++◌, sym, ap, ◌∙◌, arith}
use Rattle.std.specs.Prelude.{Option, None, Some, ◌&&◌, nat_eq}
use Rattle.std.specs.List.{flat_map}
use Rattle.std.proofs.lemmas.Bool.{and_parts}
use Rattle.std.proofs.lemmas.Option.{same_Some}
use Rattle.weighted_automata.specs.declared.place.Label.{Label}
use Rattle.weighted_automata.specs.declared.place.Label.TheVariants.{Symbol, Empty}
use Rattle.weighted_automata.specs.declared.transitions.Entry.{Entry}
use Rattle.weighted_automata.specs.Places.{same_label}
use Rattle.weighted_automata.specs.Entries.{is_from, HasDistinctPlaces}
use Rattle.pushdown_rules.specs.declared.rule.Rule.{Rule}
use Rattle.pushdown_rules.specs.Pushdown.{Pushdown}
use Rattle.saturation_laws.specs.declared.job.JobKind.{JobKind}
use Rattle.saturation_laws.specs.declared.job.JobKind.TheVariants.{PostStep, PostPopMiddle, PostPopOther, PostEnter, PostLeave, PostGlue}
use Rattle.saturation_laws.specs.declared.job.Job.{Job}
use Rattle.wpds_base.specs.Lists.{IsIn, IsOnce}
use Rattle.saturation_laws.proofs.CallerLemmas.{in_append, from_flat_map}
use Rattle.direction_parts.specs.Places.{reads_symbol}
use Rattle.direction_parts.specs.Passes.{only_if}
use Rattle.direction_parts.proofs.CallerLemmas.{from_only, once_append, once_only, once_flat_map, once_by_rule, all_rules, distinct_once}
use Rattle.poststar_laws.specs.declared.drawn.Drawn.{Drawn}
use Rattle.poststar_laws.specs.Rows.{are_glued, draws}
use Rattle.poststar_laws.specs.Jobs.{drawn_job, jobs_drawn, glue_job, glue_jobs, of_kind, kind_jobs, post_jobs}

-- the order of the kinds
abbrev order : JobKind → ℕ
order kind = elim kind [
  | PostStep ↦ 1
  | PostPopMiddle ↦ 2
  | PostPopOther ↦ 3
  | PostEnter ↦ 4
  | PostLeave ↦ 5
  | PostGlue ↦ 6
  | _ ↦ 0
]

no_label_is_both : (l : Label) → reads_symbol l ≡ true → same_label l Empty ≡ true → ⊥
no_label_is_both (Symbol g) reads empty = cc
no_label_is_both Empty reads empty = cc

module _ {S W Map : Type 0} where
  -- the jobs come from this kind on
  abbrev IsFrom : ℕ → List (Job S W Map) → Type 0
  IsFrom n js = (j : Job S W Map) → IsIn j js → n ≤ order j.kind

  from_append : (n : ℕ) (js is : List (Job S W Map)) → IsFrom n js → IsFrom n is → IsFrom n (js ++ is)
  from_append n js is first rest j h = elim (in_append j js is h) [ inl a ↦ first j a | inr b ↦ rest j b ]

  later : (n m : ℕ) (js : List (Job S W Map)) → n ≤ m → IsFrom m js → IsFrom n js
  later n m js less all j h = let here = all j h in omega (arith, less, here)

  -- those of one kind, and then later ones
  once_then : (kind : JobKind) (js is : List (Job S W Map)) → ((j : Job S W Map) → IsIn j js → j.kind ≡ kind) → IsOnce js → IsFrom (order kind + 1) is → IsOnce is → IsOnce (js ++ is)
  once_then kind js is all once from rest = once_append js is once rest (λ j a b.
      let here : order j.kind ≡ order kind = ap order (all j a) in let past = from j b in absurd (omega (arith, here, past)))

  of_order : (kind : JobKind) (js : List (Job S W Map)) → ((j : Job S W Map) → IsIn j js → j.kind ≡ kind) → IsFrom (order kind) js
  of_order kind js all j h = let here : order j.kind ≡ order kind = ap order (all j h) in omega (arith, here)

  -- what is drawn is of the rule and the kind
  drawn_are : (kind : JobKind) (k : ℕ) (r : Rule S W Map) (t : Entry S W Map) (o : Option Drawn) (j : Job S W Map) → IsIn j (jobs_drawn kind k r t o) → (j.rule ≡ Some k) × (j.kind ≡ kind)
  drawn_are kind k r t None j h = absurd h
  drawn_are kind k r t (Some d) j h =
      let is = (from_only (is_from r.control (Symbol r.symbol) t) (drawn_job kind k d t) j h).1 in
      (ap (λ (z : Job S W Map). z.rule) (sym is), ap (λ (z : Job S W Map). z.kind) (sym is))

  drawn_once : (kind : JobKind) (k : ℕ) (r : Rule S W Map) (t : Entry S W Map) (o : Option Drawn) → IsOnce (jobs_drawn kind k r t o)
  drawn_once kind k r t None = tt
  drawn_once kind k r t (Some d) = once_only (is_from r.control (Symbol r.symbol) t) (drawn_job kind k d t)

  no_glue_with_itself : (t u : Entry S W Map) → t ≡ u → are_glued t.place u.place ≡ true → ⊥
  no_glue_with_itself t u same h =
      let parts = and_parts (reads_symbol t.place.label) (same_label u.place.label Empty && nat_eq u.place.to t.place.from) h in
      let meets = and_parts (same_label u.place.label Empty) (nat_eq u.place.to t.place.from) parts.1 in
      no_label_is_both t.place.label parts.0 (ap (λ (v : Entry S W Map). same_label v.place.label Empty) same ∙ meets.0)

  module _ (t : Entry S W Map) where
    -- the job is of the transition and the other one
    abbrev IsOf : Job S W Map → Entry S W Map → Type 0
    IsOf j u = ((glue_job t u ≡ j) × (are_glued t.place u.place ≡ true)) ⊎ ((glue_job u t ≡ j) × (are_glued u.place t.place ≡ true))

    first_of : (a b c d : Entry S W Map) (j : Job S W Map) → glue_job a b ≡ j → glue_job c d ≡ j → a ≡ c
    first_of a b c d j e e' = same_Some a c (ap (λ (z : Job S W Map). z.first) (e ∙ sym e'))

    second_of : (a b c d : Entry S W Map) (j : Job S W Map) → glue_job a b ≡ j → glue_job c d ≡ j → b ≡ d
    second_of a b c d j e e' = same_Some b d (ap (λ (z : Job S W Map). z.second) (e ∙ sym e'))

    one_other : (j : Job S W Map) (u v : Entry S W Map) → IsOf j u → IsOf j v → u ≡ v
    one_other j u v (inl e) (inl e') = second_of t u t v j e.0 e'.0
    one_other j u v (inr e) (inr e') = first_of u t v t j e.0 e'.0
    one_other j u v (inl e) (inr e') = absurd (no_glue_with_itself t u (sym (second_of t u v t j e.0 e'.0)) e.1)
    one_other j u v (inr e) (inl e') = absurd (no_glue_with_itself t v (second_of u t t v j e.0 e'.0) e'.1)

    pair_is : (u : Entry S W Map) (j : Job S W Map) → IsIn j (glue_jobs t u) → IsOf j u
    pair_is u j listed = elim (in_append j (only_if (are_glued t.place u.place) (glue_job t u)) (only_if (are_glued u.place t.place) (glue_job u t)) listed) [
      | inl first ↦ let is = from_only (are_glued t.place u.place) (glue_job t u) j first in inl (is.1, is.0)
      | inr second ↦ let is = from_only (are_glued u.place t.place) (glue_job u t) j second in inr (is.1, is.0)
    ]

    pair_once : (u : Entry S W Map) → IsOnce (glue_jobs t u)
    pair_once u =
        once_append (only_if (are_glued t.place u.place) (glue_job t u)) (only_if (are_glued u.place t.place) (glue_job u t))
        (once_only (are_glued t.place u.place) (glue_job t u)) (once_only (are_glued u.place t.place) (glue_job u t))
        (λ j a b.
        let first = from_only (are_glued t.place u.place) (glue_job t u) j a in
        let second = from_only (are_glued u.place t.place) (glue_job u t) j b in
        no_glue_with_itself t u (first_of t u u t j first.1 second.1) first.0)

    glue_kind : (ts : List (Entry S W Map)) (j : Job S W Map) → IsIn j (flat_map (glue_jobs t) ts) → j.kind ≡ PostGlue
    glue_kind ts j h =
        let one = from_flat_map (glue_jobs t) j ts h in
        elim (pair_is one.before j one.is) [ inl e ↦ ap (λ (z : Job S W Map). z.kind) (sym e.0) | inr e ↦ ap (λ (z : Job S W Map). z.kind) (sym e.0) ]

    glues_once : (ts : List (Entry S W Map)) → HasDistinctPlaces ts → IsOnce (flat_map (glue_jobs t) ts)
    glues_once ts distinct = once_flat_map (glue_jobs t) IsOf pair_is one_other pair_once ts (distinct_once ts distinct)

module _ {S W Map : Type 0} (base : ℕ) (p : Pushdown S W Map) (ts : List (Entry S W Map)) (t : Entry S W Map) (distinct : HasDistinctPlaces ts) where
  abbrev of : JobKind → List (Job S W Map)
  of kind = kind_jobs base p kind t

  kind_once : (kind : JobKind) → IsOnce (of kind)
  kind_once kind =
      once_by_rule (of_kind base p kind t) (λ (j : Job S W Map). j.rule) (λ k r j h. (drawn_are kind k r t (draws base p kind k r t.place.to) j h).0)
      (λ k r. drawn_once kind k r t (draws base p kind k r t.place.to)) 0 p.rules

  kind_is : (kind : JobKind) (j : Job S W Map) → IsIn j (of kind) → j.kind ≡ kind
  kind_is kind j h = all_rules (of_kind base p kind t) (λ i. i.kind ≡ kind) (λ k r i g. (drawn_are kind k r t (draws base p kind k r t.place.to) i g).1) 0 p.rules j h

  abbrev glues : List (Job S W Map)
  glues = flat_map (glue_jobs t) ts

  from_glues : IsFrom 6 glues
  from_glues = of_order PostGlue glues (glue_kind t ts)

  -- a kind's jobs, and what follows them
  add : (kind : JobKind) (js : List (Job S W Map)) → IsOnce js × IsFrom (order kind + 1) js → IsOnce (of kind ++ js) × IsFrom (order kind) (of kind ++ js)
  add kind js rest = (
    once_then kind (of kind) js (kind_is kind) (kind_once kind) rest.1 rest.0,
    from_append (order kind) (of kind) js (of_order kind (of kind) (kind_is kind)) (later (order kind) (order kind + 1) js (omega arith) rest.1),
  )

  pub jobs_once : IsOnce (post_jobs base p ts t)
  jobs_once =
      (add PostStep _ (add PostPopMiddle _ (add PostPopOther _ (add PostEnter _ (add PostLeave glues (glues_once t ts distinct, from_glues)))))).0
