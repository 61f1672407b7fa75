-- The jobs of a transition are the consequences that it is an input of.
use Rattle.std.proofs.Common.{◌≡◌, ◌⊎◌, inl, inr, ℕ, true, List, ◌++◌, refl, sym, ap, ◌∙◌, subst}
use Rattle.std.specs.Prelude.{Option, None, Some, slice_get}
use Rattle.std.specs.List.{flat_map}
use Rattle.std.proofs.lemmas.Option.{same_Some}
use Rattle.semiring_laws.specs.Semiring.{Operations}
use Rattle.weighted_automata.specs.declared.place.Label.TheVariants.{Symbol}
use Rattle.weighted_automata.specs.declared.transitions.Entry.{Entry}
use Rattle.weighted_automata.specs.Entries.{is_from, Present, HasDistinctPlaces}
use Rattle.pushdown_rules.specs.declared.rule.Rule.{Rule}
use Rattle.pushdown_rules.specs.Pushdown.{Pushdown}
use Rattle.wpds_base.specs.Lists.{IsIn}
use Rattle.saturation_laws.specs.declared.job.JobKind.{JobKind}
use Rattle.saturation_laws.specs.declared.job.JobKind.TheVariants.{PreStep, PrePushControl, PrePushOther, PostStep, PostPopMiddle, PostPopOther, PostEnter, PostLeave, PostGlue}
use Rattle.saturation_laws.specs.declared.job.Job.{Job}
use Rattle.saturation_laws.specs.Jobs.{HasInput}
use Rattle.saturation_laws.specs.Directions.{IsConsequence}
use Rattle.saturation_laws.proofs.CallerLemmas.{in_left, in_append, in_right, entry_in, in_flat_map, from_flat_map, in_present}
use Rattle.direction_parts.specs.Passes.{only_if}
use Rattle.direction_parts.proofs.CallerLemmas.{in_only, from_only, in_rules, from_rules, from_is, is_from_there}
use Rattle.poststar_laws.specs.declared.drawn.Drawn.{Drawn}
use Rattle.poststar_laws.specs.Rows.{are_glued, head_to, draws}
use Rattle.poststar_laws.specs.Jobs.{drawn_job, jobs_drawn, glue_job, glue_jobs, of_kind, kind_jobs, post_jobs, post_tables}
use Rattle.poststar_laws.proofs.RowTestLemmas.{IsRuleJob, IsGlueJob, row_says, row_test, glue_test}

module _ {S W Map : Type 0} (s : Operations W Map) (base : ℕ) (p : Pushdown S W Map) (ts : List (Entry S W Map)) (t : Entry S W Map) (distinct : HasDistinctPlaces ts) (here : Present ts t) where
  -- a consequence of which the transition is an input
  abbrev IsDrawn : Job S W Map → Type 0
  IsDrawn j = IsConsequence (post_tables base p s) ts j × HasInput j t

  rule_drawn : (kind : JobKind) (k : ℕ) (r : Rule S W Map) → slice_get p.rules k ≡ Some r → (d : Drawn) → draws base p kind k r t.place.to ≡ Some d → is_from r.control (Symbol r.symbol) t ≡ true
      → IsDrawn (drawn_job kind k d t)
  rule_drawn kind k r there d e from = (
    record {
      row = row_test base p kind k r there t (from_is r.control r.symbol t from) d e;
      inputs = λ u has. elim has [ inl h ↦ let P : Entry S W Map → Type 0 = Present ts in subst P (same_Some t u h) here | inr h ↦ cc ];
    },
    inl refl,
  )

  from_drawn : (kind : JobKind) (k : ℕ) (r : Rule S W Map) → slice_get p.rules k ≡ Some r → (j : Job S W Map) (o : Option Drawn) → draws base p kind k r t.place.to ≡ o → IsIn j (jobs_drawn kind k r t o) → IsDrawn j
  from_drawn kind k r there j None e h = absurd h
  from_drawn kind k r there j (Some d) e h =
      let is = from_only (is_from r.control (Symbol r.symbol) t) (drawn_job kind k d t) j h in
      let P : Job S W Map → Type 0 = IsDrawn in
      subst P is.1 (rule_drawn kind k r there d e is.0)

  from_kind : (kind : JobKind) (j : Job S W Map) → IsIn j (kind_jobs base p kind t) → IsDrawn j
  from_kind kind j h =
      let one = from_rules (of_kind base p kind t) p.rules j h in
      from_drawn kind one.number one.by one.there j (draws base p kind one.number one.by t.place.to) refl one.is

  glue_drawn : (a b : Entry S W Map) → Present ts a → Present ts b → (a ≡ t) ⊎ (b ≡ t) → are_glued a.place b.place ≡ true → IsDrawn (glue_job a b)
  glue_drawn a b ia ib one glues = (
    record {
      row = glue_test base p a b glues;
      inputs = λ u has. let P : Entry S W Map → Type 0 = Present ts in elim has [ inl h ↦ subst P (same_Some a u h) ia | inr h ↦ subst P (same_Some b u h) ib ];
    },
    elim one [ inl e ↦ inl (ap Some e) | inr e ↦ inr (ap Some e) ],
  )

  from_glue : (j : Job S W Map) → IsIn j (flat_map (glue_jobs t) ts) → IsDrawn j
  from_glue j h =
      let one = from_flat_map (glue_jobs t) j ts h in
      let u = one.before in
      let iu = in_present ts u distinct one.there in
      let P : Job S W Map → Type 0 = IsDrawn in
      elim (in_append j (only_if (are_glued t.place u.place) (glue_job t u)) (only_if (are_glued u.place t.place) (glue_job u t)) one.is) [
        | inl first ↦ let is = from_only (are_glued t.place u.place) (glue_job t u) j first in subst P is.1 (glue_drawn t u here iu (inl refl) is.0)
        | inr second ↦ let is = from_only (are_glued u.place t.place) (glue_job u t) j second in subst P is.1 (glue_drawn u t iu here (inr refl) is.0)
      ]

  abbrev of : JobKind → List (Job S W Map)
  of kind = kind_jobs base p kind t

  abbrev glues : List (Job S W Map)
  glues = flat_map (glue_jobs t) ts

  -- what is listed is a consequence that the transition is an input of
  pub jobs_are : (j : Job S W Map) → IsIn j (post_jobs base p ts t) → IsDrawn j
  jobs_are j listed = elim (in_append j (of PostStep) _ listed) [
    | inl h ↦ from_kind PostStep j h
    | inr more ↦ elim (in_append j (of PostPopMiddle) _ more) [
      | inl h ↦ from_kind PostPopMiddle j h
      | inr more ↦ elim (in_append j (of PostPopOther) _ more) [
        | inl h ↦ from_kind PostPopOther j h
        | inr more ↦ elim (in_append j (of PostEnter) _ more) [
          | inl h ↦ from_kind PostEnter j h
          | inr more ↦ elim (in_append j (of PostLeave) glues more) [
            | inl h ↦ from_kind PostLeave j h
            | inr h ↦ from_glue j h
          ]
        ]
      ]
    ]
  ]

  abbrev Listed : Job S W Map → Type 0
  Listed j = IsIn j (post_jobs base p ts t)

  from_leave : (j : Job S W Map) → IsIn j (of PostLeave ++ glues) → Listed j
  from_leave j h =
      in_right j (of PostStep) _ (in_right j (of PostPopMiddle) _ (in_right j (of PostPopOther) _ (in_right j (of PostEnter) _ h)))

  -- by kind
  listed_of : (kind : JobKind) (k : ℕ) (r : Rule S W Map) (d : Drawn) → draws base p kind k r t.place.to ≡ Some d → (j : Job S W Map) → IsIn j (of kind) → Listed j
  listed_of PreStep k r d e j h = cc
  listed_of PrePushControl k r d e j h = cc
  listed_of PrePushOther k r d e j h = cc
  listed_of PostGlue k r d e j h = cc
  listed_of PostStep k r d e j h = in_left j (of PostStep) _ h
  listed_of PostPopMiddle k r d e j h = in_right j (of PostStep) _ (in_left j (of PostPopMiddle) _ h)
  listed_of PostPopOther k r d e j h = in_right j (of PostStep) _ (in_right j (of PostPopMiddle) _ (in_left j (of PostPopOther) _ h))
  listed_of PostEnter k r d e j h = in_right j (of PostStep) _ (in_right j (of PostPopMiddle) _ (in_right j (of PostPopOther) _ (in_left j (of PostEnter) _ h)))
  listed_of PostLeave k r d e j h = from_leave j (in_left j (of PostLeave) glues h)

  rule_listed : (j : Job S W Map) → IsRuleJob base p j → HasInput j t → Listed j
  rule_listed j is has =
      let kind = is.kind in
      let k = is.number in
      let r = is.by in
      let d = is.makes in
      let P : Job S W Map → Type 0 = λ z. HasInput z t in
      let same : is.input ≡ t = elim (subst P is.is has) [ inl e ↦ same_Some is.input t e | inr e ↦ cc ] in
      let at : t.place ≡ head_to r t.place.to = sym (ap (λ (u : Entry S W Map). u.place) same) ∙ is.place ∙ ap (λ (u : Entry S W Map). head_to r u.place.to) same in
      let made : draws base p kind k r t.place.to ≡ Some d = sym (ap (λ (u : Entry S W Map). draws base p kind k r u.place.to) same) ∙ is.made in
      let job = drawn_job kind k d t in
      let test = is_from_there r.control r.symbol t.place.to t at in
      let Q : Option Drawn → Type 0 = λ o. IsIn job (jobs_drawn kind k r t o) in
      let one = in_rules (of_kind base p kind t) k p.rules r job is.there (subst Q (sym made) (in_only (is_from r.control (Symbol r.symbol) t) job test)) in
      let R : Job S W Map → Type 0 = Listed in
      subst R (ap (drawn_job kind k d) (sym same) ∙ sym is.is) (listed_of kind k r d made job one)

  module _ (a b : Entry S W Map) (ia : Present ts a) (ib : Present ts b) (meets : are_glued a.place b.place ≡ true) where
    abbrev job : Job S W Map
    job = glue_job a b

    -- the pair is found from the transition, whichever of the two it is
    pair_listed : (a ≡ t) ⊎ (b ≡ t) → (u : Entry S W Map) × Present ts u × IsIn job (glue_jobs t u)
    pair_listed (inl same) =
        let P : Entry S W Map → Type 0 = λ z. IsIn job (glue_jobs z b) in
        (b, ib, subst P same (in_left job (only_if (are_glued a.place b.place) job) _ (in_only (are_glued a.place b.place) job meets)))
    pair_listed (inr same) =
        let P : Entry S W Map → Type 0 = λ z. IsIn job (glue_jobs z a) in
        (a, ia, subst P same (in_right job (only_if (are_glued b.place a.place) (glue_job b a)) _ (in_only (are_glued a.place b.place) job meets)))

    glued_listed : (a ≡ t) ⊎ (b ≡ t) → Listed job
    glued_listed one =
        let pair = pair_listed one in
        from_leave job (in_right job (of PostLeave) glues (in_flat_map (glue_jobs t) job pair.0 ts (entry_in pair.0.place ts pair.0 pair.1) pair.2))

  glue_listed : (j : Job S W Map) → IsGlueJob j → ((u : Entry S W Map) → HasInput j u → Present ts u) → HasInput j t → Listed j
  glue_listed j is inputs has =
      let P : Job S W Map → Type 0 = λ z. HasInput z t in
      let R : Job S W Map → Type 0 = Listed in
      let one : (is.deep ≡ t) ⊎ (is.empty ≡ t) = elim (subst P is.is has) [ inl e ↦ inl (same_Some is.deep t e) | inr e ↦ inr (same_Some is.empty t e) ] in
      let first : HasInput j is.deep = inl (ap (λ (z : Job S W Map). z.first) is.is) in
      let second : HasInput j is.empty = inr (ap (λ (z : Job S W Map). z.second) is.is) in
      subst R (sym is.is) (glued_listed is.deep is.empty (inputs is.deep first) (inputs is.empty second) is.glues one)

  -- each consequence that the transition is an input of is listed
  pub jobs_all : (j : Job S W Map) → IsConsequence (post_tables base p s) ts j → HasInput j t → Listed j
  jobs_all j drawn has = elim (row_says base p j drawn.row) [
    | inl is ↦ rule_listed j is has
    | inr is ↦ glue_listed j is drawn.inputs has
  ]
