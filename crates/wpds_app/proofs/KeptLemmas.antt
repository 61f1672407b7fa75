-- Lines that are kept for later queries.
use Rattle.std.proofs.Common.{◌≡◌, inl, inr, ℕ, ◌+◌, zero, suc, ◌<◌, List, [], ◌∷◌, ◌++◌, length, get_or, set, take, refl, sym, ap, ◌∙◌, subst, arith}
use Rattle.std.specs.Prelude.{◌⊎◌, All, Option, Some, None, slice_get}
use Rattle.std.proofs.lemmas.List.{take_more, length-take-le}
use Rattle.std.proofs.lemmas.Option.{slice_get_cases, slice_get_read, get_or_from_slice_get}
use Rattle.document_forms.specs.Documents.{Document}
use Rattle.document_forms.specs.declared.document.QueryLine.{QueryLine}
use Rattle.document_systems.specs.Kinds.{Kind}
use Rattle.report_text.specs.declared.options.Options.{Options}
use Rattle.report_text.specs.Reports.{ByQuery}
use Rattle.wpds_app.specs.Reports.{TellsQuery}
use Rattle.wpds_app.specs.private.Kept.{TellsAt, AreKept}
use Rattle.report_text.proofs.CallerLemmas.{one_more}

-- what stands at a place after a change of one place
changed : {X : Type 0} (xs : List X) (i k : ℕ) (y z : X) → slice_get (set xs i y) k ≡ Some z → ((k ≡ i) × (z ≡ y)) ⊎ (slice_get xs k ≡ Some z)
changed [] i k y z is = cc
changed (x ∷ xs) zero zero y z is = let same : y ≡ z = cc in inl (refl, sym same)
changed (x ∷ xs) zero (suc k) y z is = inr is
changed (x ∷ xs) (suc i) zero y z is = inr is
changed (x ∷ xs) (suc i) (suc k) y z is = elim (changed xs i k y z is) [
  | inl both ↦ inl (ap suc both.0, both.1)
  | inr old ↦ inr old
]

module _ {S W Map : Type 0} (kind : Kind S W Map) (options : Options) (semiring : S) (d : Document) where
  abbrev Kept : List (Option (List ℕ)) → Type 0
  Kept kept = AreKept kind options semiring d kept

  abbrev Tells : ℕ → List ℕ → Type 0
  Tells k lines = TellsAt kind options semiring d k lines

  -- the lines of the query that stands at a place
  pub told_at : (k : ℕ) (q : QueryLine) (lines : List ℕ) → q ≡ get_or d.queries k q → TellsQuery kind options semiring d (k + 1) q lines → Tells k lines
  told_at k q lines is told r there =
      let same : q ≡ r = is ∙ get_or_from_slice_get d.queries k r q there in
      subst (λ x. TellsQuery kind options semiring d (k + 1) x lines) same told

  -- lines that are kept
  pub kept_at : (kept : List (Option (List ℕ))) (k : ℕ) (o : Option (List ℕ)) (lines : List ℕ) → Kept kept → k < length kept → o ≡ get_or kept k o → o ≡ Some lines → Tells k lines
  kept_at kept k o lines are within is some =
      are k lines (slice_get_read kept (length kept) k o refl within is ∙ ap Some some)

  pub kept_more : (kept : List (Option (List ℕ))) (i : ℕ) (lines : List ℕ) → Kept kept → Tells i lines → Kept (set kept i (Some lines))
  kept_more kept i lines are tells k other is = elim (changed kept i k (Some lines) (Some other) is) [
    | inl both ↦ let same : other ≡ lines = (let e : Some other ≡ Some lines = both.1 in cc) in subst (λ j. Tells j other) (sym both.0) (subst (Tells i) (sym same) tells)
    | inr old ↦ are k other old
  ]

  pub kept_less : (kept : List (Option (List ℕ))) (i : ℕ) → Kept kept → Kept (set kept i None)
  kept_less kept i are k other is = elim (changed kept i k None (Some other) is) [
    | inl both ↦ absurd (let e : Some other ≡ None = both.1 in cc)
    | inr old ↦ are k other old
  ]

  pub nothing_kept : (kept : List (Option (List ℕ))) → All (λ lines. lines ≡ None) kept → Kept kept
  nothing_kept kept none k lines is = elim ((slice_get_cases kept k).1) [
    | inl there ↦
        let nothing : get_or kept k there.0 ≡ None = none k there.0 there.1 in
        let same : Some (Some lines) ≡ Some there.0 = sym is ∙ there.2 in
        let read : there.0 ≡ None = sym there.3 ∙ nothing in
        absurd (let e : Some (Some lines) ≡ Some None = same ∙ ap Some read in cc)
    | inr past ↦ absurd (let e : Some (Some lines) ≡ None = sym is ∙ past.1 in cc)
  ]

  -- ---- the report with a query more

  abbrev Told : ℕ → QueryLine → List ℕ → Type 0
  Told i q text = TellsQuery kind options semiring d i q text

  pub one_query_more : (place : ℕ) (text : List ℕ) (lines : List ℕ) → place < length d.queries → ByQuery Told 1 (take place d.queries) text → Tells place lines
      → ByQuery Told 1 (take (place + 1) d.queries) (text ++ lines)
  one_query_more place text lines within is tells = elim ((slice_get_cases d.queries place).1) [
    | inl there ↦
        let q = there.0 in
        let more : take (place + 1) d.queries ≡ take place d.queries ++ q ∷ [] = take_more d.queries place q within ∙ ap (λ x. take place d.queries ++ x ∷ []) there.3 in
        let count : place + 1 ≡ 1 + length (take place d.queries) = omega (arith, length-take-le place d.queries (omega (arith, within))) in
        let told = subst (λ k. Told k q lines) count (tells q there.2) in
        subst (λ qs. ByQuery Told 1 qs (text ++ lines)) (sym more) (one_more Told 1 (take place d.queries) text q lines is told)
    | inr past ↦ absurd (let low = past.0 in omega (arith, low, within))
  ]
