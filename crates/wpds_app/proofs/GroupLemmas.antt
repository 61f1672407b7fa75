-- Queries that are answered together.
use Rattle.std.proofs.Common.{◌≡◌, inl, inr, ℕ, ◌+◌, ◌<◌, ◌≤◌, List, [], ◌∷◌, ◌++◌, length, Some, refl, sym, ap, ◌∙◌, subst, arith}
use Rattle.std.specs.Prelude.{All, Result, Ok, Err, IfOk, slice_get}
use Rattle.std.proofs.lemmas.List.{length-append}
use Rattle.std.proofs.lemmas.List.Elements.{All-append, All-cons, All-nil}
use Rattle.std.proofs.lemmas.Option.{slice_get_cases, slice_get_within, get_or_from_slice_get}
use Rattle.wpds_base.specs.Limits.{most_queries}
use Rattle.semiring_laws.specs.Semiring.{Operations}
use Rattle.config_patterns.specs.Membership.{PatternValue}
use Rattle.pattern_openings.specs.PatternOpenings.{IsOver}
use Rattle.pushdown_rules.specs.Pushdown.{Pushdown}
use Rattle.document_forms.specs.Documents.{Document}
use Rattle.document_forms.specs.declared.document.QueryLine.{QueryLine}
use Rattle.document_systems.specs.Kinds.{Kind}
use Rattle.document_systems.specs.Systems.{system_of, side_of}
use Rattle.path_sum.specs.Answers.{IsValueOf}
use Rattle.query_answers.specs.Answering.{AreValues, IsAnswer}
use Rattle.query_answers.proofs.CallerLemmas.{at_place}
use Rattle.report_text.specs.Listings.{query_line}
use Rattle.report_text.specs.Reports.{IsBrief}
use Rattle.report_text.specs.declared.options.Options.{Options}
use Rattle.wpds_app.specs.Reports.{IsQueryText}
use Rattle.wpds_app.specs.declared.together.Group.{Group}
use Rattle.wpds_app.specs.private.Groups.{EndsAt, IsGroup}
use Rattle.wpds_app.specs.private.Kept.{TellsAt}
use Rattle.wpds_app.proofs.KeptLemmas.{told_at}
use Rattle.wpds_app.proofs.ReportingLemmas.{line_told}

-- the first stays the first
still_first : (xs : List ℕ) (x y : ℕ) → slice_get xs 0 ≡ Some x → slice_get (xs ++ y ∷ []) 0 ≡ Some x
still_first [] x y is = cc
still_first (z ∷ xs) x y is = is

module _ (d : Document) (first : ℕ) where
  abbrev Over : PatternValue → Type 0
  Over = IsOver (length d.controls) (length d.symbols)

  -- what holds of each holds of one more
  each_more : (places : List ℕ) (ends : List PatternValue) (place : ℕ) (end : PatternValue) → length places ≡ length ends
      → ((j k : ℕ) (x : PatternValue) → slice_get places j ≡ Some k → slice_get ends j ≡ Some x → EndsAt d first k x) → EndsAt d first place end
      → (j k : ℕ) (x : PatternValue) → slice_get (places ++ place ∷ []) j ≡ Some k → slice_get (ends ++ end ∷ []) j ≡ Some x → EndsAt d first k x
  each_more places ends place end count each one j k x at_place_j at_end_j =
      elim (at_place places place k j at_place_j) [
        | inl new ↦ elim (at_place ends end x j at_end_j) [
          | inl also ↦ subst (λ y. EndsAt d first k y) (sym also.1) (subst (λ y. EndsAt d first y end) (sym new.1) one)
          | inr old ↦ absurd (let within = slice_get_within ends j x old in let at = new.0 in omega (arith, within, at, count))
        ]
        | inr old ↦ elim (at_place ends end x j at_end_j) [
          | inl also ↦ absurd (let within = slice_get_within places j k old in let at = also.0 in omega (arith, within, at, count))
          | inr both ↦ each j k x old both
        ]
      ]

  pub group_alone : (g : Group) (end : PatternValue) → g.places.items ≡ first ∷ [] → g.ends.items ≡ end ∷ [] → Over end → EndsAt d first first end → IsGroup d first g
  group_alone g end places ends over one = record {
    count = ap length places ∙ sym (ap length ends);
    few = subst (λ xs. length xs ≤ most_queries) (sym ends) (omega arith);
    begins = ap (λ xs. slice_get xs 0) places;
    over = subst (All Over) (sym ends) (All-cons Over end [] over (All-nil Over));
    each = λ j k x at_k at_x. each_more [] [] first end refl (λ i l y a b. cc) one j k x (subst (λ xs. slice_get xs j ≡ Some k) places at_k) (subst (λ xs. slice_get xs j ≡ Some x) ends at_x);
  }

  pub group_more : (g h : Group) (place : ℕ) (end : PatternValue) → IsGroup d first g → length g.ends.items < most_queries
      → h.places.items ≡ g.places.items ++ place ∷ [] → h.ends.items ≡ g.ends.items ++ end ∷ [] → Over end → EndsAt d first place end → IsGroup d first h
  group_more g h place end is room places ends over one =
      let long_places : length h.places.items ≡ length g.places.items + 1 = ap length places ∙ length-append g.places.items (place ∷ []) in
      let long_ends : length h.ends.items ≡ length g.ends.items + 1 = ap length ends ∙ length-append g.ends.items (end ∷ []) in
      record {
        count = omega (arith, long_places, long_ends, is.count);
        few = omega (arith, long_ends, room);
        begins = subst (λ xs. slice_get xs 0 ≡ Some first) (sym places) (still_first g.places.items first place is.begins);
        over = subst (All Over) (sym ends) (All-append Over g.ends.items (end ∷ []) is.over (All-cons Over end [] over (All-nil Over)));
        each = λ j k x at_k at_x. each_more g.places.items g.ends.items place end is.count is.each one j k x
            (subst (λ xs. slice_get xs j ≡ Some k) places at_k) (subst (λ xs. slice_get xs j ≡ Some x) ends at_x);
      }

  -- the line of a value that is that of an answer to a query of the group tells the query
  pub line_tells : {S W Map E : Type 0} (kind : Kind S W Map) (options : Options) (p : Pushdown S W Map) (place : ℕ) (end : PatternValue) (v : W) (r : Result (List ℕ) E) (kept : S)
      → p ≡ system_of kind p.semiring d → IsBrief options → (e : EndsAt d first place end)
      → IsValueOf (IsAnswer kind.operations p options.by options.workers (side_of d e.begins.from) end) v → kept ≡ p.semiring
      → IfOk r (λ t. t ≡ query_line (place + 1) (kind.written kept d.items v)) → IfOk r (TellsAt kind options p.semiring d place)
  line_tells kind options p place end v (Err e) kept system brief at value same line = tt
  line_tells {S} {W} {Map} {E} kind options p place end v (Ok t) kept system brief at value same line =
      let q = at.query in
      let from = side_of d q.from in
      let there = subst (λ x. IsValueOf (IsAnswer kind.operations p options.by options.workers (side_of d at.begins.from) x) v) at.ends value in
      let here = subst (λ x. IsValueOf (IsAnswer kind.operations p options.by options.workers (side_of d x) (side_of d q.to)) v) (sym at.alike) there in
      let r : Result (List ℕ) E = Ok t in
      let told = line_told kind options p d.items (place + 1) from (side_of d q.to) v r kept brief here same line in
      let tells = subst (λ s. IsQueryText kind options s d.items (place + 1) from (side_of d q.to) t) system told in
      told_at kind options p.semiring d place q t (sym (get_or_from_slice_get d.queries place q q at.at_place)) tells

  -- what stands with a place of the group
  pub end_of_place : (g : Group) (j place : ℕ) → IsGroup d first g → slice_get g.places.items j ≡ Some place
      → (end : PatternValue) × (slice_get g.ends.items j ≡ Some end) × EndsAt d first place end
  end_of_place g j place is at = elim ((slice_get_cases g.ends.items j).1) [
    | inl there ↦ (there.0, there.2, is.each j place there.0 at there.2)
    | inr past ↦ absurd (let within = slice_get_within g.places.items j place at in let low = past.0 in omega (arith, within, low, is.count))
  ]

  pub place_within : (g : Group) (j place : ℕ) → IsGroup d first g → slice_get g.places.items j ≡ Some place → place < length d.queries
  place_within g j place is at =
      let e = (end_of_place g j place is at).2 in
      slice_get_within d.queries place e.query e.at_place

  -- so does the line of the value at the same place as a query's, of the values of the group
  pub group_line : {S W Map E : Type 0} (kind : Kind S W Map) (operations : S → Operations W Map) (options : Options) (p : Pushdown S W Map) (g : Group) (from : PatternValue) (begins : QueryLine)
      (values : List W) (j place : ℕ) (v : W) (r : Result (List ℕ) E) (kept : S) → kind.operations ≡ operations → p ≡ system_of kind p.semiring d → IsBrief options
      → IsGroup d first g → AreValues operations p options.by options.workers from g.ends.items values → slice_get d.queries first ≡ Some begins → from ≡ side_of d begins.from
      → slice_get g.places.items j ≡ Some place → slice_get values j ≡ Some v → kept ≡ p.semiring
      → IfOk r (λ t. t ≡ query_line (place + 1) (kind.written kept d.items v)) → IfOk r (TellsAt kind options p.semiring d place)
  group_line kind operations options p g from begins values j place v r kept computes system brief is are at_first from_is at value_at same line =
      let found = end_of_place g j place is at in
      let end = found.0 in
      let e = found.2 in
      let both : Some e.begins ≡ Some begins = sym e.at_first ∙ at_first in
      let begin : e.begins ≡ begins = cc in
      let value = are.each j end v found.1 value_at in
      let over = subst (λ o. IsValueOf (IsAnswer o p options.by options.workers from end) v) (sym computes) value in
      let here = subst (λ x. IsValueOf (IsAnswer kind.operations p options.by options.workers x end) v) (from_is ∙ ap (λ q. side_of d q.from) (sym begin)) over in
      line_tells kind options p place end v r kept system brief e here same line
