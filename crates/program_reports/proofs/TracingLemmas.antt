-- The runs of an answer's listing can be traced.
use Rattle.std.proofs.Common.{◌≡◌, ◌≢◌, ◌⊎◌, inl, inr, ℕ, zero, suc, Bool, true, List, [], ◌∷◌, map, refl, ap, subst, ◌∙◌}
use Rattle.std.specs.Prelude.{Option, Some, None}
use Rattle.std.specs.List.{AllByRecursion}
use Rattle.std.proofs.lemmas.Bool.{cases_Bool}
use Rattle.semiring_laws.specs.Semiring.{Operations}
use Rattle.semiring_laws.proofs.CallerLemmas.{combination_of_zeros}
use Rattle.pushdown_rules.specs.Configuration.{Configuration}
use Rattle.pushdown_rules.specs.Pushdown.{Pushdown, IsSystem}
use Rattle.pushdown_rules.specs.Firing.{Run}
use Rattle.pushdown_rules.specs.Values.{value_of}
use Rattle.pushdown_rules.specs.Answers.{Leads, Answers}
use Rattle.pushdown_rules.proofs.CallerLemmas.{value_fits}
use Rattle.config_patterns.specs.Membership.{has_member}
use Rattle.relation_laws.specs.Building.{Parts}
use Rattle.relation_weights.specs.declared.rel_map.RelMap.{RelMap}
use Rattle.relation_weights.specs.Relations.{relation_operations}
use Rattle.relation_weights.specs.RelationLaws.{relation_laws}
use Rattle.witness_graph.specs.declared.listing.Listing.{Listing}
use Rattle.boolean_programs.specs.Programs.{Program}
use Rattle.lowering_laws.specs.Queries.{entry_pattern}
use Rattle.lowering_laws.proofs.CallerLemmas.{entry_of_member}
use Rattle.path_sum.specs.Answers.{listed_runs}
use Rattle.program_traces.specs.Traces.{FiresFromEntry}
use Rattle.program_traces.specs.Firsts.{FireFromEntry, HasFeasible}
use Rattle.program_reports.specs.private.Asked.{CanTrace}

module _ (p : Program) (system : Pushdown ℕ Parts RelMap) (valid : IsSystem relation_operations system) (to : Configuration → Bool) where
  abbrev s : Operations Parts RelMap
  s = relation_operations system.semiring

  abbrev IsLed : List ℕ → Type 0
  IsLed = Leads s system (has_member (entry_pattern p)) to

  fires : (run : List ℕ) → IsLed run → FiresFromEntry p system run
  fires run (c, d, in_entry, in_to, goes) = (d, subst (λ x. Run system x run d) (entry_of_member p c in_entry) goes)

  fire : (runs : List (List ℕ)) → AllByRecursion IsLed runs → FireFromEntry p system runs
  fire [] lead k run is = cc
  fire (x ∷ xs) lead zero run is = let same : x ≡ run = cc in subst (FiresFromEntry p system) same (fires x lead.0)
  fire (x ∷ xs) lead (suc k) run is = fire xs lead.1 k run is

  -- one of them is feasible, or the value of each is zero
  feasible_or_none : (runs : List (List ℕ)) → HasFeasible system runs ⊎ AllByRecursion (λ w. w ≡ s.zero) (map (value_of s system) runs)
  feasible_or_none [] = inr tt
  feasible_or_none (x ∷ xs) =
      let w = value_of s system x in
      let laws = relation_laws system.semiring in
      let law = laws.same_is_equal w s.zero (value_fits valid laws x) laws.fits-zero in
      elim (cases_Bool (s.same w s.zero)) [
        | inl is ↦ elim (feasible_or_none xs) [
          | inl found ↦ inl (x ∷ found.0, found.1, found.2, ap (λ l. x ∷ l) found.3, found.4)
          | inr zeros ↦ inr (law.0 is, zeros)
        ]
        | inr other ↦ inl ([], x, xs, refl, λ e. let same : s.same w s.zero ≡ true = law.1 e in cc)
      ]

  feasible : (v : Parts) (runs : List (List ℕ)) → Answers s system (has_member (entry_pattern p)) to v runs → v ≢ s.zero → HasFeasible system runs
  feasible v runs answers nonzero = elim (feasible_or_none runs) [
    | inl found ↦ found
    | inr zeros ↦ absurd (nonzero (answers.combined ∙ combination_of_zeros (relation_laws system.semiring) (map (value_of s system) runs) zeros))
  ]

  -- so the runs of an answer can be traced
  pub can_trace : (v : Parts) (listing : Option Listing) → Answers s system (has_member (entry_pattern p)) to v (listed_runs listing)
      → (v ≡ s.zero → listing ≡ None) → CanTrace p system listing
  can_trace v None answers unlisted = tt
  can_trace v (Some l) answers unlisted =
      (fire (listed_runs (Some l)) answers.lead, feasible v (listed_runs (Some l)) answers (λ zero. let none : Some l ≡ None = unlisted zero in cc))
