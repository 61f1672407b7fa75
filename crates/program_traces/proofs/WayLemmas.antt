-- One rule more along a run, with its settings.
use Rattle.std.proofs.Common.{◌≡◌, ℕ, ◌<◌, Bool, List, [], ◌∷◌, ◌++◌, length, map, append_assoc, refl, sym, ap, ◌∙◌, subst, arith}
use Rattle.std.specs.Prelude.{Option, None, Some, slice_get}
use Rattle.pushdown_rules.specs.declared.rule.Rule.{Rule}
use Rattle.pushdown_rules.specs.Configuration.{Configuration}
use Rattle.pushdown_rules.specs.Pushdown.{Pushdown}
use Rattle.pushdown_rules.specs.Firing.{next_of}
use Rattle.pushdown_rules.specs.RunValue.{Frame, Machine}
use Rattle.pushdown_rules.specs.Values.{rules_of}
use Rattle.pushdown_rules.proofs.CallerLemmas.{fired, rules_cons}
use Rattle.diagram_store.specs.Meaning.{bits_of}
use Rattle.relation_laws.specs.Building.{Parts}
use Rattle.relation_laws.specs.Relations.{leads}
use Rattle.relation_weights.specs.declared.rel_map.RelMap.{RelMap}
use Rattle.relation_weights.specs.Relations.{relation_operations}
use Rattle.setting_runs.specs.Relations.{Setting}
use Rattle.boolean_programs.specs.Programs.{Program}
use Rattle.boolean_machine.specs.Machine.{State}
use Rattle.boolean_meaning.specs.declared.state.State.{State as HeldState}
use Rattle.boolean_meaning.specs.HeldStates.{held}
use Rattle.lowering_laws.specs.States.{state_of, states_along}
use Rattle.run_settings.specs.Settings.{Along, slot_at, moments, calls_after, LeadAlong, first_of, rest_of}
use Rattle.program_traces.specs.private.Readers.{saved_after}
use Rattle.program_traces.specs.private.Ways.{states_on, IsOnWay}

abbrev saves : List (Frame Setting RelMap) → List Setting
saves gs = map (λ (f : Frame Setting RelMap). f.saved) gs

-- one setting less
abbrev pub rest_along : Along → Along
rest_along along = record { first = first_of along.later; later = rest_of along.later }

module _ (system : Pushdown ℕ Parts RelMap) where
  abbrev after : Rule ℕ Parts RelMap → List (Frame Setting RelMap) → Setting → List (Frame Setting RelMap)
  after r calls z = calls_after (relation_operations system.semiring) r r.right calls z

  saves_after : (r : Rule ℕ Parts RelMap) (word : List ℕ) (calls : List (Frame Setting RelMap)) (saved : List (List Bool)) (first : List Bool) → saves calls ≡ map bits_of saved
      → saves (calls_after (relation_operations system.semiring) r word calls (bits_of first)) ≡ map bits_of (saved_after word saved first)
  saves_after r [] [] [] first e = refl
  saves_after r [] [] (y ∷ saved) first e = cc
  saves_after r [] (g ∷ calls) [] first e = cc
  saves_after r [] (g ∷ calls) (y ∷ saved) first e = ap (λ zs. rest_of zs) e
  saves_after r (a ∷ []) calls saved first e = e
  saves_after r (a ∷ b ∷ word) calls saved first e = ap (λ zs. bits_of first ∷ zs) e

  module _ (p : Program) (k : ℕ) (rest : List ℕ) (here mid : Configuration) (next : next_of system k here ≡ Some mid) (r : Rule ℕ Parts RelMap) (there : slice_get system.rules k ≡ Some r)
      (calls : List (Frame Setting RelMap)) (first : List Bool) where
    rules : rules_of (relation_operations system.semiring) system (k ∷ rest) ≡ r ∷ rules_of (relation_operations system.semiring) system rest
    rules = rules_cons (relation_operations system.semiring) system k r rest there

    abbrev Leads : List (Rule ℕ Parts RelMap) → List Setting → Type 0
    Leads rs later = LeadAlong (relation_operations system.semiring) system.semiring leads slot_at rs calls (bits_of first) later

    later_leads : (later : List (List Bool)) → Leads (r ∷ rules_of (relation_operations system.semiring) system rest) (map bits_of later)
        → (0 < length later) × LeadAlong (relation_operations system.semiring) system.semiring leads slot_at (rules_of (relation_operations system.semiring) system rest) (after r calls (bits_of first)) (bits_of (first_of later)) (map bits_of (rest_of later))
    later_leads [] lead = absurd lead
    later_leads (y ∷ later) lead = (omega arith, lead.1)

    later_states : (later : List (List Bool)) → 0 < length later
        → states_along p system here (k ∷ rest) (record { accumulator = bits_of first; frames = calls }) (moments (relation_operations system.semiring) (r ∷ rules_of (relation_operations system.semiring) system rest) calls (bits_of first) (map bits_of later))
        ≡ state_of p here.stack (saves calls) (bits_of first) ∷ states_on p system rest mid (after r calls (bits_of first)) (record { first = first_of later; later = rest_of later })
    later_states [] some = absurd (omega arith)
    later_states (y ∷ later) some =
        let m : Machine Setting RelMap = record { accumulator = bits_of y; frames = after r calls (bits_of first) } in
        let ms = moments (relation_operations system.semiring) (rules_of (relation_operations system.semiring) system rest) (after r calls (bits_of first)) (bits_of y) (map bits_of later) in
        let tail : Option Configuration → List State = λ o. elim o [ None ↦ [] | Some c ↦ states_along p system c rest m ms ] in
        ap (λ ss. state_of p here.stack (saves calls) (bits_of first) ∷ ss) (ap tail next)

  module _ (p : Program) (k : ℕ) (rest : List ℕ) (here : Configuration) (calls : List (Frame Setting RelMap)) (saved : List (List Bool)) (along : Along) (on : IsOnWay system (k ∷ rest) here calls saved along) where
    abbrev mid : Configuration
    mid = on.runs.1.0

    abbrev pub next_there : next_of system k here ≡ Some on.runs.1.0
    next_there = on.runs.1.1

    -- the rule that fires
    pub rule_fires : (r : Rule ℕ Parts RelMap) × (slice_get system.rules k ≡ Some r)
    rule_fires = let f = fired system k here on.runs.1.0 on.runs.1.1 in (f.rule, f.there)

    module _ (r : Rule ℕ Parts RelMap) (there : slice_get system.rules k ≡ Some r) where
      lead_here : (0 < length along.later)
          × LeadAlong (relation_operations system.semiring) system.semiring leads slot_at (rules_of (relation_operations system.semiring) system rest) (after r calls (bits_of along.first)) (bits_of (first_of along.later)) (map bits_of (rest_of along.later))
      lead_here =
          later_leads p k rest here mid next_there r there calls along.first along.later
          (subst (λ rs. LeadAlong (relation_operations system.semiring) system.semiring leads slot_at rs calls (bits_of along.first) (map bits_of along.later)) (rules_cons (relation_operations system.semiring) system k r rest there) on.lead)

      pub some_later : 0 < length along.later
      some_later = lead_here.0

      pub way_next : IsOnWay system rest on.runs.1.0 (calls_after (relation_operations system.semiring) r r.right calls (bits_of along.first)) (saved_after r.right saved along.first) (rest_along along)
      way_next = record {
        runs = (on.runs.0, on.runs.1.2);
        calls_are = saves_after r r.right calls saved along.first on.calls_are;
        lead = lead_here.1;
      }

      pub states_next : states_on p system (k ∷ rest) here calls along
          ≡ state_of p here.stack (map bits_of saved) (bits_of along.first) ∷ states_on p system rest on.runs.1.0 (calls_after (relation_operations system.semiring) r r.right calls (bits_of along.first)) (rest_along along)
      states_next =
          ap (λ rs. states_along p system here (k ∷ rest) (record { accumulator = bits_of along.first; frames = calls }) (moments (relation_operations system.semiring) rs calls (bits_of along.first) (map bits_of along.later)))
          (rules_cons (relation_operations system.semiring) system k r rest there)
          ∙ later_states p k rest here mid next_there r there calls along.first along.later some_later
          ∙ ap (λ zs. state_of p here.stack zs (bits_of along.first) ∷ states_on p system rest mid (after r calls (bits_of along.first)) (rest_along along)) on.calls_are

      -- with the state that was added
      pub states_more : (before after all : List HeldState) (state : HeldState) → before ++ map held (states_on p system (k ∷ rest) here calls along) ≡ all
          → state ≡ held (state_of p here.stack (map bits_of saved) (bits_of along.first)) → after ≡ before ++ state ∷ []
          → after ++ map held (states_on p system rest on.runs.1.0 (calls_after (relation_operations system.semiring) r r.right calls (bits_of along.first)) (rest_along along)) ≡ all
      states_more before after all state so_far is added =
          let later = map held (states_on p system rest on.runs.1.0 (calls_after (relation_operations system.semiring) r r.right calls (bits_of along.first)) (rest_along along)) in
          ap (λ l. l ++ later) added
          ∙ append_assoc before (state ∷ []) later
          ∙ ap (λ (s : HeldState). before ++ (s ∷ later)) is
          ∙ ap (λ (ss : List State). before ++ map held ss) (sym states_next)
          ∙ so_far

  pub state_last : (p : Program) (here : Configuration) (calls : List (Frame Setting RelMap)) (saved : List (List Bool)) (along : Along) → IsOnWay system [] here calls saved along
      → states_on p system [] here calls along ≡ state_of p here.stack (map bits_of saved) (bits_of along.first) ∷ []
  state_last p here calls saved along on = ap (λ zs. state_of p here.stack zs (bits_of along.first) ∷ []) on.calls_are

  pub states_end : (p : Program) (here : Configuration) (calls : List (Frame Setting RelMap)) (saved : List (List Bool)) (along : Along) → IsOnWay system [] here calls saved along
      → (before after all : List HeldState) (state : HeldState) → before ++ map held (states_on p system [] here calls along) ≡ all
      → state ≡ held (state_of p here.stack (map bits_of saved) (bits_of along.first)) → after ≡ before ++ state ∷ [] → after ≡ all
  states_end p here calls saved along on before after all state so_far is added =
      added
      ∙ ap (λ (s : HeldState). before ++ (s ∷ [])) is
      ∙ ap (λ (ss : List State). before ++ map held ss) (sym (state_last p here calls saved along on))
      ∙ so_far
