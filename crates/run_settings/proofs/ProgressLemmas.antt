-- One rule more on the way back.
use Rattle.std.proofs.Common.{◌≡◌, ℕ, suc, ◌+◌, ◌<◌, Bool, List, [], ◌∷◌, ◌++◌, length, drop, map, get_or, sym, ap, ◌∙◌, subst, arith}
use Rattle.std.specs.Prelude.{Some, slice_get}
use Rattle.std.proofs.lemmas.Option.{slice_get-get_or}
use Rattle.std.proofs.lemmas.List.{length_push}
use Rattle.pushdown_rules.specs.declared.rule.Rule.{Rule}
use Rattle.pushdown_rules.specs.Pushdown.{Pushdown, IsSystem}
use Rattle.pushdown_rules.specs.RunValue.{Frame, Machine, FitsMachine, machine_after}
use Rattle.pushdown_rules.specs.Values.{rules_of}
use Rattle.pushdown_rules.proofs.CallerLemmas.{rules_cons}
use Rattle.diagram_store.specs.Meaning.{bits_of}
use Rattle.relation_laws.specs.Building.{Parts}
use Rattle.relation_laws.specs.Relations.{leads}
use Rattle.relation_weights.specs.declared.rel_map.RelMap.{RelMap}
use Rattle.relation_weights.specs.Relations.{relation_operations}
use Rattle.setting_runs.specs.Relations.{Setting}
use Rattle.setting_runs.specs.Settings.{Goes}
use Rattle.run_settings.specs.Settings.{slot_at, LeadAlong}
use Rattle.run_settings.specs.declared.machine.Past.{Past}
use Rattle.run_settings.specs.private.Links.{IsLinked, IsBefore, with_maps}
use Rattle.run_settings.specs.private.Moments.{Moment}
use Rattle.run_settings.specs.private.Walks.{machine_at, IsPast}
use Rattle.run_settings.specs.private.Progress.{IsWayBack}
use Rattle.run_settings.proofs.EndLemmas.{drop_at}
use Rattle.run_settings.proofs.WalkLemmas.{machine_next, machine_fits, past_front, past_last}

abbrev Leads : {S : Type 0} → ℕ → List (Rule S Parts RelMap) → List (Frame Setting RelMap) → Setting → List Setting → Type 0
Leads n rs gs z later = LeadAlong (relation_operations n) n leads slot_at rs gs z later

lead_more : {S : Type 0} (n : ℕ) (r : Rule S Parts RelMap) (rs : List (Rule S Parts RelMap)) (m : Machine Parts RelMap) (at new : Moment) (later : List Setting) → IsBefore n r m at new
    → Leads n rs (with_maps (machine_after (relation_operations n) r m).frames at.saved) (bits_of at.present) later
    → Leads n (r ∷ rs) (with_maps m.frames new.saved) (bits_of new.present) (bits_of at.present ∷ later)
lead_more n r rs m at new later before lead = (
  subst (λ gs. Goes (relation_operations n) n leads slot_at r r.right (with_maps m.frames new.saved) (bits_of new.present) gs (bits_of at.present)) before.calls before.goes,
  subst (λ gs. Leads n rs gs (bits_of at.present) later) before.calls lead,
)

module _ (n : ℕ) (p : Pushdown ℕ Parts RelMap) (run : List ℕ) (same : p.semiring ≡ n) (past front : List Past) (x : Past) (e : past ≡ front ++ x ∷ []) (at : Moment) (later : List (List Bool)) (so_far : IsWayBack n p run past at later) where
  abbrev j : ℕ
  j = length front

  count : length past ≡ j + 1
  count = ap (λ l. length l) e ∙ length_push front x

  within : length front < length run
  within = let h = count in let k = so_far.short in omega arith

  kept_before : IsPast (machine_at p run (length front)) x
  kept_before = past_last p run (length past) past front x e so_far.kept

  fits_before : IsSystem relation_operations p → FitsMachine (relation_operations n) (machine_at p run (length front))
  fits_before valid = subst (λ k. FitsMachine (relation_operations k) (machine_at p run j)) same (machine_fits p run valid j)

  module _ (r : Rule ℕ Parts RelMap) (there : slice_get p.rules (get_or run (length front) 0) ≡ Some r) where
    at_run : slice_get run j ≡ Some (get_or run j 0)
    at_run = slice_get-get_or run j 0 within

    next : machine_at p run (length past) ≡ machine_after (relation_operations n) r (machine_at p run j)
    next =
        ap (machine_at p run) count
        ∙ machine_next p run j (get_or run j 0) r at_run there
        ∙ ap (λ k. machine_after (relation_operations k) r (machine_at p run j)) same

    linked_before : IsLinked n (machine_after (relation_operations n) r (machine_at p run (length front))) at
    linked_before = subst (λ (m : Machine Parts RelMap). IsLinked n m at) next so_far.linked

    rules_before : rules_of (relation_operations n) p (drop j run) ≡ r ∷ rules_of (relation_operations n) p (drop (length past) run)
    rules_before =
        ap (rules_of (relation_operations n) p) (drop_at run j (get_or run j 0) at_run)
        ∙ rules_cons (relation_operations n) p (get_or run j 0) r (drop (suc j) run) there
        ∙ ap (λ i. r ∷ rules_of (relation_operations n) p (drop i run)) (let f : suc j ≡ length past = omega (arith, count) in f)

    way_back : (new : Moment) → IsBefore n r (machine_at p run (length front)) at new → IsWayBack n p run front new (at.present ∷ later)
    way_back new before = record {
      kept = past_front p run (length past) past front x e so_far.kept;
      short = let h = within in omega arith;
      linked = before.linked;
      lead = subst (λ rs. Leads n rs (with_maps (machine_at p run j).frames new.saved) (bits_of new.present) (bits_of at.present ∷ map bits_of later)) (sym rules_before)
          (lead_more n r (rules_of (relation_operations n) p (drop (length past) run)) (machine_at p run j) at new (map bits_of later) before
          (subst (λ (m : Machine Parts RelMap). Leads n (rules_of (relation_operations n) p (drop (length past) run)) (with_maps m.frames at.saved) (bits_of at.present) (map bits_of later)) next so_far.lead));
    }

  -- as the rule and the settings stand in the code
  module _ (valid : IsSystem relation_operations p) (k : ℕ) (place : k ≡ length front) (r : Rule ℕ Parts RelMap) (rule_at : slice_get p.rules (get_or run k 0) ≡ Some r) where
    at_front : slice_get p.rules (get_or run j 0) ≡ Some r
    at_front = ap (λ i. slice_get p.rules (get_or run i 0)) (sym place) ∙ rule_at

    pub there_before : (m : Machine Parts RelMap) × FitsMachine (relation_operations n) m × IsPast m x × IsLinked n (machine_after (relation_operations n) r m) at
    there_before = (machine_at p run j, fits_before valid, kept_before, linked_before r at_front)

    pub way_on : (new : Moment) → ((m : Machine Parts RelMap) → FitsMachine (relation_operations n) m → IsPast m x → IsLinked n (machine_after (relation_operations n) r m) at → IsBefore n r m at new)
        → (behind : List Bool) → behind ≡ at.present → (added : List (List Bool)) → added ≡ behind ∷ later → IsWayBack n p run front new added
    way_on new before behind is added e =
        subst (IsWayBack n p run front new) (sym (e ∙ ap (λ y. y ∷ later) is)) (way_back r at_front new (before (machine_at p run j) (fits_before valid) kept_before (linked_before r at_front)))
