-- Reports on reachability.
use Rattle.std.proofs.Common.{◌≡◌, inl, inr, ℕ, zero, suc, Bool, true, false, ◌&&◌, ◌||◌, List, [], ◌∷◌, length, map, Option, Some, None, refl, sym, ap, subst, ◌∙◌}
use Rattle.std.specs.Prelude.{◌≢◌, IfSome, codes, slice_get, unwrap_or}
use Rattle.std.specs.List.{AllByRecursion, cons_option}
use Rattle.semiring_laws.specs.declared.reach.Reach.{Reach as ReachValue}
use Rattle.semiring_laws.specs.declared.reach.NoMap.{NoMap}
use Rattle.semiring_laws.specs.Reach.{reach_operations}
use Rattle.semiring_laws.specs.Combination.{combination}
use Rattle.pushdown_rules.specs.declared.rule.Rule.{Rule}
use Rattle.pushdown_rules.specs.Pushdown.{Pushdown}
use Rattle.pushdown_rules.specs.RunValue.{Frame, Machine, starting, returned, machine_by, machine_after, waiting, product, value_from}
use Rattle.pushdown_rules.specs.Values.{rules_of, value_of}
use Rattle.pushdown_rules.specs.Answers.{Answers, Leads}
use Rattle.config_patterns.specs.Membership.{has_member}
use Rattle.document_forms.specs.Documents.{Document}
use Rattle.document_forms.specs.declared.document.RuleLine.{RuleLine}
use Rattle.document_forms.specs.declared.document.QueryLine.{QueryLine}
use Rattle.document_forms.specs.declared.pattern.PatternText.{PatternText}
use Rattle.document_forms.specs.declared.weight.WeightText.{WeightText}
use Rattle.document_forms.specs.declared.weight.WeightText.TheVariants.{One, Zero, Number, Facts, Forms, Actions}
use Rattle.document_forms.specs.declared.weight.WeightsLine.TheVariants.{Reach}
use Rattle.pushdown_rules.specs.Configuration.{Configuration}
use Rattle.document_systems.specs.Weights.{reach_kind, reach_text, reach_weight}
use Rattle.document_systems.specs.Systems.{rule_of, system_of, side_of}
use Rattle.path_sum.specs.Answers.{listed_runs}
use Rattle.report_text.specs.declared.options.Options.{Options}
use Rattle.report_text.specs.Reports.{ByQuery, below, query_text}
use Rattle.wpds_app.specs.Reports.{IsQueryText, BySemiring, IsReported, IsReport}
use Rattle.report_laws.specs.Telling.{LeadsOn, IsReachable, TellsReachability}
use Rattle.report_laws.proofs.QueryLemmas.{unlisted_line}
use Rattle.report_text.proofs.CallerLemmas.{of_each}

-- ---- with reachability a run has the value one exactly where each of its rules has

abbrev IsOneRule : Rule ReachValue Bool NoMap → Type 0
IsOneRule r = r.weight ≡ true

abbrev IsOneFrame : Frame Bool NoMap → Type 0
IsOneFrame f = f.saved ≡ true

abbrev IsOneMachine : Machine Bool NoMap → Type 0
IsOneMachine m = (m.accumulator ≡ true) × AllByRecursion IsOneFrame m.frames

both_one : (a b : Bool) → a ≡ true → b ≡ true → (a && b) ≡ true
both_one true true e f = refl
both_one false b e f = cc
both_one true false e f = cc

returned_one : (value : Bool) (fs : List (Frame Bool NoMap)) → value ≡ true → AllByRecursion IsOneFrame fs → IsOneMachine (returned reach_operations value fs)
returned_one value [] one all = (one, tt)
returned_one value (f ∷ fs) one all = (both_one f.saved value all.0 one, all.1)

-- what a rule with this right side makes of a machine
abbrev by_right : List ℕ → Rule ReachValue Bool NoMap → Machine Bool NoMap → Machine Bool NoMap
by_right right r m = machine_by reach_operations right r.weight r.map m

-- the frames that a push leaves just over those that wait
abbrev pushed : Rule ReachValue Bool NoMap → Machine Bool NoMap → List (Frame Bool NoMap)
pushed r m = record { saved = m.accumulator; map = unwrap_or r.map reach_operations.plain } ∷ m.frames

waiting_one : (h : NoMap) (gs : List ℕ) (fs : List (Frame Bool NoMap)) → AllByRecursion IsOneFrame fs → AllByRecursion IsOneFrame (waiting reach_operations h gs fs)
waiting_one h [] fs all = all
waiting_one h (g ∷ gs) fs all = (refl, waiting_one h gs fs all)

waiting_was_one : (h : NoMap) (gs : List ℕ) (fs : List (Frame Bool NoMap)) → AllByRecursion IsOneFrame (waiting reach_operations h gs fs) → AllByRecursion IsOneFrame fs
waiting_was_one h [] fs all = all
waiting_was_one h (g ∷ gs) fs all = waiting_was_one h gs fs all.1

by_right_one : (right : List ℕ) (r : Rule ReachValue Bool NoMap) (m : Machine Bool NoMap) → IsOneRule r → IsOneMachine m → IsOneMachine (by_right right r m)
by_right_one [] r m one good = returned_one (m.accumulator && r.weight) m.frames (both_one m.accumulator r.weight good.0 one) good.1
by_right_one (g ∷ []) r m one good = (both_one m.accumulator r.weight good.0 one, good.1)
by_right_one (g ∷ h ∷ hs) r m one good = (one, waiting_one (unwrap_or r.map reach_operations.plain) hs (pushed r m) (good.0, good.1))

product_one : (fs : List (Frame Bool NoMap)) (value : Bool) → AllByRecursion IsOneFrame fs → value ≡ true → product reach_operations fs value ≡ true
product_one [] value all one = one
product_one (f ∷ fs) value all one = product_one fs (f.saved && value) all.1 (both_one f.saved value all.0 one)

value_one : (rs : List (Rule ReachValue Bool NoMap)) (m : Machine Bool NoMap) → AllByRecursion IsOneRule rs → IsOneMachine m → value_from reach_operations m rs ≡ true
value_one [] m all good = product_one m.frames m.accumulator good.1 good.0
value_one (r ∷ rs) m all good = value_one rs (machine_after reach_operations r m) all.1 (by_right_one r.right r m all.0 good)

-- ---- and no other run has

saved_one : (a b : Bool) → (a && b) ≡ true → (a ≡ true) × (b ≡ true)
saved_one true b e = (refl, e)
saved_one false b e = cc

product_is_one : (fs : List (Frame Bool NoMap)) (value : Bool) → product reach_operations fs value ≡ true → IsOneMachine (record { accumulator = value; frames = fs })
product_is_one [] value one = (one, tt)
product_is_one (f ∷ fs) value one =
    let all = product_is_one fs (f.saved && value) one in
    let both = saved_one f.saved value all.0 in
    (both.1, (both.0, all.1))

returned_was_one : (value : Bool) (fs : List (Frame Bool NoMap)) → IsOneMachine (returned reach_operations value fs) → (value ≡ true) × AllByRecursion IsOneFrame fs
returned_was_one value [] one = one
returned_was_one value (f ∷ fs) one =
    let both = saved_one f.saved value one.0 in
    (both.1, (both.0, one.1))

by_right_was_one : (right : List ℕ) (r : Rule ReachValue Bool NoMap) (m : Machine Bool NoMap) → IsOneMachine (by_right right r m) → IsOneRule r × IsOneMachine m
by_right_was_one [] r m one =
    let back = returned_was_one (m.accumulator && r.weight) m.frames one in
    let both = saved_one m.accumulator r.weight back.0 in
    (both.1, (both.0, back.1))
by_right_was_one (g ∷ []) r m one = let both = saved_one m.accumulator r.weight one.0 in (both.1, (both.0, one.1))
by_right_was_one (g ∷ h ∷ hs) r m one =
    let back = waiting_was_one (unwrap_or r.map reach_operations.plain) hs (pushed r m) one.1 in
    (one.0, (back.0, back.1))

value_was_one : (rs : List (Rule ReachValue Bool NoMap)) (m : Machine Bool NoMap) → value_from reach_operations m rs ≡ true → IsOneMachine m × AllByRecursion IsOneRule rs
value_was_one [] m one = (product_is_one m.frames m.accumulator one, tt)
value_was_one (r ∷ rs) m one =
    let rest = value_was_one rs (machine_after reach_operations r m) one in
    let first = by_right_was_one r.right r m rest.0 in
    (first.1, (first.0, rest.1))

-- ---- a rule has the weight one unless it has none

weighs_one : (t : WeightText) → t ≢ Zero → reach_weight t ≡ true
weighs_one One some = refl
weighs_one Zero some = absurd (some refl)
weighs_one (Number n) some = refl
weighs_one (Facts ss) some = refl
weighs_one (Forms ps) some = refl
weighs_one (Actions acts) some = refl

weighs_some : (t : WeightText) → reach_weight t ≡ true → t ≢ Zero
weighs_some t one none = let is : reach_weight t ≡ false = ap reach_weight none in cc

abbrev made : List RuleLine → List (Rule ReachValue Bool NoMap)
made lines = map (rule_of reach_kind (record {})) lines

-- a number names a rule and its line, or neither
data Named (lines : List RuleLine) (k : ℕ) : Type 0 where
  Neither : slice_get lines k ≡ None → slice_get (made lines) k ≡ None → Named lines k
  Both : (l : RuleLine) → slice_get lines k ≡ Some l → slice_get (made lines) k ≡ Some (rule_of reach_kind (record {}) l) → Named lines k

named : (lines : List RuleLine) (k : ℕ) → Named lines k
named [] k = Neither refl refl
named (l ∷ ls) zero = Both l refl refl
named (l ∷ ls) (suc k) = elim (named ls k) [
  | Neither none nothing ↦ Neither none nothing
  | Both m line rule ↦ Both m line rule
]

module _ (d : Document) where
  abbrev system : Pushdown ReachValue Bool NoMap
  system = system_of reach_kind (record {}) d

  abbrev rules : List ℕ → List (Rule ReachValue Bool NoMap)
  rules run = rules_of reach_operations system run

  rules_one : (run : List ℕ) → LeadsOn d run → AllByRecursion IsOneRule (rules run)
  rules_one [] on = tt
  rules_one (k ∷ ks) on = go (named d.rules k) (rules_one ks on.1)
    where
      go : Named d.rules k → AllByRecursion IsOneRule (rules ks) → AllByRecursion IsOneRule (rules (k ∷ ks))
      go (Neither none nothing) rest = rw nothing rest
      go (Both l line rule) rest =
          let some : l.weight ≢ Zero = subst (λ o. IfSome o (λ r. r.weight ≢ Zero)) line on.0 in
          rw rule (weighs_one l.weight some, rest)

  rules_lead : (run : List ℕ) → AllByRecursion IsOneRule (rules run) → LeadsOn d run
  rules_lead [] one = tt
  rules_lead (k ∷ ks) one = go (named d.rules k) one (rules_lead ks)
    where
      go : Named d.rules k → AllByRecursion IsOneRule (rules (k ∷ ks)) → (AllByRecursion IsOneRule (rules ks) → LeadsOn d ks) → LeadsOn d (k ∷ ks)
      go (Neither none nothing) one rest =
          let P : Option (Rule ReachValue Bool NoMap) → Type 0 = λ o. AllByRecursion IsOneRule (cons_option o (rules ks)) in
          let all : AllByRecursion IsOneRule (rules ks) = subst P nothing one in
          (rw none tt, rest all)
      go (Both l line rule) one rest =
          let P : Option (Rule ReachValue Bool NoMap) → Type 0 = λ o. AllByRecursion IsOneRule (cons_option o (rules ks)) in
          let all : AllByRecursion IsOneRule (rule_of reach_kind (record {}) l ∷ rules ks) = subst P rule one in
          (rw line (weighs_some l.weight all.0), rest all.1)

  run_one : (run : List ℕ) → LeadsOn d run → value_of reach_operations system run ≡ true
  run_one run on = value_one (rules run) (starting reach_operations) (rules_one run on) (refl, tt)

  run_leads : (run : List ℕ) → value_of reach_operations system run ≡ true → LeadsOn d run
  run_leads run one = rules_lead run (value_was_one (rules run) (starting reach_operations) one).1

  -- ---- what the text of a query says

  module _ (q : QueryLine) where
    abbrev side : PatternText → Configuration → Bool
    side p = has_member (side_of d p)

    abbrev IsRun : List ℕ → Type 0
    IsRun run = Leads reach_operations system (side q.from) (side q.to) run

    reached : (runs : List (List ℕ)) → AllByRecursion IsRun runs → true ≡ combination reach_operations (map (value_of reach_operations system) runs) → IsReachable d q
    reached [] lead some = cc
    reached (r ∷ rs) lead some = go (value_of reach_operations system r) refl (reached rs lead.1)
      where
        go : (b : Bool) → value_of reach_operations system r ≡ b → (true ≡ combination reach_operations (map (value_of reach_operations system) rs) → IsReachable d q) → IsReachable d q
        go true one rest = (r, run_leads r one, lead.0)
        go false none rest = rest (some ∙ ap (λ b. b || combination reach_operations (map (value_of reach_operations system) rs)) none)

    never : (value : Bool) → value ≡ false → (runs : List (List ℕ)) → Answers reach_operations system (side q.from) (side q.to) value runs → IsReachable d q → ⊥
    never value nothing runs answers (run, on, leads) =
        let below : (value || value_of reach_operations system run) ≡ value = answers.below run leads in
        let one = run_one run on in
        cc (below, nothing, one)

    told : (options : Options) (i : ℕ) (text : List ℕ) → IsQueryText reach_kind options system d.items i (side_of d q.from) (side_of d q.to) text → TellsReachability d i q text
    told options i text is = go is.answer.value refl
      where
        go : (value : Bool) → is.answer.value ≡ value → TellsReachability d i q text
        go true e =
            inl (
              reached (listed_runs is.answer.listing) is.is_answer.shows.answers.lead (sym e ∙ is.is_answer.shows.answers.combined),
              below options is.answer.listing,
              is.told ∙ ap (λ v. query_text i options (reach_text v) is.answer.listing) e,
            )
        go false e =
            inr (
              never is.answer.value e (listed_runs is.answer.listing) is.is_answer.shows.answers,
              is.told
                  ∙ ap (λ v. query_text i options (reach_text v) is.answer.listing) e
                  ∙ unlisted_line i options (codes "unreachable") is.answer.listing (is.is_answer.shows.unlisted.1 e),
            )

pub tells : (d : Document) (options : Options) (report : List ℕ) → d.weights ≡ Reach → IsReport options d report → ByQuery (TellsReachability d) 1 d.queries report
tells d options report reach is =
    of_each (λ i q text h. told d q options i text h) 1 d.queries report
    (subst (λ w. BySemiring (λ S W Map kind semiring. IsReported kind options semiring d report) w (length d.items)) reach is)
