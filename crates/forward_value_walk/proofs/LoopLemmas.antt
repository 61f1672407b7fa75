-- A loop over the rules that call one callee.
use Rattle.std.proofs.Common.{◌≡◌, ℕ, ◌<◌, ◌+◌, Bool, true, false, length, sym, ap, ◌∙◌, subst}
use Rattle.std.specs.Prelude.{Option, None, Some, option_map, slice_get}
use Rattle.std.proofs.lemmas.Option.{same_Some}
use Rattle.key_rows.specs.Rows.{index_where, index_from}
use Rattle.semiring_laws.specs.Semiring.{Operations, IsSemiring}
use Rattle.pushdown_rules.specs.declared.rule.Rule.{Rule}
use Rattle.pushdown_rules.specs.Pushdown.{Pushdown}
use Rattle.pushdown_rules.specs.Rows.{goes_onto}
use Rattle.pushdown_rules.proofs.CallerLemmas.{IsFound}
use Rattle.config_patterns.specs.Membership.{PatternValue}
use Rattle.weight_tables.specs.Tables.{TablesValue}
use Rattle.weight_tables.proofs.CallerLemmas.{IsRowWalk, to_go, walk_starts, walk_at, walk_within, walk_goes_on, walk_ends, less_to_go}
use Rattle.forward_value_laws.specs.Model.{callee}
use Rattle.forward_value_search.specs.Places.{number_of}
use Rattle.forward_value_search.specs.Search.{Enters}
use Rattle.forward_value_search.proofs.CallerLemmas.{enters_by}
use Rattle.forward_value_walk.specs.private.Opening.{IsCallMet, AreRuleCallsGiven}
use Rattle.forward_value_walk.specs.private.Going.{IsGoneOn}
use Rattle.forward_value_walk.proofs.GoingLemmas.{IsWalkable, none_gone, gone_then, gone_walkable, called_gone, call_later}

-- a rule that goes onto what a callee begins with enters that callee
pub calls_entered : {S W Map : Type 0} (operations : S → Operations W Map) (p : Pushdown S W Map) (first : PatternValue) (to top rule source : ℕ) → number_of (length first.items) p (callee to top) ≡ Some source
    → Some rule ≡ index_where (goes_onto to top) p.rules → (k : ℕ) (r : Rule S W Map) → slice_get p.rules k ≡ Some r → goes_onto to top r ≡ true → Enters operations p first k source
calls_entered operations p first to top rule source number found k r there passes =
    let is : length first.items + 1 + rule ≡ source = same_Some (length first.items + 1 + rule) source (ap (option_map (λ j. length first.items + 1 + j)) found ∙ number) in
    enters_by operations p first to top rule source (sym is) found k r there passes

module _ {S W Map : Type 0} (operations : S → Operations W Map) (first wanted : PatternValue) (v : TablesValue S W Map) (l source : ℕ) (test : Rule S W Map → Bool) where
  abbrev s : Operations W Map
  s = operations v.system.semiring

  -- what the rule of a number asked for is there, if it is one of the row
  abbrev pub IsRowMet : TablesValue S W Map → ℕ → Type 0
  IsRowMet now j = (r : Rule S W Map) → slice_get v.system.rules j ≡ Some r → test r ≡ true → IsCallMet s first wanted l source j v now.walk r

  -- What the loop has before the rule of number `at`.
  pub record IsCallLoop (now : TablesValue S W Map) (at : Option ℕ) : Type 0 where
    pub gone : IsGoneOn s first wanted v now
    pub walk : IsRowWalk test v.system.rules at (IsRowMet now)

module _ {S W Map : Type 0} (operations : S → Operations W Map) (laws : (x : S) → IsSemiring (operations x)) (first wanted : PatternValue) (v : TablesValue S W Map) (l source : ℕ) (test : Rule S W Map → Bool)
    (walkable : IsWalkable operations first wanted v) where
  abbrev ours : Operations W Map
  ours = operations v.system.semiring

  abbrev Loop : TablesValue S W Map → Option ℕ → Type 0
  Loop now at = IsCallLoop operations first wanted v l source test now at

  abbrev Met : TablesValue S W Map → ℕ → Type 0
  Met now = IsRowMet operations first wanted v l source test now

  no_row : (now : TablesValue S W Map) (j : ℕ) → ((r : Rule S W Map) → slice_get v.system.rules j ≡ Some r → test r ≡ false) → Met now j
  no_row now j none r there passes = let both : true ≡ false = sym passes ∙ none r there in cc

  pub calls_start : (at : Option ℕ) → at ≡ index_where test v.system.rules → Loop v at
  calls_start at is = record { gone = none_gone operations (λ x. laws x) first wanted v; walk = walk_starts test v.system.rules at (Met v) is }

  module _ (now : TablesValue S W Map) (at : Option ℕ) (loop : Loop now at) where
    pub calls_at : (k : ℕ) → at ≡ Some k → IsFound test v.system.rules k
    calls_at k is = walk_at test v.system.rules at (Met now) loop.walk k is

    pub calls_within : (k : ℕ) → at ≡ Some k → k < length v.system.rules
    calls_within k is = walk_within test v.system.rules at (Met now) loop.walk k is

    pub calls_walkable : IsWalkable operations first wanted now
    calls_walkable = gone_walkable operations laws first wanted v now walkable loop.gone

    module _ (k : ℕ) (is : at ≡ Some k) (new : TablesValue S W Map) (given : AreRuleCallsGiven (operations now.system.semiring) first wanted l source k now new) (next : Option ℕ)
        (goes : next ≡ index_from test (k + 1) v.system.rules) where
      step : IsGoneOn (operations now.system.semiring) first wanted now new
      step = called_gone operations laws first wanted now new calls_walkable l source k given

      -- what is said of the tables as they were, of the first ones
      later : (j : ℕ) → Met now j → Met new j
      later j met r there passes =
          let P : TablesValue S W Map → Type 0 = λ u. slice_get u.system.rules j ≡ Some r → IsCallMet (operations u.system.semiring) first wanted l source j u now.walk r → IsCallMet (operations u.system.semiring) first wanted l source j u new.walk r in
          let all : P now = λ there' old. call_later operations laws first wanted now new calls_walkable step l source j r there' old in
          subst P loop.gone.others all there (met r there passes)

      here : Met new k
      here r there passes =
          let P : TablesValue S W Map → Type 0 = λ u. (q : Rule S W Map) → slice_get u.system.rules k ≡ Some q → IsCallMet (operations u.system.semiring) first wanted l source k u new.walk q in
          subst P loop.gone.others given.met r there

      pub calls_go_on : Loop new next
      calls_go_on = record {
        gone = gone_then operations laws first wanted v now new loop.gone step;
        walk = walk_goes_on test v.system.rules at (Met now) loop.walk k next (Met new) is later here (λ j none. no_row new j none) goes;
      }

    pub calls_end : at ≡ None → (j : ℕ) (r : Rule S W Map) → slice_get v.system.rules j ≡ Some r → test r ≡ true → IsCallMet ours first wanted l source j v now.walk r
    calls_end is j r there passes = walk_ends test v.system.rules at (Met now) loop.walk is (λ i none. no_row now i none) j r there passes

    pub calls_smaller : (k : ℕ) → at ≡ Some k → (next : Option ℕ) → next ≡ index_from test (k + 1) v.system.rules → to_go (length v.system.rules) next < to_go (length v.system.rules) at
    calls_smaller k is next goes =
        let Less : Option ℕ → Type 0 = λ o. to_go (length v.system.rules) next < to_go (length v.system.rules) o in
        subst Less (sym is) (less_to_go test v.system.rules k next (calls_within k is) goes)
