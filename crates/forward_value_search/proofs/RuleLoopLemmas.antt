-- A loop along a row of rules, each turn of which goes on.
use Rattle.std.proofs.Common.{◌≡◌, ℕ, ◌<◌, ◌+◌, Bool, true, false, length, sym, ◌∙◌, subst}
use Rattle.std.specs.Prelude.{Option, Some, None, slice_get}
use Rattle.key_rows.specs.Rows.{index_where, index_from}
use Rattle.semiring_laws.specs.Semiring.{Operations, IsSemiring}
use Rattle.pushdown_rules.specs.declared.rule.Rule.{Rule}
use Rattle.pushdown_rules.specs.Pushdown.{Pushdown, IsSystem}
use Rattle.pushdown_rules.proofs.CallerLemmas.{IsFound}
use Rattle.config_patterns.specs.Membership.{PatternValue}
use Rattle.weight_tables.specs.Tables.{TablesValue}
use Rattle.weight_tables.proofs.CallerLemmas.{IsRowWalk, to_go, walk_starts, walk_at, walk_within, walk_goes_on, walk_ends, less_to_go}
use Rattle.forward_value_search.specs.Search.{IsReady, IsOnward}
use Rattle.forward_value_search.proofs.OnwardLemmas.{onward_itself, onward_then}

module _ {S W Map : Type 0} (p : Pushdown S W Map) (test : Rule S W Map → Bool) (P : TablesValue S W Map → ℕ → Rule S W Map → Type 0) where
  -- what holds of the rule of a number, if it is one of the row
  abbrev pub OfRow : TablesValue S W Map → ℕ → Type 0
  OfRow v j = (r : Rule S W Map) → slice_get p.rules j ≡ Some r → test r ≡ true → P v j r

-- What such a loop has before the rule of number `at`.
pub record IsRuleLoop {S W Map : Type 0} (operations : S → Operations W Map) (p : Pushdown S W Map) (first : PatternValue) (test : Rule S W Map → Bool) (P : TablesValue S W Map → ℕ → Rule S W Map → Type 0)
    (begun now : TablesValue S W Map) (at : Option ℕ) : Type 0 where
  pub onward : IsOnward operations p first begun now
  pub walk : IsRowWalk test p.rules at (OfRow p test P now)

module _ {S W Map : Type 0} {operations : S → Operations W Map} {p : Pushdown S W Map} (valid : IsSystem operations p) (laws : IsSemiring (operations p.semiring)) (first : PatternValue)
    (test : Rule S W Map → Bool) (P : TablesValue S W Map → ℕ → Rule S W Map → Type 0) (begun : TablesValue S W Map) (ready : IsReady operations p first begun) where
  abbrev Loop : TablesValue S W Map → Option ℕ → Type 0
  Loop now at = IsRuleLoop operations p first test P begun now at

  no_row : (v : TablesValue S W Map) (j : ℕ) → ((r : Rule S W Map) → slice_get p.rules j ≡ Some r → test r ≡ false) → OfRow p test P v j
  no_row v j none r there passes = let both : true ≡ false = sym passes ∙ none r there in cc

  pub rules_start : (at : Option ℕ) → at ≡ index_where test p.rules → Loop begun at
  rules_start at is = record { onward = onward_itself valid laws first begun ready; walk = walk_starts test p.rules at (OfRow p test P begun) is }

  module _ (now : TablesValue S W Map) (at : Option ℕ) (loop : Loop now at) where
    pub rules_at : (k : ℕ) → at ≡ Some k → IsFound test p.rules k
    rules_at k is = walk_at test p.rules at (OfRow p test P now) loop.walk k is

    pub rules_within : (k : ℕ) → at ≡ Some k → k < length p.rules
    rules_within k is = walk_within test p.rules at (OfRow p test P now) loop.walk k is

    pub rules_go_on : (k : ℕ) → at ≡ Some k → (new : TablesValue S W Map) → IsOnward operations p first now new → (next : Option ℕ) → next ≡ index_from test (k + 1) p.rules
        → ((j : ℕ) (r : Rule S W Map) → slice_get p.rules j ≡ Some r → P now j r → P new j r) → ((r : Rule S W Map) → slice_get p.rules k ≡ Some r → P new k r) → Loop new next
    rules_go_on k is new onward next goes later here = record {
      onward = onward_then valid laws first begun now new ready loop.onward onward;
      walk = walk_goes_on test p.rules at (OfRow p test P now) loop.walk k next (OfRow p test P new) is (λ j before r there passes. later j r there (before r there passes)) (λ r there passes. here r there)
          (λ j none. no_row new j none) goes;
    }

    pub rules_end : at ≡ None → (j : ℕ) (r : Rule S W Map) → slice_get p.rules j ≡ Some r → test r ≡ true → P now j r
    rules_end is j r there passes = walk_ends test p.rules at (OfRow p test P now) loop.walk is (λ i none. no_row now i none) j r there passes

    pub rules_smaller : (k : ℕ) → at ≡ Some k → (next : Option ℕ) → next ≡ index_from test (k + 1) p.rules → to_go (length p.rules) next < to_go (length p.rules) at
    rules_smaller k is next goes =
        let Less : Option ℕ → Type 0 = λ o. to_go (length p.rules) next < to_go (length p.rules) o in
        subst Less (sym is) (less_to_go test p.rules k next (rules_within k is) goes)
