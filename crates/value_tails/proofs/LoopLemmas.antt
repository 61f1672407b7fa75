-- A loop over the rules of a row, each of which links what stands there.
use Rattle.std.proofs.Common.{◌≡◌, ℕ, ◌<◌, ◌+◌, Bool, true, false, length, refl, sym, ap, ◌∙◌, subst}
use Rattle.std.specs.Prelude.{Option, None, Some, slice_get}
use Rattle.key_rows.specs.Rows.{index_where, index_from}
use Rattle.semiring_laws.specs.Semiring.{Operations, IsSemiring}
use Rattle.pushdown_rules.specs.declared.rule.Rule.{Rule}
use Rattle.pushdown_rules.proofs.CallerLemmas.{IsFound}
use Rattle.config_patterns.specs.Membership.{PatternValue}
use Rattle.weight_tables.specs.Tables.{TablesValue}
use Rattle.weight_tables.proofs.CallerLemmas.{IsRowWalk, to_go, walk_starts, walk_at, walk_within, walk_goes_on, walk_ends, less_to_go}
use Rattle.value_tails.specs.private.Steps.{AreLinksLowered, IsLinked}
use Rattle.value_tails.proofs.LinkLemmas.{IsSearched, links_none, links_then, links_searched, linked_later}

module _ {S W Map : Type 0} (operations : S → Operations W Map) (first : PatternValue) (v : TablesValue S W Map) (n : ℕ) (test : Rule S W Map → Bool) where
  -- what the rule of a number asked for is there, if it is one of the row
  abbrev pub IsRuleLinked : TablesValue S W Map → ℕ → Type 0
  IsRuleLinked now j = (r : Rule S W Map) → slice_get v.system.rules j ≡ Some r → test r ≡ true → IsLinked (operations v.system.semiring) first v now.walk j r n

  -- What the loop has before the rule of number `at`.
  pub record IsLinkLoop (now : TablesValue S W Map) (at : Option ℕ) : Type 0 where
    pub links : AreLinksLowered (operations v.system.semiring) first v now
    pub walk : IsRowWalk test v.system.rules at (IsRuleLinked now)

module _ {S W Map : Type 0} (operations : S → Operations W Map) (laws : (x : S) → IsSemiring (operations x)) (first : PatternValue) (v : TablesValue S W Map) (n : ℕ) (test : Rule S W Map → Bool)
    (searched : IsSearched operations laws first v) where
  abbrev Loop : TablesValue S W Map → Option ℕ → Type 0
  Loop now at = IsLinkLoop operations first v n test now at

  abbrev Met : TablesValue S W Map → ℕ → Type 0
  Met now = IsRuleLinked operations first v n test now

  no_row : (now : TablesValue S W Map) (j : ℕ) → ((r : Rule S W Map) → slice_get v.system.rules j ≡ Some r → test r ≡ false) → Met now j
  no_row now j none r there passes = let both : true ≡ false = sym passes ∙ none r there in cc

  pub links_start : (at : Option ℕ) → at ≡ index_where test v.system.rules → Loop v at
  links_start at is = record { links = links_none operations laws first v; walk = walk_starts test v.system.rules at (Met v) is }

  module _ (now : TablesValue S W Map) (at : Option ℕ) (loop : Loop now at) where
    pub links_at : (k : ℕ) → at ≡ Some k → IsFound test v.system.rules k
    links_at k is = walk_at test v.system.rules at (Met now) loop.walk k is

    pub links_within : (k : ℕ) → at ≡ Some k → k < length v.system.rules
    links_within k is = walk_within test v.system.rules at (Met now) loop.walk k is

    pub loop_searched : IsSearched operations laws first now
    loop_searched = links_searched operations laws first v searched now loop.links

    module _ (k : ℕ) (is : at ≡ Some k) (new : TablesValue S W Map) (step : AreLinksLowered (operations now.system.semiring) first now new)
        (met : (r : Rule S W Map) → slice_get now.system.rules k ≡ Some r → IsLinked (operations now.system.semiring) first now new.walk k r n) (next : Option ℕ) (goes : next ≡ index_from test (k + 1) v.system.rules) where
      later : (j : ℕ) → Met now j → Met new j
      later j old r there passes =
          let P : TablesValue S W Map → Type 0 = λ u. slice_get u.system.rules j ≡ Some r → IsLinked (operations u.system.semiring) first u now.walk j r n → IsLinked (operations u.system.semiring) first u new.walk j r n in
          let all : P now = λ there' was. linked_later operations laws first now loop_searched new step j r there' n was in
          subst P loop.links.others all there (old r there passes)

      here : Met new k
      here r there passes =
          let P : TablesValue S W Map → Type 0 = λ u. (q : Rule S W Map) → slice_get u.system.rules k ≡ Some q → IsLinked (operations u.system.semiring) first u new.walk k q n in
          subst P loop.links.others met r there

      pub links_go_on : Loop new next
      links_go_on = record {
        links = links_then operations laws first v now new loop.links step;
        walk = walk_goes_on test v.system.rules at (Met now) loop.walk k next (Met new) is later here (λ j none. no_row new j none) goes;
      }

    pub links_end : at ≡ None → (j : ℕ) (r : Rule S W Map) → slice_get v.system.rules j ≡ Some r → test r ≡ true → IsLinked (operations v.system.semiring) first v now.walk j r n
    links_end is j r there passes = walk_ends test v.system.rules at (Met now) loop.walk is (λ i none. no_row now i none) j r there passes

    pub links_smaller : (k : ℕ) → at ≡ Some k → (next : Option ℕ) → next ≡ index_from test (k + 1) v.system.rules → to_go (length v.system.rules) next < to_go (length v.system.rules) at
    links_smaller k is next goes =
        let Less : Option ℕ → Type 0 = λ o. to_go (length v.system.rules) next < to_go (length v.system.rules) o in
        subst Less (sym is) (less_to_go test v.system.rules k next (links_within k is) goes)
