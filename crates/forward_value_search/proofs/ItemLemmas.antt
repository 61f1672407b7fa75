-- A row over nothing from an item, whose weight is in hand, gives all edges from that item.
use Rattle.std.proofs.Common.{◌≡◌, ℕ, suc, ◌≤◌, ◌+◌, true, length, drop, refl, sym, ap, ◌∙◌, subst}
use Rattle.std.specs.Prelude.{Some, slice_get}
use Rattle.semiring_laws.specs.Semiring.{Operations, IsSemiring}
use Rattle.weighted_automata.specs.declared.place.Label.TheVariants.{Symbol, Empty}
use Rattle.weighted_automata.specs.declared.place.Place.{Place}
use Rattle.pushdown_rules.specs.Pushdown.{Pushdown, IsSystem}
use Rattle.config_patterns.specs.Edges.{leads_to, stays_on}
use Rattle.config_patterns.specs.Membership.{PatternValue}
use Rattle.weight_tables.specs.Entries.{TableEntry}
use Rattle.weight_tables.specs.Tables.{TablesValue, with_hand}
use Rattle.forward_value_search.specs.Places.{arrow}
use Rattle.forward_value_search.specs.Search.{StandsAt, HasSums, weights, IsReady, IsOnward, HasRead, HasGivenAll}
use Rattle.forward_value_search.proofs.OnwardLemmas.{weights_fit, entry_weight, onward_is, onward_then, given_counts}
use Rattle.forward_value_search.proofs.ReadLemmas.{read_later, all_edges}
use Rattle.forward_value_search.proofs.GiveLemmas.{item_gives}

module _ {S W Map : Type 0} {operations : S → Operations W Map} {p : Pushdown S W Map} (valid : IsSystem operations p) (laws : IsSemiring (operations p.semiring)) (first : PatternValue)
    (v one : TablesValue S W Map) (ready : IsReady operations p first v) (t : ℕ) (x : Place) (at : StandsAt t x v.base)
    (held : (e : TableEntry W) → slice_get v.base t ≡ Some e → one ≡ with_hand e.weight v) where
  abbrev s : Operations W Map
  s = operations p.semiring

  abbrev weight : TablesValue S W Map → Place → W
  weight v = weights operations p first v

  item_hand : one ≡ with_hand (weight v x) v
  item_hand = held at.0 at.1 ∙ ap (λ u. with_hand u v) (entry_weight valid laws first v ready t x at.0 at.1 at.2)

  pub item_onward : IsOnward operations p first v one
  item_onward = onward_is valid laws first v one ready (weight v x) (weights_fit valid laws first v ready x) item_hand

  pub item_sums : HasSums operations p first x one.hand
  item_sums = let P : TablesValue S W Map → Type 0 = λ z. HasSums operations p first x z.hand in subst P (sym item_hand) (ready.sums x)

  module _ (two new : TablesValue S W Map) (first_onward : IsOnward operations p first one two) (same : two.hand ≡ one.hand) (onward : IsOnward operations p first two new) where
    pub item_then : IsOnward operations p first v new
    item_then = onward_then valid laws first v two new ready (onward_then valid laws first v one two ready item_onward first_onward) onward

    -- all that it gives is there
    pub item_given : x.label ≡ Empty → x.to ≤ length first.items
        → ((k g : ℕ) → x.to ≡ suc k → stays_on first.items k g ≡ true → HasRead operations p first two x g x.to one.hand)
        → ((k g : ℕ) → leads_to (drop x.to first.items) k g ≡ true → HasRead operations p first new x g (suc (x.to + k)) two.hand) → HasGivenAll operations p first new x
    item_given empty low back on =
        let w = weight v x in
        let fw = weights_fit valid laws first v ready x in
        let hand : one.hand ≡ w = ap (λ (z : TablesValue S W Map). z.hand) item_hand in
        let P : ℕ → ℕ → Type 0 = λ g j. HasRead operations p first new x g j w in
        let Q : (g j : ℕ) → W → Type 0 = λ g j u. HasRead operations p first new x g j u in
        let R : (g j : ℕ) → W → Type 0 = λ g j u. HasRead operations p first two x g j u in
        let all = all_edges first.items x.to P
        (λ k g is stays. read_later valid laws first two new first_onward.ready onward x g x.to w fw (subst (R g x.to) hand (back k g is stays)))
        (λ k g leads. subst (Q g (suc (x.to + k))) (same ∙ hand) (on k g leads)) in
        item_gives operations p first new x empty low (λ g j edge. given_counts valid laws first v new item_then (arrow x.from (Symbol g) j) x (λ u. u) refl (all g j edge))
