-- Calls that stay open.
use Rattle.std.proofs.Common.{◌≡◌, ◌⊎◌, inl, inr, ℕ, zero, suc, ◌<◌, ◌≤◌, get_or, List, [], ◌∷◌, length, refl, sym, ap, ◌∙◌, subst, arith}
use Rattle.std.specs.Prelude.{Some, slice_get}
use Rattle.std.proofs.lemmas.Option.{same_Some}
use Rattle.pushdown_rules.specs.declared.rule.Rule.{Rule}
use Rattle.pushdown_rules.specs.Pushdown.{IsSystem}
use Rattle.pushdown_rules.proofs.CallerLemmas.{weight_fits}
use Rattle.semiring_laws.specs.Semiring.{Operations, IsSemiring, Fits, Below}
use Rattle.semiring_laws.proofs.CallerLemmas.{below_itself}
use Rattle.config_patterns.specs.Membership.{PatternValue}
use Rattle.weight_tables.specs.Entries.{TableEntry, weight_in, settled_in}
use Rattle.weight_tables.specs.Tables.{TablesValue, AreTables, with_entries, with_hand}
use Rattle.weight_tables.specs.declared.layer.Layer.TheVariants.{Base, Walk}
use Rattle.weight_tables.proofs.CallerLemmas.{place_fits, index_there, weight_at_index, settled_or_none}
use Rattle.walk_pairs.specs.declared.pairs.Order.TheVariants.{After}
use Rattle.walk_pairs.specs.declared.pairs.Stage.TheVariants.{Down, Above}
use Rattle.walk_pairs.specs.Pairs.{pair_place, place_over}
use Rattle.walk_pairs.specs.Giving.{IsFallOn, AreFallsOnGiven}
use Rattle.walk_pairs.specs.Ways.{TakesAt}
use Rattle.walk_pairs.proofs.CallerLemmas.{none_lowered, fall_fits, lowered_wider, lowered_all_fit, lowered_counts}
use Rattle.forward_value_laws.specs.Model.{callee}
use Rattle.forward_value_walk.specs.Walking.{number, IsMade}
use Rattle.forward_value_walk.specs.private.Opening.{IsCall, AreRuleCallsGiven}
use Rattle.forward_value_walk.proofs.SettleLemmas.{opened_kept}

-- what stands at a number
pub entry_at : {X : Type 0} (xs : List X) (k : ℕ) → k < length xs → (x : X) × (slice_get xs k ≡ Some x)
entry_at [] k low = absurd (omega (arith, low))
entry_at (x ∷ xs) zero low = (x, refl)
entry_at (x ∷ xs) (suc k) low = entry_at xs k (omega (arith, low))

second_is : (a b c d : ℕ) → a ∷ b ∷ [] ≡ c ∷ d ∷ [] → b ≡ d
second_is a b c d e = cc

module _ {S W Map : Type 0} {operations : S → Operations W Map} (v : TablesValue S W Map) (system : IsSystem operations v.system) (laws : IsSemiring (operations v.system.semiring)) (valid : AreTables (operations v.system.semiring) v)
    (first wanted : PatternValue) (l source k t : ℕ) where
  abbrev s : Operations W Map
  s = operations v.system.semiring

  module _ (r : Rule S W Map) (there : slice_get v.system.rules k ≡ Some r) (g h : ℕ) (right : r.right ≡ g ∷ h ∷ []) (entered : number s v.system first wanted (callee r.to g) ≡ Some source)
      (e : TableEntry W) (at : slice_get v.walk t ≡ Some e) (place : e.place ≡ pair_place Above l source) (made : IsMade s v.system first wanted (pair_place Above l source) (weight_in s v.walk (pair_place Above l source))) where
    -- the tables with the rule's weight and then the pair's in hand
    abbrev pub with_rule : TablesValue S W Map
    with_rule = with_hand (s.extend r.weight e.weight) v

    weight_is : weight_in s v.walk (pair_place Above l source) ≡ e.weight
    weight_is = ap (weight_in s v.walk) (sym place) ∙ (weight_at_index s e.place v.walk t e (index_there v.walk valid.walk.distinct t e at) at).0

    fits_entry : Fits s e.weight
    fits_entry = subst (Fits s) weight_is (place_fits s (pair_place Above l source) v.walk laws.fits-zero valid.walk.fits)

    pub rule_opened : AreTables s with_rule → TakesAt wanted.items (suc l) h → (new : TablesValue S W Map) → AreFallsOnGiven s with_rule After Base Down r.control (λ b. b ≡ r.symbol) (suc l) new
        → AreRuleCallsGiven s first wanted l source k v new
    rule_opened valid' takes new given =
        let Is = IsFallOn s with_rule After Base Down r.control (λ b. b ≡ r.symbol) (suc l) in
        let fit = fall_fits laws with_rule valid' After Base Down r.control (λ b. b ≡ r.symbol) (suc l) in
        let hand : new.hand ≡ s.extend r.weight e.weight = ap (λ (u : TablesValue S W Map). u.hand) given.lowered.others in
        let new_fit = lowered_all_fit laws Is fit v.walk new.walk given.lowered.pairs valid.walk.fits in
        let fn = λ (n : ℕ). place_fits s (pair_place Down (suc l) n) new.walk laws.fits-zero new_fit in
        let counts : (settled_in s new.walk (pair_place Above l source) ≡ e.weight) ⊎ (settled_in s new.walk (pair_place Above l source) ≡ s.zero) =
        elim (lowered_counts laws Is fit v.walk new.walk given.lowered.pairs valid.walk.fits (pair_place Above l source)) [
          | inr none ↦ inr none
          | inl same ↦ elim (settled_or_none s (pair_place Above l source) v.walk) [ inl is ↦ inl (same ∙ is ∙ weight_is) | inr none ↦ inr (same ∙ none) ]
        ] in
        record {
          lowered = lowered_wider s Is (IsCall s first wanted l source k v)
              (λ x w is. record {
                rule = r;
                there = there;
                top = g;
                below = h;
                right = right;
                entered = entered;
                takes = takes;
                from = is.to;
                place = is.place;
                worth = e.weight;
                fits = fits_entry;
                made = subst (IsMade s v.system first wanted (pair_place Above l source)) weight_is made;
                weight = is.weight ∙ ap (λ b. s.extend (weight_in s v.base (place_over r.control b is.to)) (s.extend r.weight e.weight)) is.has;
              }) v.walk new.walk given.lowered.pairs;
          others = given.lowered.others ∙ ap (λ w. with_hand w (with_entries Walk new.walk v)) (sym hand);
          met = λ r' there' g' h' right' _ n.
              let same : r ≡ r' = same_Some r r' (sym there ∙ there') in
              let P : Rule S W Map → Type 0 =
              λ x. Below s (weight_in s new.walk (pair_place Down (suc l) n)) (s.extend (weight_in s v.base (place_over x.control x.symbol n)) (s.extend x.weight (settled_in s new.walk (pair_place Above l source)))) in
              subst P same
              (opened_kept system laws first wanted v.base valid.base.fits (weight_in s new.walk (pair_place Down (suc l) n)) (weight_in s new.walk (pair_place Down (suc l) n)) (weight_in s v.base (place_over r.control r.symbol n)) r.weight e.weight
              (settled_in s new.walk (pair_place Above l source)) (fn n) (fn n) (place_fits s (place_over r.control r.symbol n) v.base laws.fits-zero valid.base.fits) (weight_fits system laws k r there) fits_entry
              (below_itself laws (weight_in s new.walk (pair_place Down (suc l) n)) (fn n)) counts (given.met r.symbol refl n));
        }

  -- where the item does not take what the rule leaves below, nothing is given
  pub none_opened : (r : Rule S W Map) → slice_get v.system.rules k ≡ Some r → (g h : ℕ) → r.right ≡ g ∷ h ∷ [] → (TakesAt wanted.items (suc l) h → ⊥) → AreRuleCallsGiven s first wanted l source k v v
  none_opened r there g h right none = record {
    lowered = none_lowered s (IsCall s first wanted l source k v) v.walk;
    others = refl;
    met = λ r' there' g' h' right' takes n.
        let same : r ≡ r' = same_Some r r' (sym there ∙ there') in
        let below : h ≡ h' = second_is g h g' h' (sym right ∙ ap (λ (x : Rule S W Map). x.right) same ∙ right') in
        let E : ℕ → Type 0 = TakesAt wanted.items (suc l) in
        absurd (none (subst E (sym below) takes));
  }

pub two_of : (xs : List ℕ) → 2 ≤ length xs → length xs < 3 → xs ≡ get_or xs 0 0 ∷ get_or xs 1 0 ∷ []
two_of [] low high = absurd (omega (arith, low))
two_of (a ∷ []) low high = absurd (omega (arith, low))
two_of (a ∷ b ∷ []) low high = refl
two_of (a ∷ b ∷ c ∷ xs) low high = absurd (omega (arith, high))
