-- What a pair gives, one part after another.
use Rattle.std.proofs.Common.{inl, inr, ℕ, suc, sym, subst}
use Rattle.semiring_laws.specs.Semiring.{Operations, IsSemiring, Fits, Below}
use Rattle.config_patterns.specs.Membership.{PatternValue}
use Rattle.weighted_automata.specs.declared.place.Place.{Place}
use Rattle.weight_tables.specs.Entries.{weight_in}
use Rattle.weight_tables.specs.Tables.{TablesValue, AreTables, with_entries}
use Rattle.weight_tables.specs.declared.layer.Layer.TheVariants.{Base, Target, Walk}
use Rattle.walk_pairs.specs.declared.pairs.Order.TheVariants.{Then}
use Rattle.walk_pairs.specs.declared.pairs.Stage.TheVariants.{Down, Across, Above}
use Rattle.walk_pairs.specs.Pairs.{pair_place}
use Rattle.walk_pairs.specs.Lowerings.{ArePairsLowered}
use Rattle.walk_pairs.specs.Giving.{IsFallOn, AreFallsOnGiven, worth_over}
use Rattle.walk_pairs.specs.Reading.{IsStateStand, IsItemSkip, IsStateGiven, IsSkipGiven, IsStand, IsStep}
use Rattle.walk_pairs.specs.Ways.{TakesAt}
use Rattle.walk_pairs.proofs.CallerLemmas.{pairs_then, pairs_wider, pairs_fit, below_later, worth_fits, fall_fits, on_made, on_met}
use Rattle.value_walk.specs.private.Walking.{IsMeeting, IsMeetingGiven, IsGivenDown, IsGivenAbove, IsDownGiven, IsAboveGiven}

module _ {S W Map : Type 0} (operations : S → Operations W Map) (v : TablesValue S W Map) (laws : IsSemiring (operations v.system.semiring)) (valid : AreTables (operations v.system.semiring) v) (from to : PatternValue) where
  abbrev ours : Operations W Map
  ours = operations v.system.semiring

  abbrev Takes : ℕ → ℕ → Type 0
  Takes k = TakesAt from.items (suc k)

  pub down_fits : (i c : ℕ) (x : Place) (w : W) → IsGivenDown ours from to v i c x w → Fits ours w
  down_fits i c x w (inl is) = subst (Fits ours) (sym is.weight) valid.hand
  down_fits i c x w (inr is) = subst (Fits ours) (sym is.weight) valid.hand

  pub above_fits : (k c : ℕ) (x : Place) (w : W) → IsGivenAbove ours from to v k c x w → Fits ours w
  above_fits k c x w (inl is) = subst (Fits ours) (sym is.weight) valid.hand
  above_fits k c x w (inr (inl is)) = fall_fits laws v valid Then Base Down c (Takes k) (suc k) x w is
  above_fits k c x w (inr (inr is)) = fall_fits laws v valid Then Target Across c (Takes k) (suc k) x w is

  pub stand_fits : (i a : ℕ) (x : Place) (w : W) → IsStand v.hand from.items to.items i a x w → Fits ours w
  stand_fits i a x w is = subst (Fits ours) (sym is.weight) valid.hand

  pub step_fits : (k l : ℕ) (x : Place) (w : W) → IsStep v.hand from.items to.items Across k l x w → Fits ours w
  step_fits k l x w is = subst (Fits ours) (sym is.0) valid.hand

  -- a pair at a control: across where the control is the target's, and before the items that may be read next
  module _ (i c : ℕ) (v1 v2 : TablesValue S W Map) (one : IsMeetingGiven ours to i c v v1) (two : IsStateGiven (operations v1.system.semiring) v1 from.items i c v2) where
    abbrev Is : Place → W → Type 0
    Is = IsGivenDown ours from to v i c

    first : ArePairsLowered ours Is v v1
    first = pairs_wider ours (IsMeeting ours to v i c) Is (λ x w is. inr is) v v1 one.lowered

    read : IsStateGiven ours (with_entries Walk v1.walk v) from.items i c v2
    read = let P : TablesValue S W Map → Type 0 = λ u. IsStateGiven (operations u.system.semiring) u from.items i c v2 in subst P first.others two

    step : ArePairsLowered ours Is (with_entries Walk v1.walk v) v2
    step = pairs_wider ours (IsStateStand v.hand from.items i c) Is (λ x w is. inl is) (with_entries Walk v1.walk v) v2 read.lowered

    pub down_given : IsDownGiven ours from to i c v v2
    down_given = record {
      lowered = pairs_then ours Is v v1 v2 first step;
      met = record {
        reads = read.met;
        meets = λ same. below_later laws Is (down_fits i c) (with_entries Walk v1.walk v) (pairs_fit laws Is (down_fits i c) v valid.walk.fits v1 first) v2 step (pair_place Across i 0) v.hand valid.hand (one.met same);
      };
    }

  -- an item that is read next above a control: past it, and along both layers
  module _ (k c : ℕ) (v1 v2 v3 : TablesValue S W Map) (one : IsSkipGiven ours v from.items k c v1) (two : AreFallsOnGiven (operations v1.system.semiring) v1 Then Base Down c (Takes k) (suc k) v2)
      (three : AreFallsOnGiven (operations v2.system.semiring) v2 Then Target Across c (Takes k) (suc k) v3) where
    abbrev Or : Place → W → Type 0
    Or = IsGivenAbove ours from to v k c

    skipped : ArePairsLowered ours Or v v1
    skipped = pairs_wider ours (IsItemSkip v.hand from.items k c) Or (λ x w is. inl is) v v1 one.lowered

    fallen : ArePairsLowered ours Or (with_entries Walk v1.walk v) v2
    fallen = pairs_wider ours (IsFallOn ours v Then Base Down c (Takes k) (suc k)) Or (λ x w is. inr (inl is)) (with_entries Walk v1.walk v) v2
        (on_made operations v Then Base tt Down v1 v2 skipped.others c (Takes k) (suc k) two)

    second : ArePairsLowered ours Or v v2
    second = pairs_then ours Or v v1 v2 skipped fallen

    gone_in : ArePairsLowered ours Or (with_entries Walk v2.walk v) v3
    gone_in = pairs_wider ours (IsFallOn ours v Then Target Across c (Takes k) (suc k)) Or (λ x w is. inr (inr is)) (with_entries Walk v2.walk v) v3
        (on_made operations v Then Target tt Across v2 v3 second.others c (Takes k) (suc k) three)

    later : (x : Place) (y : W) → Fits ours y → Below ours (weight_in ours v1.walk x) y → Below ours (weight_in ours v2.walk x) y
    later x y fy below = below_later laws Or (above_fits k c) (with_entries Walk v1.walk v) (pairs_fit laws Or (above_fits k c) v valid.walk.fits v1 skipped) v2 fallen x y fy below

    later' : (x : Place) (y : W) → Fits ours y → Below ours (weight_in ours v2.walk x) y → Below ours (weight_in ours v3.walk x) y
    later' x y fy below = below_later laws Or (above_fits k c) (with_entries Walk v2.walk v) (pairs_fit laws Or (above_fits k c) v valid.walk.fits v2 second) v3 gone_in x y fy below

    pub above_given : IsAboveGiven ours from to k c v v3
    above_given = record {
      lowered = pairs_then ours Or v v2 v3 second gone_in;
      met = record {
        skips = λ is. later' (pair_place Above (suc k) c) v.hand valid.hand (later (pair_place Above (suc k) c) v.hand valid.hand (one.met is));
        falls = λ g takes q. later' (pair_place Down (suc k) q) (worth_over ours v Then Base Down c g q) (worth_fits laws v valid Then Base Down c g q)
            (on_met operations v Then Base tt Down v1 v2 skipped.others c (Takes k) (suc k) two g takes q);
        goes_in = λ g takes a. on_met operations v Then Target tt Across v2 v3 second.others c (Takes k) (suc k) three g takes a;
      };
    }
