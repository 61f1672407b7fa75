-- A walk goes on: pairs are lowered by weights that combine runs, and nothing else is changed but the hand.
use Rattle.std.proofs.Common.{◌≡◌, ◌⊎◌, inl, inr, ℕ, suc, ◌<◌, ◌≤◌, ◌^◌, List, [], ◌∷◌, length, refl, sym, ap, ◌∙◌, subst}
use Rattle.std.specs.Prelude.{Some, slice_get}
use Rattle.std.specs.List.{AllByRecursion}
use Rattle.std.proofs.lemmas.Option.{slice_get_within}
use Rattle.semiring_laws.specs.Semiring.{Operations, IsSemiring, Fits, Below}
use Rattle.pushdown_rules.specs.declared.rule.Rule.{Rule}
use Rattle.pushdown_rules.specs.Pushdown.{IsSystem}
use Rattle.pushdown_rules.proofs.CallerLemmas.{weight_fits}
use Rattle.config_patterns.specs.Membership.{PatternValue}
use Rattle.weighted_automata.specs.declared.place.Place.{Place}
use Rattle.weight_tables.specs.Entries.{TableEntry, lowered_in, weight_in, settled_in}
use Rattle.weight_tables.specs.Tables.{TablesValue, AreTables, with_entries, with_hand}
use Rattle.weight_tables.specs.Turns.{turns_left}
use Rattle.weight_tables.specs.declared.layer.Layer.TheVariants.{Walk}
use Rattle.weight_tables.proofs.CallerLemmas.{KeepPlaces, places_stay, places_then, lowered_places, place_fits, settled_or_none}
use Rattle.walk_pairs.specs.declared.pairs.Stage.TheVariants.{Down, Above}
use Rattle.walk_pairs.specs.Pairs.{pair_place, place_over}
use Rattle.walk_pairs.specs.Lowerings.{Lowering, lowered_by, ArePairsLowered}
use Rattle.walk_pairs.proofs.CallerLemmas.{AllFit, none_lowered, lowered_then, lowered_wider, lowered_all_fit, lowered_falls, lowered_counts, lowered_all_turns, lowered_holds}
use Rattle.forward_value_search.specs.Search.{StandsAt, IsFinished}
use Rattle.forward_value_walk.specs.Walking.{IsMade}
use Rattle.forward_value_walk.specs.private.Opening.{AreRuleCallsGiven, IsCall, IsCallMet}
use Rattle.forward_value_walk.specs.private.Going.{IsRuns, AreMade, IsGoneOn}
use Rattle.forward_value_walk.proofs.MadeLemmas.{made_joins, call_made, call_fits}
use Rattle.forward_value_walk.proofs.SettleLemmas.{opened_kept}

module _ {W Map : Type 0} {s : Operations W Map} (laws : IsSemiring s) (Is : Place → W → Type 0) (fit : (x : Place) (w : W) → Is x w → Fits s w) where
  -- entries keep their numbers
  by_keeps : (xs : List (Lowering W)) → AllByRecursion (λ x. Is x.place x.weight) xs → (es : List (TableEntry W)) → KeepPlaces es (lowered_by s xs es)
  by_keeps [] each es = places_stay es
  by_keeps (x ∷ xs) each es =
      places_then es (lowered_in s x.place x.weight es) (lowered_by s xs (lowered_in s x.place x.weight es)) (lowered_places laws x.place x.weight (fit x.place x.weight each.0) es)
      (by_keeps xs each.1 (lowered_in s x.place x.weight es))

pub settled_fits : {W Map : Type 0} {s : Operations W Map} (laws : IsSemiring s) (x : Place) (es : List (TableEntry W)) → AllFit s es → Fits s (settled_in s es x)
settled_fits {W} {Map} {s} laws x es fits = elim (settled_or_none s x es) [
  | inl e ↦ subst (Fits s) (sym e) (place_fits s x es laws.fits-zero fits)
  | inr e ↦ subst (Fits s) (sym e) laws.fits-zero
]

-- What a walk needs of its tables.
pub record IsWalkable {S W Map : Type 0} (operations : S → Operations W Map) (first wanted : PatternValue) (v : TablesValue S W Map) : Type 0 where
  pub system : IsSystem operations v.system
  pub base : AllFit (operations v.system.semiring) v.base
  pub walk : AllFit (operations v.system.semiring) v.walk
  pub finished : IsFinished operations v.system first v
  pub made : AreMade (operations v.system.semiring) first wanted v

module _ {S W Map : Type 0} (operations : S → Operations W Map) (laws : (x : S) → IsSemiring (operations x)) (first wanted : PatternValue) where
  abbrev pub of : TablesValue S W Map → Operations W Map
  of v = operations v.system.semiring

  abbrev pub Gone : TablesValue S W Map → TablesValue S W Map → Type 0
  Gone v new = IsGoneOn (of v) first wanted v new

  pub none_gone : (v : TablesValue S W Map) → Gone v v
  none_gone v = record { lowered = none_lowered (of v) (IsRuns (of v) first wanted v) v.walk; others = refl }

  pub hand_gone : (v new : TablesValue S W Map) (w : W) → new ≡ with_hand w v → Gone v new
  hand_gone v new w is = let P : TablesValue S W Map → Type 0 = Gone v in subst P (sym is) (record { lowered = none_lowered (of v) (IsRuns (of v) first wanted v) v.walk; others = refl })

  pub gone_then : (v v1 v2 : TablesValue S W Map) → Gone v v1 → Gone v1 v2 → Gone v v2
  gone_then v v1 v2 one two =
      let P : TablesValue S W Map → Type 0 = λ u. IsGoneOn (of u) first wanted u v2 in
      let two' = subst P one.others two in
      record { lowered = lowered_then (of v) (IsRuns (of v) first wanted v) v.walk v1.walk v2.walk one.lowered two'.lowered; others = two'.others }

  -- pairs that were lowered by weights that combine runs
  pub pairs_gone : (v new : TablesValue S W Map) (Is : Place → W → Type 0) → ((x : Place) (w : W) → Is x w → IsRuns (of v) first wanted v x w) → ArePairsLowered (of v) Is v new → Gone v new
  pairs_gone v new Is runs given =
      let hand : new.hand ≡ v.hand = ap (λ (u : TablesValue S W Map). u.hand) given.others in
      record {
        lowered = lowered_wider (of v) Is (IsRuns (of v) first wanted v) runs v.walk new.walk given.pairs;
        others = given.others ∙ ap (λ w. with_hand w (with_entries Walk new.walk v)) (sym hand);
      }

  module _ (v new : TablesValue S W Map) (walkable : IsWalkable operations first wanted v) (gone : Gone v new) where
    abbrev s : Operations W Map
    s = of v

    law : IsSemiring s
    law = laws v.system.semiring

    fit : (x : Place) (w : W) → IsRuns s first wanted v x w → Fits s w
    fit x w is = is.0

    pub gone_fit : AllFit s new.walk
    gone_fit = lowered_all_fit law (IsRuns s first wanted v) fit v.walk new.walk gone.lowered walkable.walk

    pub gone_falls : (y : Place) → Below s (weight_in s new.walk y) (weight_in s v.walk y)
    gone_falls = lowered_falls law (IsRuns s first wanted v) fit v.walk new.walk gone.lowered walkable.walk

    pub gone_counts : (y : Place) → (settled_in s new.walk y ≡ settled_in s v.walk y) ⊎ (settled_in s new.walk y ≡ s.zero)
    gone_counts = lowered_counts law (IsRuns s first wanted v) fit v.walk new.walk gone.lowered walkable.walk

    pub gone_turns : length new.walk < 2 ^ 32 → turns_left s new.walk ≤ turns_left s v.walk
    gone_turns = lowered_all_turns law (IsRuns s first wanted v) fit v.walk new.walk gone.lowered walkable.walk

    pub gone_walkable : IsWalkable operations first wanted new
    gone_walkable =
        let P : TablesValue S W Map → Type 0 = IsWalkable operations first wanted in
        subst P (sym gone.others) (record {
          system = walkable.system;
          base = walkable.base;
          walk = gone_fit;
          finished = record { sound = walkable.finished.sound; closed = walkable.finished.closed };
          made = lowered_holds law (IsRuns s first wanted v) fit v.walk new.walk gone.lowered walkable.walk (IsMade s v.system first wanted) (made_joins walkable.system law first wanted) (λ x w is. is.1) walkable.made;
        })

    pub gone_stands : (t : ℕ) (x : Place) → StandsAt t x v.walk → StandsAt t x new.walk
    gone_stands t x there =
        let kept = by_keeps law (IsRuns s first wanted v) fit gone.lowered.steps gone.lowered.each v.walk t there.0 there.1 in
        let P : List (TableEntry W) → Type 0 = StandsAt t x in
        subst P (sym gone.lowered.made) (kept.0, kept.1, kept.2 ∙ there.2)

    -- what was said of the new tables, of the old ones with other pairs and another hand
    pub at_first : (P : TablesValue S W Map → Type 0) → P new → P (with_hand new.hand (with_entries Walk new.walk v))
    at_first P holds = subst P gone.others holds

    -- what a call by a rule asked for is there still
    pub call_later : (l source k : ℕ) (r : Rule S W Map) → slice_get v.system.rules k ≡ Some r → IsCallMet s first wanted l source k v v.walk r → IsCallMet s first wanted l source k v new.walk r
    call_later l source k r there met g h right takes n =
        let x : Place = pair_place Down (suc l) n in
        let y : Place = pair_place Above l source in
        let a : W = weight_in s v.base (place_over r.control r.symbol n) in
        opened_kept walkable.system law first wanted v.base walkable.base (weight_in s v.walk x) (weight_in s new.walk x) a r.weight (settled_in s v.walk y) (settled_in s new.walk y)
        (place_fits s x v.walk law.fits-zero walkable.walk) (place_fits s x new.walk law.fits-zero gone_fit) (place_fits s (place_over r.control r.symbol n) v.base law.fits-zero walkable.base) (weight_fits walkable.system law k r there)
        (settled_fits law y v.walk walkable.walk) (gone_falls x) (gone_counts y) (met g h right takes n)

  -- calls by one rule
  pub called_gone : (v new : TablesValue S W Map) → IsWalkable operations first wanted v → (l source k : ℕ) → AreRuleCallsGiven (of v) first wanted l source k v new → Gone v new
  called_gone v new walkable l source k given = record {
    lowered = lowered_wider (of v) (IsCall (of v) first wanted l source k v) (IsRuns (of v) first wanted v)
        (λ x w is. (
          call_fits v walkable.system (laws v.system.semiring) walkable.base first wanted walkable.finished.sound l source k x w is,
          call_made v walkable.system (laws v.system.semiring) walkable.base first wanted walkable.finished.sound l source k x w is,
        )) v.walk new.walk given.lowered;
    others = given.others;
  }

pub walkable_of : {S W Map : Type 0} (operations : S → Operations W Map) (first wanted : PatternValue) (v : TablesValue S W Map) → IsSystem operations v.system → AreTables (operations v.system.semiring) v
    → IsFinished operations v.system first v → AreMade (operations v.system.semiring) first wanted v → IsWalkable operations first wanted v
walkable_of operations first wanted v system valid finished made = record { system = system; base = valid.base.fits; walk = valid.walk.fits; finished = finished; made = made }

pub within_of : {W : Type 0} (t : ℕ) (x : Place) (es : List (TableEntry W)) → StandsAt t x es → t < length es
within_of t x es there = slice_get_within es t there.0 there.1
