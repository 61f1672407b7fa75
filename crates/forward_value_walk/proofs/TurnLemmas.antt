-- A turn of the walk, and its end.
use Rattle.std.proofs.Common.{◌≡◌, ◌⊎◌, inl, inr, ℕ, zero, suc, ◌<◌, ◌^◌, true, false, List, [], ◌∷◌, length, sym, ap, ◌∙◌, subst, arith}
use Rattle.std.specs.Prelude.{Bool, Some, slice_get}
use Rattle.std.proofs.lemmas.Option.{same_Some}
use Rattle.semiring_laws.specs.Semiring.{Operations, IsSemiring, Below}
use Rattle.pushdown_rules.specs.Pushdown.{IsSystem}
use Rattle.config_patterns.specs.Membership.{PatternValue}
use Rattle.weighted_automata.specs.declared.place.Place.{Place}
use Rattle.weighted_automata.proofs.CallerLemmas.{cases_place}
use Rattle.weight_tables.specs.Entries.{TableEntry, NoneWaits, taken, weight_in, settled_in}
use Rattle.weight_tables.specs.Tables.{TablesValue, AreTables, with_entries}
use Rattle.weight_tables.specs.Turns.{turns_left}
use Rattle.weight_tables.specs.declared.layer.Layer.TheVariants.{Walk}
use Rattle.weight_tables.proofs.CallerLemmas.{taken_weight, taken_settled, taken_turns}
use Rattle.walk_pairs.specs.declared.pairs.Stage.TheVariants.{Down, Before, Above}
use Rattle.walk_pairs.specs.Pairs.{pair_place, answer_place}
use Rattle.walk_pairs.specs.Answering.{IsAnswered, IsWalkedOver}
use Rattle.forward_value_search.specs.Search.{IsFinished}
use Rattle.forward_value_laws.proofs.CallerLemmas.{stopped_answers}
use Rattle.forward_value_walk.specs.Walking.{IsMade, IsPairMet, IsBeforeMet, IsAboveMet, found_in, pairs_of, tails_of, settled_pair, settled_before, settled_above}
use Rattle.forward_value_walk.specs.private.Going.{IsPlaceGiven, IsStopped, IsWalking}
use Rattle.forward_value_walk.proofs.SettleLemmas.{settled_on}
use Rattle.forward_value_walk.proofs.RestLemmas.{tails_known}
use Rattle.forward_value_walk.proofs.DoneLemmas.{pairs_walked}
use Rattle.forward_value_walk.proofs.GoingLemmas.{IsWalkable, gone_fit, gone_falls, gone_counts, gone_turns, gone_walkable}

-- an entry that was taken stands where it stood
pub taken_at : {W : Type 0} (t : ℕ) (es : List (TableEntry W)) (e : TableEntry W) → slice_get es t ≡ Some e → slice_get (taken t es) t ≡ Some (record e { waits = false })
taken_at t [] e there = cc
taken_at zero (d ∷ es) e there = ap (λ (f : TableEntry _). Some (record f { waits = false })) (same_Some d e there)
taken_at (suc t) (d ∷ es) e there = taken_at t es e there

module _ {S W Map : Type 0} (operations : S → Operations W Map) (laws : (x : S) → IsSemiring (operations x)) (first wanted : PatternValue) (stops : ℕ → Bool) where
  abbrev of : TablesValue S W Map → Operations W Map
  of v = operations v.system.semiring

  -- What a turn does.
  pub record IsTurned (v new : TablesValue S W Map) : Type 0 where
    pub walking : IsWalking (of v) first wanted stops new
    pub others : IsWalkedOver v new
    pub fewer : turns_left (of v) new.walk < turns_left (of v) v.walk

  module _ (v : TablesValue S W Map) (system : IsSystem operations v.system) (valid : AreTables (of v) v) (finished : IsFinished operations v.system first v) (walking : IsWalking (of v) first wanted stops v) where
    abbrev s : Operations W Map
    s = of v

    abbrev law : IsSemiring s
    law = laws v.system.semiring

    module _ (t : ℕ) (e : TableEntry W) (there : slice_get v.walk t ≡ Some e) (waits : e.waits ≡ true) where
      -- the tables once it was taken
      abbrev pub took : TablesValue S W Map
      took = with_entries Walk (taken t v.walk) v

      module _ (valid' : AreTables s took) where
        pub took_walkable : IsWalkable operations first wanted took
        took_walkable = record {
          system = system;
          base = valid.base.fits;
          walk = valid'.walk.fits;
          finished = record { sound = finished.sound; closed = finished.closed };
          made = λ x. subst (IsMade s v.system first wanted x) (sym (taken_weight s x t v.walk)) (walking.made x);
        }

        module _ (new : TablesValue S W Map) (few : length new.walk < 2 ^ 32) (given : IsPlaceGiven s first wanted stops e.place took new) where
          falls : (y : Place) → Below s (weight_in s new.walk y) (weight_in s v.walk y)
          falls y = let P : W → Type 0 = Below s (weight_in s new.walk y) in subst P (taken_weight s y t v.walk) (gone_falls operations laws first wanted took new took_walkable given.gone y)

          -- another place counts as it did, or for nothing
          kept : (y : Place) → (e.place ≡ y → ⊥) → (settled_in s new.walk y ≡ settled_in s v.walk y) ⊎ (settled_in s new.walk y ≡ s.zero)
          kept y differs = elim (gone_counts operations laws first wanted took new took_walkable given.gone y) [
            | inl same ↦ inl (same ∙ taken_settled s y t v.walk e there differs)
            | inr none ↦ inr none
          ]

          each : (i m : ℕ) → ((settled_pair s v.system first wanted v.base new.walk i m ≡ settled_pair s v.system first wanted v.base v.walk i m) ⊎ (settled_pair s v.system first wanted v.base new.walk i m ≡ s.zero))
              ⊎ IsPairMet s v.system first wanted v.base new.walk stops v.target i m
          each i m = elim (cases_place e.place (pair_place Down i m)) [
            | inl same ↦ inr (given.met i m same)
            | inr differs ↦ inl (kept (pair_place Down i m) differs)
          ]

          each_before : (k l : ℕ) → ((settled_before s v.system first wanted v.base new.walk k l ≡ settled_before s v.system first wanted v.base v.walk k l) ⊎ (settled_before s v.system first wanted v.base new.walk k l ≡ s.zero))
              ⊎ IsBeforeMet s v.system first wanted v.base new.walk k l
          each_before k l = elim (cases_place e.place (pair_place Before k l)) [
            | inl same ↦ inr (given.met_before k l same)
            | inr differs ↦ inl (kept (pair_place Before k l) differs)
          ]

          each_above : (l m : ℕ) → ((settled_above s v.system first wanted v.base new.walk l m ≡ settled_above s v.system first wanted v.base v.walk l m) ⊎ (settled_above s v.system first wanted v.base new.walk l m ≡ s.zero))
              ⊎ IsAboveMet s v.system first wanted v.base new.walk l m
          each_above l m = elim (cases_place e.place (pair_place Above l m)) [
            | inl same ↦ inr (given.met_above l m same)
            | inr differs ↦ inl (kept (pair_place Above l m) differs)
          ]

          pub turned : IsTurned v new
          turned =
              let now = gone_walkable operations laws first wanted took new took_walkable given.gone in
              let settled = settled_on system law first wanted v.base valid.base.fits stops v.target valid.target.fits v.walk new.walk valid.walk.fits (gone_fit operations laws first wanted took new took_walkable given.gone) falls each each_before each_above walking.settled in
              let P : TablesValue S W Map → Type 0 = IsWalking s first wanted stops in
              let Q : TablesValue S W Map → Type 0 = λ u. (x : Place) → IsMade (of u) u.system first wanted x (weight_in (of u) new.walk x) in
              let less = gone_turns operations laws first wanted took new took_walkable given.gone few in
              let one = taken_turns law t v.walk e there waits in
              record {
                walking = subst P (sym given.gone.others) (record { made = subst Q given.gone.others now.made; settled = settled });
                others = given.gone.others;
                fewer = omega (arith, less, one);
              }

    -- Nothing waits: the answer.
    pub ended : IsStopped s first wanted stops v → NoneWaits v.walk → IsAnswered s v.system first wanted (weight_in s v.walk answer_place)
    ended stopped none =
        let sums = walking.made answer_place in (
          sums.list,
          stopped_answers system law first wanted (found_in s v.system first wanted v.base v.walk) finished.closed stops (tails_of s v.system first wanted v.base v.walk v.target)
              (λ j stop. tails_known v system law first wanted valid.base.fits valid.target.fits (stopped j stop).0) (pairs_of s v.system first wanted v.base v.walk) (weight_in s v.walk answer_place)
              (pairs_walked system law first wanted v.base v.walk valid.base.fits valid.walk.fits none stops v.target valid.target.fits walking.settled) sums,
        )

-- what a search found is there still
pub finished_over : {S W Map : Type 0} (operations : S → Operations W Map) (first : PatternValue) (v v1 : TablesValue S W Map) → IsWalkedOver v v1 → IsFinished operations v.system first v → IsFinished operations v1.system first v1
finished_over {S} {W} {Map} operations first v v1 over finished =
    let P : TablesValue S W Map → Type 0 = λ u. IsFinished operations u.system first u in
    subst P (sym over) (record { sound = finished.sound; closed = finished.closed })

pub stopped_over : {S W Map : Type 0} (operations : S → Operations W Map) (first wanted : PatternValue) (stops : ℕ → Bool) (v v1 : TablesValue S W Map) → IsWalkedOver v v1
    → IsStopped (operations v.system.semiring) first wanted stops v → IsStopped (operations v1.system.semiring) first wanted stops v1
stopped_over {S} {W} {Map} operations first wanted stops v v1 over stopped =
    let P : TablesValue S W Map → Type 0 = λ u. IsStopped (operations u.system.semiring) first wanted stops u in
    subst P (sym over) (λ j stop. let is = stopped j stop in (record { sums = is.0.sums; ends = is.0.ends; reads = is.0.reads; opens = is.0.opens }, is.1))
