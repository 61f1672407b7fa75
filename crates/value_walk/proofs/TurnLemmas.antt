-- The beginning of the walk, a turn, and its end.
use Rattle.std.proofs.Common.{◌≡◌, ◌⊎◌, inl, inr, ℕ, zero, suc, ◌<◌, ◌^◌, true, false, List, [], ◌∷◌, length, refl, sym, ap, ◌∙◌, subst, arith}
use Rattle.std.specs.Prelude.{Some, slice_get}
use Rattle.std.proofs.lemmas.Option.{same_Some}
use Rattle.semiring_laws.specs.Semiring.{Operations, IsSemiring, Fits}
use Rattle.pushdown_rules.specs.Pushdown.{IsSystem}
use Rattle.config_patterns.specs.Membership.{PatternValue}
use Rattle.weighted_automata.specs.declared.place.Label.{Label}
use Rattle.weighted_automata.specs.declared.place.Label.TheVariants.{Symbol, Empty}
use Rattle.weighted_automata.specs.declared.place.Place.{Place}
use Rattle.weight_tables.specs.Entries.{TableEntry, NoneWaits, taken, lowered_in, weight_in, settled_in}
use Rattle.weight_tables.specs.Tables.{TablesValue, AreTables, with_entries, with_hand}
use Rattle.weight_tables.specs.Turns.{turns_left}
use Rattle.weight_tables.specs.declared.layer.Layer.TheVariants.{Walk}
use Rattle.weight_tables.proofs.CallerLemmas.{place_fits, taken_weight, index_there, weight_at_index, taken_turns}
use Rattle.walk_pairs.specs.declared.pairs.Stage.{Stage}
use Rattle.walk_pairs.specs.declared.pairs.Stage.TheVariants.{Down, Across, Before, Above}
use Rattle.walk_pairs.specs.Pairs.{number_of, pair_place, answer_place, place_over}
use Rattle.walk_pairs.specs.Lowerings.{AreLowered, ArePairsLowered}
use Rattle.walk_pairs.specs.Reading.{IsStand, IsStep}
use Rattle.walk_pairs.proofs.CallerLemmas.{none_pairs, one_lowered, lowered_all_fit, lowered_counts, lowered_holds, lowered_all_turns, one_below}
use Rattle.value_laws.specs.Settled.{AreWeights}
use Rattle.value_laws.proofs.CallerLemmas.{answer_below, sum_answers}
use Rattle.walk_pairs.specs.Answering.{IsAnswered, IsWalkedOver}
use Rattle.value_walk.specs.Answering.{pops_in, enters_in, ArePopSums, AreEnterSums}
use Rattle.value_walk.specs.private.Walking.{IsMade, IsWalking, IsGivenDown, IsGivenAbove, IsPlaceGiven, down_in, across_in, answer_in}
use Rattle.value_walk.proofs.GivenLemmas.{down_fits, above_fits, stand_fits, step_fits}
use Rattle.value_walk.proofs.MadeLemmas.{made_none, made_joins, made_first, at_place, down_made, above_made, stand_made, step_made}
use Rattle.value_walk.proofs.SettleLemmas.{AreSettled, done_settled, first_settled, turn_settled}

number_small : (stage : Stage) → number_of stage < 4
number_small Down = omega arith
number_small Across = omega arith
number_small Before = omega arith
number_small Above = omega arith

abbrev IsNoPair : Place → Type 0
IsNoPair x = (stage : Stage) (i y : ℕ) → x ≡ pair_place stage i y → ⊥

-- what stands at a place is a pair of a stage, or none
which_pair : (f : ℕ) (l : Label) (t : ℕ) → let x : Place = record { from = f; label = l; to = t } in
    ((stage : Stage) × (i : ℕ) × (y : ℕ) × (x ≡ pair_place stage i y)) ⊎ IsNoPair x
which_pair zero (Symbol i) t = inl (Down, i, t, refl)
which_pair (suc zero) (Symbol i) t = inl (Across, i, t, refl)
which_pair (suc (suc zero)) (Symbol i) t = inl (Before, i, t, refl)
which_pair (suc (suc (suc zero))) (Symbol i) t = inl (Above, i, t, refl)
which_pair (suc (suc (suc (suc n)))) (Symbol i) t = inr (λ stage j y e. let same : suc (suc (suc (suc n))) ≡ number_of stage = ap (λ (p : Place). p.from) e in let small = number_small stage in omega (arith, same, small))
which_pair f Empty t = inr (λ stage j y e. let same : Empty ≡ Symbol j = ap (λ (p : Place). p.label) e in cc)

-- an entry that was taken stands where it stood
pub taken_at : {W : Type 0} (t : ℕ) (es : List (TableEntry W)) (e : TableEntry W) → slice_get es t ≡ Some e → slice_get (taken t es) t ≡ Some (record e { waits = false })
taken_at t [] e there = cc
taken_at zero (d ∷ es) e there = ap (λ (f : TableEntry _). Some (record f { waits = false })) (same_Some d e there)
taken_at (suc t) (d ∷ es) e there = taken_at t es e there

module _ {S W Map : Type 0} (operations : S → Operations W Map) (v : TablesValue S W Map) (system : IsSystem operations v.system) (laws : IsSemiring (operations v.system.semiring)) (valid : AreTables (operations v.system.semiring) v) (from to : PatternValue) where
  abbrev s : Operations W Map
  s = operations v.system.semiring

  pops_fit : AreWeights s (pops_in s v)
  pops_fit c g q = place_fits s (place_over c g q) v.base laws.fits-zero valid.base.fits

  enters_fit : AreWeights s (enters_in s v)
  enters_fit c g a = place_fits s (place_over c g a) v.target laws.fits-zero valid.target.fits

  abbrev Settled : List (TableEntry W) → Type 0
  Settled = AreSettled laws from to (pops_in s v) (enters_in s v) pops_fit enters_fit

  -- What a turn does.
  pub record IsTurned (new : TablesValue S W Map) : Type 0 where
    pub walking : IsWalking s from to new
    pub others : IsWalkedOver v new
    pub fewer : turns_left s new.walk < turns_left s v.walk

  module _ (pops : ArePopSums s v) (enters : AreEnterSums s v to) (walking : IsWalking s from to v) (t : ℕ) (e : TableEntry W) (there : slice_get v.walk t ≡ Some e) (waits : e.waits ≡ true) where
    -- the tables once it was taken, with its weight in hand
    abbrev pub at_hand : TablesValue S W Map
    at_hand = with_hand e.weight (with_entries Walk (taken t v.walk) v)

    module _ (valid' : AreTables s at_hand) (new : TablesValue S W Map) (few : length new.walk < 2 ^ 32) where
      weight_is : weight_in s v.walk e.place ≡ e.weight
      weight_is = (weight_at_index s e.place v.walk t e (index_there v.walk valid.walk.distinct t e there) there).0

      conclude : (Is : Place → W → Type 0) → ((x : Place) (w : W) → Is x w → Fits s w) → ((x : Place) (w : W) → Is x w → IsMade from to v.system s x w) → ArePairsLowered s Is at_hand new → Settled new.walk → IsTurned new
      conclude Is fit holds lowered settled =
          let hand : new.hand ≡ e.weight = ap (λ (u : TablesValue S W Map). u.hand) lowered.others in
          let over : IsWalkedOver v new = lowered.others ∙ ap (λ h. with_hand h (with_entries Walk new.walk v)) (sym hand) in
          let made : (x : Place) → IsMade from to v.system s x (weight_in s new.walk x) =
          lowered_holds laws Is fit (taken t v.walk) new.walk lowered.pairs valid'.walk.fits (IsMade from to v.system s) (made_joins system laws from to) holds
          (λ x. subst (IsMade from to v.system s x) (sym (taken_weight s x t v.walk)) (walking.made x)) in
          let less = lowered_all_turns laws Is fit (taken t v.walk) new.walk lowered.pairs valid'.walk.fits few in
          let one = taken_turns laws t v.walk e there waits in
          let P : TablesValue S W Map → Type 0 = IsWalking s from to in
          record {
            walking = subst P (sym over) (record { made = made; settled = settled });
            others = over;
            fewer = omega (arith, less, one);
          }

      -- what was taken has given all that it gives, and the rest was settled
      settled_by : (Is : Place → W → Type 0) → ((x : Place) (w : W) → Is x w → Fits s w) → ArePairsLowered s Is at_hand new → IsPlaceGiven s from to e.place at_hand new → Settled new.walk
      settled_by Is fit lowered given =
          turn_settled laws from to (pops_in s v) (enters_in s v) pops_fit enters_fit v.walk valid.walk t e there valid'.hand valid'.walk.fits Is fit new.walk lowered.pairs (λ i c is. (given.down i c is).met) (λ k c is. (given.above k c is).met)
          (λ i a is. (given.across i a is).met) (λ k l is. (given.before k l is).met) walking.settled

      made_here : (x : Place) → e.place ≡ x → IsMade from to v.system s x e.weight
      made_here x is =
          let P : Place → Type 0 = λ y. IsMade from to v.system s y e.weight in
          subst P is (subst (IsMade from to v.system s e.place) weight_is (walking.made e.place))

      of_stage : (stage : Stage) (i y : ℕ) → e.place ≡ pair_place stage i y → IsPlaceGiven s from to e.place at_hand new → IsTurned new
      of_stage Down i c is given =
          let all = given.down i c is in
          let fit = down_fits operations at_hand laws valid' from to i c in
          conclude (IsGivenDown s from to at_hand i c) fit (down_made at_hand system laws from to i c (made_here (pair_place Down i c) is)) all.lowered (settled_by (IsGivenDown s from to at_hand i c) fit all.lowered given)
      of_stage Across i a is given =
          let all = given.across i a is in
          let fit = stand_fits operations at_hand laws valid' from to i a in
          conclude (IsStand e.weight from.items to.items i a) fit (stand_made at_hand system laws from to i a (made_here (pair_place Across i a) is)) all.lowered (settled_by (IsStand e.weight from.items to.items i a) fit all.lowered given)
      of_stage Above k c is given =
          let all = given.above k c is in
          let fit = above_fits operations at_hand laws valid' from to k c in
          conclude (IsGivenAbove s from to at_hand k c) fit (above_made at_hand system laws from to pops enters k c (made_here (pair_place Above k c) is)) all.lowered (settled_by (IsGivenAbove s from to at_hand k c) fit all.lowered given)
      of_stage Before k l is given =
          let all = given.before k l is in
          let fit = step_fits operations at_hand laws valid' from to k l in
          conclude (IsStep e.weight from.items to.items Across k l) fit (step_made at_hand system laws from to k l (made_here (pair_place Before k l) is)) all.lowered (settled_by (IsStep e.weight from.items to.items Across k l) fit all.lowered given)

      pub turned : IsPlaceGiven s from to e.place at_hand new → IsTurned new
      turned given = elim (which_pair e.place.from e.place.label e.place.to) [
        | inl (stage, i, y, is) ↦ of_stage stage i y is given
        | inr none ↦
            let Q : TablesValue S W Map → Type 0 = λ u. ArePairsLowered s (λ _ _. ⊥) at_hand u in
            let lowered : ArePairsLowered s (λ _ _. ⊥) at_hand new = subst Q (sym (given.others none)) (none_pairs s (λ _ _. ⊥) at_hand) in
            conclude (λ _ _. ⊥) (λ x w no. absurd no) (λ x w no. absurd no) lowered (settled_by (λ _ _. ⊥) (λ x w no. absurd no) lowered given)
      ]

  -- The walk has begun: one pair waits.
  module _ (new : TablesValue S W Map) (made_of : new ≡ with_entries Walk (lowered_in s (pair_place Down 0 from.control) s.one []) (with_hand s.one (with_entries Walk [] v))) where
    abbrev Begins : Place → W → Type 0
    Begins x w = (x ≡ pair_place Down 0 from.control) × (w ≡ s.one)

    begins_fit : (x : Place) (w : W) → Begins x w → Fits s w
    begins_fit x w is = subst (Fits s) (sym is.1) laws.fits-one

    abbrev es : List (TableEntry W)
    es = lowered_in s (pair_place Down 0 from.control) s.one []

    by : AreLowered s Begins [] es
    by = one_lowered s Begins (pair_place Down 0 from.control) s.one (refl, refl) [] es refl

    none_counts : (x : Place) → settled_in s es x ≡ s.zero
    none_counts x = elim (lowered_counts laws Begins begins_fit [] es by tt x) [ inl same ↦ same | inr none ↦ none ]

    pub begun_over : IsWalkedOver v new
    begun_over =
        let walk : new.walk ≡ es = ap (λ (u : TablesValue S W Map). u.walk) made_of in
        let hand : new.hand ≡ s.one = ap (λ (u : TablesValue S W Map). u.hand) made_of in
        made_of ∙ ap (λ h. with_hand h (with_entries Walk es v)) (sym hand) ∙ ap (λ ws. with_hand new.hand (with_entries Walk ws v)) (sym walk)

    pub begun_walking : IsWalking s from to new
    begun_walking =
        let P : TablesValue S W Map → Type 0 = IsWalking s from to in
        subst P (sym made_of) (record {
          made = lowered_holds laws Begins begins_fit [] es by tt (IsMade from to v.system s) (made_joins system laws from to)
              (λ x w is. at_place system laws from to x (pair_place Down 0 from.control) s.one w is.0 is.1 (made_first system laws from to)) (made_none system laws from to);
          settled = first_settled laws from to (pops_in s v) (enters_in s v) pops_fit enters_fit es (lowered_all_fit laws Begins begins_fit [] es by tt) none_counts
              (one_below laws (pair_place Down 0 from.control) s.one laws.fits-one [] es tt refl);
        })

  -- Nothing waits: the answer.
  pub ended : ArePopSums s v → AreEnterSums s v to → IsWalking s from to v → NoneWaits v.walk → IsAnswered s v.system from to (answer_in s v.walk)
  ended pops enters walking none =
      let fits : (x : Place) → Fits s (weight_in s v.walk x) = λ x. place_fits s x v.walk laws.fits-zero valid.walk.fits in
      let settled = done_settled laws from to (pops_in s v) (enters_in s v) pops_fit enters_fit v.walk valid.walk.fits none walking.settled in
      let sums = walking.made answer_place in (
        sums.list,
        sum_answers system laws from to (answer_in s v.walk) sums
            (answer_below system laws from to (pops_in s v) (enters_in s v) pops_fit enters_fit (λ a q b i goes. (pops q b i).below a goes) (λ a q b i leads. (enters q b i).below a leads)
            (down_in s v.walk) (across_in s v.walk) (λ i c. fits (pair_place Down i c)) (λ i a. fits (pair_place Across i a)) (answer_in s v.walk) (fits answer_place) settled),
      )
