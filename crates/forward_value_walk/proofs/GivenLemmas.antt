-- What a pair gives, one part after another.
use Rattle.std.proofs.Common.{◌≡◌, ◌⊎◌, inl, inr, ℕ, ◌<◌, ◌≤◌, length, refl, sym, ap, ◌∙◌, subst, arith}
use Rattle.std.specs.Prelude.{Bool, IsTrue, IsFalse, None, Some, slice_get, if◌then◌else◌}
use Rattle.std.proofs.lemmas.Bool.{false≢true}
use Rattle.semiring_laws.specs.Semiring.{Operations, IsSemiring, Fits, Below}
use Rattle.semiring_laws.proofs.CallerLemmas.{below_itself, below_zero}
use Rattle.config_patterns.specs.Membership.{PatternValue}
use Rattle.weighted_automata.specs.declared.place.Place.{Place}
use Rattle.weight_tables.specs.Entries.{TableEntry, HasDistinctPlaces, index_at, lowered_in, weight_in, settled_in}
use Rattle.weight_tables.specs.Tables.{TablesValue, with_entries, with_hand}
use Rattle.weight_tables.specs.declared.layer.Layer.TheVariants.{Walk}
use Rattle.weight_tables.proofs.CallerLemmas.{place_fits, settled_or_none, index_there, weight_at_index, none_weight}
use Rattle.walk_pairs.specs.declared.pairs.Stage.TheVariants.{Down, Before, Above}
use Rattle.walk_pairs.specs.Pairs.{pair_place, answer_place}
use Rattle.walk_pairs.specs.Reading.{IsStand, IsStep, IsStateStand, IsItemSkip, IsStateRead, IsPairRead, IsPairGiven as IsReadOn, IsStateGiven, IsSkipGiven, IsBeforeGiven}
use Rattle.walk_pairs.proofs.CallerLemmas.{AllFit, one_pair, one_below, pair_kept, before_kept, state_kept, skip_kept}
use Rattle.forward_value_search.specs.Search.{StandsAt}
use Rattle.value_tails.specs.Tailing.{tail_place, tail_in}
use Rattle.forward_value_walk.specs.Walking.{IsMade}
use Rattle.forward_value_walk.specs.private.Going.{IsGoneOn, AreCallsGiven, IsPairGiven, IsAboveGiven, AreItemsGiven, IsStopped}
use Rattle.forward_value_walk.proofs.MadeLemmas.{stand_made, step_made, state_made, skip_made}
use Rattle.forward_value_walk.proofs.SettleLemmas.{tailed_kept}
use Rattle.forward_value_walk.proofs.RestLemmas.{rest_made}
use Rattle.forward_value_walk.proofs.GoingLemmas.{IsWalkable, settled_fits, none_gone, hand_gone, gone_then, pairs_gone, gone_fit, gone_falls, gone_counts, gone_walkable}

module _ {S W Map : Type 0} (operations : S → Operations W Map) (laws : (x : S) → IsSemiring (operations x)) (first wanted : PatternValue) (v : TablesValue S W Map) (walkable : IsWalkable operations first wanted v)
    (distinct : HasDistinctPlaces v.walk) where
  abbrev s : Operations W Map
  s = operations v.system.semiring

  abbrev law : IsSemiring s
  law = laws v.system.semiring

  abbrev Gone : TablesValue S W Map → TablesValue S W Map → Type 0
  Gone u new = IsGoneOn (operations u.system.semiring) first wanted u new

  -- from tables that went on to others that did
  falls_since : (u new : TablesValue S W Map) → Gone v u → Gone u new → (y : Place) → Below s (weight_in s new.walk y) (weight_in s u.walk y)
  falls_since u new over since y =
      let P : TablesValue S W Map → Type 0 = λ z. Below (operations z.system.semiring) (weight_in (operations z.system.semiring) new.walk y) (weight_in (operations z.system.semiring) z.walk y) in
      subst P over.others (gone_falls operations laws first wanted u new (gone_walkable operations laws first wanted v u walkable over) since y)

  fits_in : (u : TablesValue S W Map) → Gone v u → (y : Place) → Fits s (weight_in s u.walk y)
  fits_in u over y = place_fits s y u.walk law.fits-zero (gone_fit operations laws first wanted v u walkable over)

  -- what an entry of the walk was, with its weight in hand
  module _ (place : Place) (t : ℕ) (stands : StandsAt t place v.walk) where
    abbrev e : TableEntry W
    e = stands.0

    weight_is : weight_in s v.walk place ≡ e.weight
    weight_is = ap (weight_in s v.walk) (sym stands.2) ∙ (weight_at_index s e.place v.walk t e (index_there v.walk distinct t e stands.1) stands.1).0

    fits_entry : Fits s e.weight
    fits_entry = subst (Fits s) weight_is (place_fits s place v.walk law.fits-zero walkable.walk)

    made_entry : IsMade s v.system first wanted place e.weight
    made_entry = subst (IsMade s v.system first wanted place) weight_is (walkable.made place)

    -- the tables with the entry's weight in hand
    abbrev held : TablesValue S W Map
    held = with_hand e.weight v

    to_held : Gone v held
    to_held = hand_gone operations laws first wanted v held e.weight refl

    -- what counts of it at last
    counts : (new : TablesValue S W Map) → Gone v new → (settled_in s new.walk place ≡ e.weight) ⊎ (settled_in s new.walk place ≡ s.zero)
    counts new over = elim (gone_counts operations laws first wanted v new walkable over place) [
      | inr none ↦ inr none
      | inl same ↦ elim (settled_or_none s place v.walk) [ inl is_there ↦ inl (same ∙ is_there ∙ weight_is) | inr none ↦ inr (same ∙ none) ]
    ]

  -- a pair of a state and a source
  module _ (state source t : ℕ) (stands : StandsAt t (pair_place Down state source) v.walk) where
    abbrev pair : Place
    pair = pair_place Down state source

    abbrev hand : W
    hand = stands.0.weight

    module _ (v1 v2 : TablesValue S W Map) (is : v1 ≡ held pair t stands) (reads : IsReadOn (operations v1.system.semiring) v1 wanted.items first.items state source v2) where
      reads_held : IsReadOn s (held pair t stands) wanted.items first.items state source v2
      reads_held = let P : TablesValue S W Map → Type 0 = λ u. IsReadOn (operations u.system.semiring) u wanted.items first.items state source v2 in subst P is reads

      to_read : Gone (held pair t stands) v2
      to_read = pairs_gone operations laws first wanted (held pair t stands) v2 (IsStand hand wanted.items first.items state source)
          (λ x w one. (subst (Fits s) (sym one.weight) (fits_entry pair t stands), stand_made walkable.system law first wanted hand state source (made_entry pair t stands) x w one)) reads_held.lowered

      read_gone : Gone v v2
      read_gone = gone_then operations laws first wanted v (held pair t stands) v2 (to_held pair t stands) to_read

      module _ (stops : ℕ → Bool) (going : IsFalse (stops state)) where
        going_is : (new : TablesValue S W Map) → Gone v2 new → (length first.items < source → IsStateRead s wanted.items state source hand (λ x y. weight_in s new.walk (pair_place Above x y))) → IsPairGiven s first wanted stops state source v new
        going_is new since alone =
            let all : Gone v new = gone_then operations laws first wanted v v2 new read_gone since in
            let before : ℕ → ℕ → W = λ x y. weight_in s new.walk (pair_place Before x y) in
            let above : ℕ → ℕ → W = λ x y. weight_in s new.walk (pair_place Above x y) in
            let fa = λ (x y : ℕ). fits_in new all (pair_place Above x y) in
            let now = counts pair t stands new all in
            let fp = fits_entry pair t stands in
            let P : Bool → Type 0 = λ b. IsPairRead s wanted.items first.items state source (if b then s.zero else settled_in s new.walk pair) before in
            let Q : Bool → Type 0 = λ b. IsStateRead s wanted.items state source (if b then s.zero else settled_in s new.walk pair) above in
            record {
              gone = all;
              met = record {
                states = λ deep.
                    subst Q (sym going)
                    (state_kept law wanted.items above above fa fa (λ x y. below_itself law (above x y) (fa x y)) hand (settled_in s new.walk pair) fp now state source (alone deep));
                reads = subst P (sym going)
                    (pair_kept law wanted.items first.items (λ x y. weight_in s v2.walk (pair_place Before x y)) before (λ x y. fits_in v2 read_gone (pair_place Before x y)) (λ x y. fits_in new all (pair_place Before x y))
                    (λ x y. falls_since v2 new read_gone since (pair_place Before x y)) hand (settled_in s new.walk pair) fp now state source reads_held.met);
                rests = λ stop. absurd (false≢true (sym going ∙ stop));
              };
            }

        -- above an item of the first pattern no calls lie
        pub pair_read : source ≤ length first.items → IsPairGiven s first wanted stops state source v v2
        pair_read low = going_is v2 (none_gone operations laws first wanted v2) (λ deep. absurd (omega (arith, low, deep)))

        pub pair_given : (v3 : TablesValue S W Map) → IsStateGiven (operations v2.system.semiring) v2 wanted.items state source v3 → IsPairGiven s first wanted stops state source v v3
        pair_given v3 states =
            let P : TablesValue S W Map → Type 0 = λ u. IsStateGiven (operations u.system.semiring) u wanted.items state source v3 in
            let Q : TablesValue S W Map → Type 0 = λ u. Gone u v3 in
            let first_states = subst P reads_held.lowered.others states in
            let since = pairs_gone operations laws first wanted (with_entries Walk v2.walk (held pair t stands)) v3 (IsStateStand hand wanted.items state source)
            (λ x w one. (subst (Fits s) (sym one.weight) (fits_entry pair t stands), state_made walkable.system law first wanted hand state source (made_entry pair t stands) x w one)) first_states.lowered in
            going_is v3 (subst Q (sym reads_held.lowered.others) since) (λ _. first_states.met)

    -- where the walk stops, with the tail of the pair's source
    module _ (stops : ℕ → Bool) (stop : IsTrue (stops state)) (stopped : IsStopped s first wanted stops v) (tails_fits : AllFit s v.target) where
      given_by : (new : TablesValue S W Map) → Gone v new → Below s (weight_in s new.walk answer_place) (s.extend (tail_in s v.target source) (settled_in s new.walk pair)) → IsPairGiven s first wanted stops state source v new
      given_by new gone below =
          let before : ℕ → ℕ → W = λ x y. weight_in s new.walk (pair_place Before x y) in
          let above : ℕ → ℕ → W = λ x y. weight_in s new.walk (pair_place Above x y) in
          let P : Bool → Type 0 = λ b. IsPairRead s wanted.items first.items state source (if b then s.zero else settled_in s new.walk pair) before in
          let Q : Bool → Type 0 = λ b. IsStateRead s wanted.items state source (if b then s.zero else settled_in s new.walk pair) above in
          record {
            gone = gone;
            met = record {
              states = λ _. subst Q (sym stop) (record { stands = λ _ k _. below_zero law (above k source) (fits_in new gone (pair_place Above k source)) });
              reads = subst P (sym stop) (record { stands = λ _ _ k l _ _. below_zero law (before k l) (fits_in new gone (pair_place Before k l)) });
              rests = λ _. below;
            };
          }

      -- without a tail nothing is given
      pub no_rest : index_at (tail_place source) v.target ≡ None → IsPairGiven s first wanted stops state source v v
      no_rest none =
          let B : W → Type 0 = Below s (weight_in s v.walk answer_place) in
          let fx = settled_fits law pair v.walk walkable.walk in
          given_by v (none_gone operations laws first wanted v)
          (subst B (sym (ap (λ u. s.extend u (settled_in s v.walk pair)) (none_weight s (tail_place source) v.target none) ∙ law.extend-zero_left (settled_in s v.walk pair) fx))
          (below_zero law (weight_in s v.walk answer_place) (place_fits s answer_place v.walk law.fits-zero walkable.walk)))

      module _ (n : ℕ) (d : TableEntry W) (found : index_at (tail_place source) v.target ≡ Some n) (at : slice_get v.target n ≡ Some d) (new : TablesValue S W Map)
          (made : new ≡ with_entries Walk (lowered_in s answer_place (s.extend d.weight hand) v.walk) (held pair t stands)) where
        tail_is : tail_in s v.target source ≡ d.weight
        tail_is = (weight_at_index s (tail_place source) v.target n d found at).0

        fits_d : Fits s d.weight
        fits_d = subst (Fits s) tail_is (place_fits s (tail_place source) v.target law.fits-zero tails_fits)

        fits_rest : Fits s (s.extend d.weight hand)
        fits_rest = law.fits-extend d.weight hand fits_d (fits_entry pair t stands)

        rest_is : IsMade s v.system first wanted answer_place (s.extend d.weight hand)
        rest_is =
            let P : W → Type 0 = λ u. IsMade s v.system first wanted answer_place (s.extend u hand) in
            subst P tail_is (rest_made v walkable.system law first wanted walkable.base tails_fits (stopped state stop).0 state source (stopped state stop).1 hand (fits_entry pair t stands) (made_entry pair t stands))

        rest_gone : Gone v new
        rest_gone = gone_then operations laws first wanted v (held pair t stands) new (to_held pair t stands)
            (pairs_gone operations laws first wanted (held pair t stands) new (λ x w. (x ≡ answer_place) × (w ≡ s.extend d.weight hand))
            (λ x w one.
            let P : Place → Type 0 = λ y. IsMade s v.system first wanted y w in
            let Q : W → Type 0 = IsMade s v.system first wanted answer_place in
            (subst (Fits s) (sym one.1) fits_rest, subst P (sym one.0) (subst Q (sym one.1) rest_is)))
            (one_pair s (λ x w. (x ≡ answer_place) × (w ≡ s.extend d.weight hand)) answer_place (s.extend d.weight hand) (refl, refl) (held pair t stands) new made))

        pub rest_given : IsPairGiven s first wanted stops state source v new
        rest_given =
            let walk_is = ap (λ (u : TablesValue S W Map). u.walk) made in
            let fa = fits_in new rest_gone answer_place in
            let below = one_below law answer_place (s.extend d.weight hand) fits_rest v.walk new.walk walkable.walk walk_is in
            let P : W → Type 0 = λ u. Below s (weight_in s new.walk answer_place) (s.extend u (settled_in s new.walk pair)) in
            given_by new rest_gone
            (subst P (sym tail_is)
            (tailed_kept walkable.system law first wanted v.base walkable.base (weight_in s new.walk answer_place) (weight_in s new.walk answer_place) d.weight hand (settled_in s new.walk pair) fa fa fits_d (fits_entry pair t stands)
            (below_itself law (weight_in s new.walk answer_place) fa) (counts pair t stands new rest_gone) below))

  -- an item above a source
  module _ (l source t : ℕ) (stands : StandsAt t (pair_place Above l source) v.walk) (v1 v2 : TablesValue S W Map) where
    abbrev place : Place
    place = pair_place Above l source

    abbrev worth : W
    worth = stands.0.weight

    module _ (is : v1 ≡ held place t stands) (skips : IsSkipGiven (operations v1.system.semiring) v1 wanted.items l source v2) where
      skips_held : IsSkipGiven s (held place t stands) wanted.items l source v2
      skips_held = let P : TablesValue S W Map → Type 0 = λ u. IsSkipGiven (operations u.system.semiring) u wanted.items l source v2 in subst P is skips

      to_skipped : Gone (held place t stands) v2
      to_skipped = pairs_gone operations laws first wanted (held place t stands) v2 (IsItemSkip worth wanted.items l source)
          (λ x w one. (subst (Fits s) (sym one.weight) (fits_entry place t stands), skip_made walkable.system law first wanted worth l source (made_entry place t stands) x w one)) skips_held.lowered

      pub before_calls : Gone v v2
      before_calls = gone_then operations laws first wanted v (held place t stands) v2 (to_held place t stands) to_skipped

      module _ (v3 : TablesValue S W Map) (calls : AreCallsGiven (operations v2.system.semiring) first wanted l source v2 v3) where
        calls_first : AreCallsGiven s first wanted l source (with_hand v2.hand (with_entries Walk v2.walk v)) v3
        calls_first = let P : TablesValue S W Map → Type 0 = λ u. AreCallsGiven (operations u.system.semiring) first wanted l source u v3 in subst P before_calls.others calls

        all : Gone v v3
        all = gone_then operations laws first wanted v v2 v3 before_calls calls.gone

        pub above_given : IsAboveGiven s first wanted l source v v3
        above_given = record {
          gone = all;
          met = record {
            skips = skip_kept law wanted.items (λ x y. weight_in s v2.walk (pair_place Above x y)) (λ x y. weight_in s v3.walk (pair_place Above x y)) (λ x y. fits_in v2 before_calls (pair_place Above x y))
                (λ x y. fits_in v3 all (pair_place Above x y)) (λ x y. falls_since v2 v3 before_calls calls.gone (pair_place Above x y)) worth (settled_in s v3.walk place) (fits_entry place t stands) (counts place t stands v3 all) l source
                skips_held.met;
            opens = λ k r there g h right takes entered n. calls_first.met k r there g h right entered g h right takes n;
          };
        }

  -- what stands before two items
  module _ (k l t : ℕ) (stands : StandsAt t (pair_place Before k l) v.walk) (v1 v2 : TablesValue S W Map) where
    abbrev items : Place
    items = pair_place Before k l

    abbrev weight : W
    weight = stands.0.weight

    module _ (is : v1 ≡ held items t stands) (given : IsBeforeGiven (operations v1.system.semiring) v1 wanted.items first.items Down k l v2) where
      given_held : IsBeforeGiven s (held items t stands) wanted.items first.items Down k l v2
      given_held = let P : TablesValue S W Map → Type 0 = λ u. IsBeforeGiven (operations u.system.semiring) u wanted.items first.items Down k l v2 in subst P is given

      over : Gone v v2
      over = gone_then operations laws first wanted v (held items t stands) v2 (to_held items t stands)
          (pairs_gone operations laws first wanted (held items t stands) v2 (IsStep weight wanted.items first.items Down k l)
          (λ x w one. (subst (Fits s) (sym one.0) (fits_entry items t stands), step_made walkable.system law first wanted weight k l (made_entry items t stands) x w one)) given_held.lowered)

      stays : (y : Place) → Below s (weight_in s v2.walk y) (weight_in s v2.walk y)
      stays y = below_itself law (weight_in s v2.walk y) (fits_in v2 over y)

      pub items_given : AreItemsGiven s first wanted k l v v2
      items_given = record {
        gone = over;
        met = before_kept law wanted.items first.items (λ x y. weight_in s v2.walk (pair_place Before x y)) (λ x y. weight_in s v2.walk (pair_place Before x y)) (λ x y. fits_in v2 over (pair_place Before x y))
            (λ x y. fits_in v2 over (pair_place Before x y)) (λ x y. stays (pair_place Before x y)) weight (settled_in s v2.walk items) (fits_entry items t stands) (counts items t stands v2 over)
            (λ x y. weight_in s v2.walk (pair_place Down x y)) (λ x y. weight_in s v2.walk (pair_place Down x y)) (λ x y. fits_in v2 over (pair_place Down x y)) (λ x y. fits_in v2 over (pair_place Down x y))
            (λ x y. stays (pair_place Down x y)) (weight_in s v2.walk answer_place) (weight_in s v2.walk answer_place) (fits_in v2 over answer_place) (fits_in v2 over answer_place) (stays answer_place) k l given_held.met;
      }
