-- Tails are lowered by weights that combine runs, and nothing else is changed but the hand.
use Rattle.std.proofs.Common.{◌≡◌, ◌⊎◌, inl, inr, ℕ, Bool, true, false, ◌<◌, ◌+◌, ◌≤◌, ◌^◌, List, [], ◌∷◌, length, drop, refl, sym, ap, ◌∙◌, subst, arith}
use Rattle.std.specs.Prelude.{All, IsTrue, ◌||◌, nat_eq, nat_le, Option, None, Some, slice_get}
use Rattle.std.specs.List.{AllByRecursion, list_all}
use Rattle.std.proofs.lemmas.Bool.{and_parts, leb-true, eq-eqb}
use Rattle.std.proofs.lemmas.Option.{same_Some}
use Rattle.wpds_base.specs.Lists.{IsIn}
use Rattle.semiring_laws.specs.Semiring.{Operations, IsSemiring, Fits, Below}
use Rattle.semiring_laws.proofs.CallerLemmas.{below_trans, below_zero, combine_zero}
use Rattle.pushdown_rules.specs.Pushdown.{Pushdown, IsSystem}
use Rattle.pushdown_rules.specs.Values.{value_of}
use Rattle.pushdown_rules.proofs.CallerLemmas.{value_fits}
use Rattle.config_patterns.specs.Edges.{edges_of, is_final_of, is_starred}
use Rattle.config_patterns.specs.Membership.{PatternValue}
use Rattle.weighted_automata.specs.declared.place.Place.{Place}
use Rattle.weight_tables.specs.Entries.{TableEntry, lowered_in, weight_in, settled_in}
use Rattle.weight_tables.specs.Tables.{TablesValue, AreTables, with_entries, with_hand}
use Rattle.weight_tables.specs.Turns.{turns_left}
use Rattle.weight_tables.specs.declared.layer.Layer.TheVariants.{Target}
use Rattle.weight_tables.proofs.CallerLemmas.{place_fits}
use Rattle.walk_pairs.specs.Lowerings.{AreLowered}
use Rattle.walk_pairs.proofs.CallerLemmas.{AllFit, edge_from, edge_to, none_lowered, one_lowered, lowered_then, lowered_all_fit, lowered_falls, lowered_counts, lowered_all_turns, lowered_holds, one_below}
use Rattle.value_laws.specs.Runs.{Sums}
use Rattle.value_laws.proofs.CallerLemmas.{sums_none, sums_combine, sums_within}
use Rattle.forward_value_laws.specs.Model.{Source, item, callee}
use Rattle.forward_value_laws.specs.Tails.{LiesBelow}
use Rattle.forward_value_laws.proofs.CallerLemmas.{end_sum}
use Rattle.forward_value_search.specs.Places.{arrow, number_of}
use Rattle.forward_value_search.proofs.CallerLemmas.{item_number, one_source}
use Rattle.value_tails.specs.Tailing.{tail_place, tail_in, IsTail}
use Rattle.value_tails.specs.private.Steps.{IsTailWeight, AreTailsLowered}

module _ {S W Map : Type 0} {operations : S → Operations W Map} {p : Pushdown S W Map} (system : IsSystem operations p) (laws : IsSemiring (operations p.semiring)) (first : PatternValue) where
  abbrev ours : Operations W Map
  ours = operations p.semiring

  abbrev items : ℕ
  items = length first.items

  abbrev Lies : Source → W → Type 0
  Lies from w = Sums ours (value_of ours p) (LiesBelow p first from) w

  pub made_joins : (n : ℕ) (a b : W) → Fits ours a → Fits ours b → IsTail ours first p n a → IsTail ours first p n b → IsTail ours first p n (ours.combine a b)
  made_joins n a b fa fb (inl none) two =
      let P : W → Type 0 = IsTail ours first p n in
      subst P (sym (ap (λ u. ours.combine u b) none ∙ laws.combine_zero b fb)) two
  made_joins n a b fa fb (inr one) (inl none) =
      let P : W → Type 0 = IsTail ours first p n in
      subst P (sym (ap (ours.combine a) none ∙ combine_zero laws a fa)) (inr one)
  made_joins n a b fa fb (inr (from, is, sum)) (inr (from', is', sum')) =
      let same : from' ≡ from = one_source items p from' from n is' is in
      let U : Source → Type 0 = λ y. Lies y b in
      inr (from, is, sums_combine laws (value_of ours p) (value_fits system laws) (LiesBelow p first from) a b sum (subst U same sum'))

  -- where the pattern may stop
  pub ends_made : (a : ℕ) → IsTrue (is_final_of first.items a) → IsTail ours first p a ours.one
  ends_made a final =
      let low = leb-true a items (and_parts (nat_le a items) (list_all is_starred (drop a first.items)) final).0 in
      inr (item a, item_number items p a low, end_sum system laws first first a [] a refl final tt)

  -- where the pattern reads one symbol more
  pub reads_made : (a g b : ℕ) → IsIn (record { from = a; symbol = g; to = b }) (edges_of first.items) → g < first.symbols → (w : W) → IsTail ours first p b w → IsTail ours first p a w
  reads_made a g b edge low w (inl none) = inl none
  reads_made a g b edge low w (inr (from, is, sum)) =
      let same : from ≡ item b = one_source items p from (item b) b is (item_number items p b (edge_to first.items a g b edge)) in
      let U : Source → Type 0 = λ y. Lies y w in
      inr (
        item a,
        item_number items p a (edge_from first.items a g b edge),
        sums_within laws (value_of ours p) (value_fits system laws) (LiesBelow p first (item b)) (LiesBelow p first (item a))
            (λ run below. (g ∷ below.0, below.1, (b, edge, below.2), below.3, (inr low, below.4), below.5)) w (subst U same sum),
      )

module _ {S W Map : Type 0} (operations : S → Operations W Map) (laws : (x : S) → IsSemiring (operations x)) (first : PatternValue) where
  abbrev of : TablesValue S W Map → Operations W Map
  of v = operations v.system.semiring

  abbrev pub Tails : TablesValue S W Map → TablesValue S W Map → Type 0
  Tails v new = AreTailsLowered (of v) first v new

  pub tails_none : (v : TablesValue S W Map) → Tails v v
  tails_none v = record { lowered = none_lowered (of v) (IsTailWeight (of v) first v) v.target; others = refl }

  pub tails_then : (v v1 v2 : TablesValue S W Map) → Tails v v1 → Tails v1 v2 → Tails v v2
  tails_then v v1 v2 one two =
      let P : TablesValue S W Map → Type 0 = λ u. AreTailsLowered (of u) first u v2 in
      let two' = subst P one.others two in
      record { lowered = lowered_then (of v) (IsTailWeight (of v) first v) v.target v1.target v2.target one.lowered two'.lowered; others = two'.others }

  -- one tail was lowered
  module _ (v new : TablesValue S W Map) (fits : AllFit (of v) v.target) (n : ℕ) (w : W) (fw : Fits (of v) w) (is : IsTail (of v) first v.system n w)
      (made : new ≡ with_entries Target (lowered_in (of v) (tail_place n) w v.target) v) where
    target_is : new.target ≡ lowered_in (of v) (tail_place n) w v.target
    target_is = ap (λ (u : TablesValue S W Map). u.target) made

    pub hand_stays : new.hand ≡ v.hand
    hand_stays = ap (λ (u : TablesValue S W Map). u.hand) made

    pub one_tail : Tails v new
    one_tail = record {
      lowered = one_lowered (of v) (IsTailWeight (of v) first v) (tail_place n) w (fw, is) v.target new.target target_is;
      others = made ∙ ap (λ es. with_entries Target es v) (sym target_is) ∙ ap (λ h. with_hand h (with_entries Target new.target v)) (sym hand_stays);
    }

    pub one_tail_below : Below (of v) (tail_in (of v) new.target n) w
    one_tail_below = one_below (laws v.system.semiring) (tail_place n) w fw v.target new.target fits target_is

  module _ (v new : TablesValue S W Map) (fits : AllFit (of v) v.target) (tails : Tails v new) where
    abbrev s : Operations W Map
    s = of v

    abbrev law : IsSemiring s
    law = laws v.system.semiring

    fit : (x : Place) (w : W) → IsTailWeight s first v x w → Fits s w
    fit x w is = is.0

    pub tails_fit : AllFit s new.target
    tails_fit = lowered_all_fit law (IsTailWeight s first v) fit v.target new.target tails.lowered fits

    pub tails_falls : (y : Place) → Below s (weight_in s new.target y) (weight_in s v.target y)
    tails_falls = lowered_falls law (IsTailWeight s first v) fit v.target new.target tails.lowered fits

    pub tails_counts : (y : Place) → (settled_in s new.target y ≡ settled_in s v.target y) ⊎ (settled_in s new.target y ≡ s.zero)
    tails_counts = lowered_counts law (IsTailWeight s first v) fit v.target new.target tails.lowered fits

    pub tails_turns : length new.target < 2 ^ 32 → turns_left s new.target ≤ turns_left s v.target
    tails_turns = lowered_all_turns law (IsTailWeight s first v) fit v.target new.target tails.lowered fits

    pub tails_hold : IsSystem operations v.system → ((x : Place) → IsTail s first v.system x.to (weight_in s v.target x)) → (x : Place) → IsTail s first v.system x.to (weight_in s new.target x)
    tails_hold system were =
        lowered_holds law (IsTailWeight s first v) fit v.target new.target tails.lowered fits (λ x w. IsTail s first v.system x.to w) (λ x a b fa fb one two. made_joins system law first x.to a b fa fb one two) (λ x w is. is.1) were

    -- what lies below a weight does so later
    pub tail_later : (n : ℕ) (y : W) → Fits s y → Below s (tail_in s v.target n) y → Below s (tail_in s new.target n) y
    tail_later n y fy below =
        below_trans law (tail_in s new.target n) (tail_in s v.target n) y (place_fits s (tail_place n) new.target law.fits-zero tails_fit) (place_fits s (tail_place n) v.target law.fits-zero fits) fy (tails_falls (tail_place n)) below
