-- The places of the transitions that wait, by their numbers.
use Rattle.std.proofs.Common.{◌≡◌, ℕ, suc, zero, ◌+◌, ◌<◌, ◌≤◌, List, [], ◌∷◌, ◌++◌, length, append-nil, refl, sym, ap, ◌∙◌, subst, inl, inr, arith}
use Rattle.std.specs.Prelude.{◌||◌, nat_eq, None, Some, option_map, slice_get, unwrap_or}
use Rattle.std.specs.List.{AllByRecursion, cons_option}
use Rattle.std.proofs.lemmas.Bool.{cases_eq, cases_Bool, cond-true, cond-false, cond_both, eq-eqb, false_from_ne_true}
use Rattle.std.proofs.lemmas.Bool.{eqb-true}
use Rattle.std.proofs.lemmas.List.{length-map, length_push}
use Rattle.std.proofs.lemmas.List.Elements.{filter_map-append}
use Rattle.std.proofs.lemmas.Option.{same_Some, slice_get-map, slice_get_within}
use Rattle.weighted_automata.specs.declared.place.Place.{Place}
use Rattle.weighted_automata.specs.declared.transitions.Entry.{Entry}
use Rattle.weighted_automata.specs.Places.{same_place, has_place}
use Rattle.weighted_automata.specs.Entries.{index_at, lowered, places_of, HasDistinctPlaces}
use Rattle.weighted_automata.proofs.CallerLemmas.{distinct-lowered, entry_at-place, get_at_place, index_at-lowered, lowered_last, other_place, places-added, places-lowered, same_place_from}
use Rattle.saturation_laws.specs.Queues.{queued}
use Rattle.saturation_laws.proofs.CallerLemmas.{all_append, indexed}
use Rattle.saturation_core.specs.private.Numbers.{has_number, enqueued}
use Rattle.saturation_core.specs.private.Queued.{places_at, IsQueued}

abbrev pub AreBelow : ℕ → List ℕ → Type 0
AreBelow m ns = AllByRecursion (λ k. k < m) ns

below_more : (m n : ℕ) (ns : List ℕ) → m ≤ n → AreBelow m ns → AreBelow n ns
below_more m n [] le below = tt
below_more m n (k ∷ ns) le below = (let h : k < m = below.0 in omega arith, below_more m n ns le below.1)

below_enqueued : (m k : ℕ) (ns : List ℕ) → k < m → AreBelow m ns → AreBelow m (enqueued k ns)
below_enqueued m k ns less below =
    cond_both (has_number k ns) ns (ns ++ k ∷ []) (AreBelow m) (λ e. below) (λ e. all_append (λ j. j < m) ns (k ∷ []) below (less, tt))

pub left_of : {X : Type 0} (xs ys : List X) (k : ℕ) → k < length xs → slice_get (xs ++ ys) k ≡ slice_get xs k
left_of [] ys k less = absurd (omega (arith, less))
left_of (x ∷ xs) ys zero less = refl
left_of (x ∷ xs) ys (suc k) less = left_of xs ys k (omega (arith, less))

module _ {S W Map : Type 0} where
  -- the place with a number, and the number of a place
  place_with : (ts : List (Entry S W Map)) (k : ℕ) (t : Entry S W Map) → slice_get ts k ≡ Some t → slice_get (places_of ts) k ≡ Some t.place
  place_with ts k t e = slice_get-map (λ (u : Entry S W Map). u.place) ts k ∙ ap (option_map (λ (u : Entry S W Map). u.place)) e

  pub place_indexed : (x : Place) (ts : List (Entry S W Map)) (k : ℕ) → index_at x ts ≡ Some k → slice_get (places_of ts) k ≡ Some x
  place_indexed x ts k e =
      let there = indexed x ts k e in
      place_with ts k there.0 there.1 ∙ ap Some (entry_at-place x ts there.0 there.2)

  entry_with : (ts : List (Entry S W Map)) (k : ℕ) → k < length ts → (t : Entry S W Map) × (slice_get ts k ≡ Some t)
  entry_with [] k less = absurd (omega (arith, less))
  entry_with (t ∷ ts) zero less = (t, refl)
  entry_with (t ∷ ts) (suc k) less = entry_with ts k (omega (arith, less))

  pub place_number : (ts : List (Entry S W Map)) (k : ℕ) → k < length ts → (x : Place) × (slice_get (places_of ts) k ≡ Some x)
  place_number ts k less = let t = entry_with ts k less in (t.0.place, place_with ts k t.0 t.1)

  first_place : (ts : List (Entry S W Map)) (n : ℕ) (ns : List ℕ) (x : Place) → slice_get (places_of ts) n ≡ Some x → places_at ts (n ∷ ns) ≡ x ∷ places_at ts ns
  first_place ts n ns x e = ap (λ o. cons_option o (places_at ts ns)) e

  -- a place waits if its number does
  module _ (ts : List (Entry S W Map)) (distinct : HasDistinctPlaces ts) (x : Place) (k : ℕ) (at : index_at x ts ≡ Some k) where
    same_test : (n : ℕ) (t : Entry S W Map) → slice_get ts n ≡ Some t → same_place t.place x ≡ nat_eq n k
    same_test n t there = elim (cases_eq n k) [
      | inl is ↦
          same_place_from t.place x (same_Some t.place x (sym (place_with ts n t there) ∙ ap (slice_get (places_of ts)) is ∙ place_indexed x ts k at))
          ∙ sym (eq-eqb n k is)
      | inr differs ↦
          other_place t.place x (λ e. differs (same_Some n k (sym (get_at_place ts distinct n t there) ∙ ap (λ p. index_at p ts) e ∙ at)))
          ∙ sym (false_from_ne_true (nat_eq n k) (λ e. differs (eqb-true n k e)))
    ]

    has_at : (ns : List ℕ) → AreBelow (length ts) ns → has_place x (places_at ts ns) ≡ has_number k ns
    has_at [] below = refl
    has_at (n ∷ ns) below =
        let there = entry_with ts n below.0 in
        ap (has_place x) (first_place ts n ns there.0.place (place_with ts n there.0 there.1))
        ∙ ap (λ b. b || has_place x (places_at ts ns)) (same_test n there.0 there.1)
        ∙ ap (λ b. nat_eq n k || b) (has_at ns below.1)

    pub enqueued_at : (ns : List ℕ) → AreBelow (length ts) ns → places_at ts (enqueued k ns) ≡ queued x (places_at ts ns)
    enqueued_at ns below = elim (cases_Bool (has_number k ns)) [
      | inl e ↦
          ap (places_at ts) (cond-true (has_number k ns) ns (ns ++ k ∷ []) e)
          ∙ sym (cond-true (has_place x (places_at ts ns)) (places_at ts ns) (places_at ts ns ++ x ∷ []) (has_at ns below ∙ e))
      | inr e ↦
          ap (places_at ts) (cond-false (has_number k ns) ns (ns ++ k ∷ []) e)
          ∙ filter_map-append (slice_get (places_of ts)) ns (k ∷ [])
          ∙ ap (λ ys. places_at ts ns ++ ys) (first_place ts k [] x (place_indexed x ts k at))
          ∙ sym (cond-false (has_place x (places_at ts ns)) (places_at ts ns) (places_at ts ns ++ x ∷ []) (has_at ns below ∙ e))
    ]

  -- where transitions are added, the places of numbers stay
  module _ (ts us : List (Entry S W Map)) (more : List Place) (grown : places_of us ≡ places_of ts ++ more) where
    pub still_at : (ns : List ℕ) → AreBelow (length ts) ns → places_at us ns ≡ places_at ts ns
    still_at [] below = refl
    still_at (n ∷ ns) below =
        let long : length (places_of ts) ≡ length ts = length-map ts (λ (t : Entry S W Map). t.place) in
        ap (λ o. cons_option o (places_at us ns)) (ap (λ ps. slice_get ps n) grown ∙ left_of (places_of ts) more n (let h : n < length ts = below.0 in omega (arith, long)))
        ∙ ap (cons_option (slice_get (places_of ts) n)) (still_at ns below.1)

  -- a lowering adds a place, or none
  pub places_grow : (x : Place) (w : W) (n : ℕ) (ts : List (Entry S W Map)) → (more : List Place) × (places_of (lowered x w n ts) ≡ places_of ts ++ more)
  places_grow x w n ts = elim (index_at x ts) as (λ o. index_at x ts ≡ o → (more : List Place) × (places_of (lowered x w n ts) ≡ places_of ts ++ more)) [
    | None ↦ λ e. (x ∷ [], ap places_of (lowered_last x w n ts e) ∙ places-added ts (record { place = x; weight = w; node = n }))
    | Some k ↦ λ e. ([], places-lowered x w n ts k e ∙ sym (append-nil (places_of ts)))
  ] refl

  same_long : (x : Place) (w : W) (n : ℕ) (ts : List (Entry S W Map)) (k : ℕ) → index_at x ts ≡ Some k → length (lowered x w n ts) ≡ length ts
  same_long x w n ts k e =
      sym (length-map (lowered x w n ts) (λ (t : Entry S W Map). t.place)) ∙ ap length (places-lowered x w n ts k e) ∙ length-map ts (λ (t : Entry S W Map). t.place)

  -- a lowering by number
  module _ (x : Place) (w : W) (n : ℕ) (ts us : List (Entry S W Map)) (k : ℕ) (at : index_at x ts ≡ Some k) (by_number : (t : Entry S W Map) → slice_get ts k ≡ Some t → us ≡ lowered t.place w n ts) where
    pub lowered_there : us ≡ lowered x w n ts
    lowered_there = let there = indexed x ts k at in by_number there.0 there.1 ∙ ap (λ p. lowered p w n ts) (entry_at-place x ts there.0 there.2)

    pub long_there : length us ≡ length ts
    long_there = ap length lowered_there ∙ same_long x w n ts k at

    pub number_there : index_at x us ≡ Some k
    number_there = ap (index_at x) lowered_there ∙ index_at-lowered x w n ts ∙ ap (λ o. Some (unwrap_or o (length ts))) at

  pub longer : (x : Place) (w : W) (n : ℕ) (ts : List (Entry S W Map)) → (length ts ≤ length (lowered x w n ts)) × (length (lowered x w n ts) ≤ length ts + 1)
  longer x w n ts = elim (index_at x ts) as (λ o. index_at x ts ≡ o → (length ts ≤ length (lowered x w n ts)) × (length (lowered x w n ts) ≤ length ts + 1)) [
    | None ↦ λ e. let l = ap length (lowered_last x w n ts e) ∙ length_push ts _ in (omega (arith, l), omega (arith, l))
    | Some k ↦ λ e. let l = same_long x w n ts k e in (omega (arith, l), omega (arith, l))
  ] refl

  -- A place is lowered, and its number queued.
  module _ (ts : List (Entry S W Map)) (ns : List ℕ) (marks : ℕ) (was : IsQueued ts ns marks) (x : Place) (w : W) (n : ℕ) (us : List (Entry S W Map)) (is : us ≡ lowered x w n ts) where
    pub distinct_then : HasDistinctPlaces us
    distinct_then = subst HasDistinctPlaces (sym is) (distinct-lowered x w n ts was.distinct)

    pub long_then : (length ts ≤ length us) × (length us ≤ length ts + 1)
    long_then = let l = longer x w n ts in let e = ap length is in (omega (arith, l.0, e), omega (arith, l.1, e))

    below_then : AreBelow (length us) ns
    below_then = below_more (length ts) (length us) ns long_then.0 was.there

    module _ (k : ℕ) (at : index_at x us ≡ Some k) where
      pub number_then : k < length us
      number_then = let there = indexed x us k at in slice_get_within us k there.0 there.1

      module _ (new : List ℕ) (last : new ≡ enqueued k ns) where
        pub queue_then : places_at us new ≡ queued x (places_at ts ns)
        queue_then =
            let grow = places_grow x w n ts in
            ap (places_at us) last ∙ enqueued_at us distinct_then x k at ns below_then
            ∙ ap (queued x) (still_at ts us grow.0 (ap places_of is ∙ grow.1) ns was.there)

        pub queued_then : (m : ℕ) → length us ≤ m → IsQueued us new m
        queued_then m marked = record {
          distinct = distinct_then;
          there = subst (AreBelow (length us)) (sym last) (below_enqueued (length us) k ns number_then below_then);
          marked = marked;
        }

  -- a place that is there is queued
  module _ (ts : List (Entry S W Map)) (ns : List ℕ) (marks : ℕ) (was : IsQueued ts ns marks) (x : Place) (k : ℕ) (at : index_at x ts ≡ Some k) (new : List ℕ) (last : new ≡ enqueued k ns) where
    pub number_is : k < length ts
    number_is = let there = indexed x ts k at in slice_get_within ts k there.0 there.1

    pub queue_with : places_at ts new ≡ queued x (places_at ts ns)
    queue_with = ap (places_at ts) last ∙ enqueued_at ts was.distinct x k at ns was.there

    pub queued_with : (m : ℕ) → m ≡ marks → IsQueued ts new m
    queued_with m same = record {
      distinct = was.distinct;
      there = subst (AreBelow (length ts)) (sym last) (below_enqueued (length ts) k ns number_is was.there);
      marked = let h = was.marked in omega (arith, h, same);
    }

  -- nothing is taken
  pub queued_same : (ts : List (Entry S W Map)) (ns : List ℕ) (marks : ℕ) → IsQueued ts ns marks → (new : List ℕ) → new ≡ ns → (m : ℕ) → m ≡ marks → IsQueued ts new m
  queued_same ts ns marks was new is m same =
      record { distinct = was.distinct; there = subst (AreBelow (length ts)) (sym is) was.there; marked = let h = was.marked in omega (arith, h, same) }

  -- The first that waits.
  module _ (ts : List (Entry S W Map)) (ns rest : List ℕ) (marks : ℕ) (was : IsQueued ts ns marks) (k : ℕ) (front : ns ≡ k ∷ rest) where
    first_below : AreBelow (length ts) (k ∷ rest)
    first_below = subst (AreBelow (length ts)) front was.there

    pub queued_rest : (m : ℕ) → m ≡ marks → IsQueued ts rest m
    queued_rest m same = record { distinct = was.distinct; there = first_below.1; marked = let h = was.marked in omega (arith, h, same) }

    module _ (t : Entry S W Map) (read : slice_get ts k ≡ Some t) where
      pub first_at : index_at t.place ts ≡ Some k
      first_at = get_at_place ts was.distinct k t read

      pub first_is : places_at ts ns ≡ t.place ∷ places_at ts rest
      first_is = ap (places_at ts) front ∙ first_place ts k rest t.place (place_with ts k t read)
