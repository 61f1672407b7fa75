-- What a tail gives along links, and what a turn leaves.
use Rattle.std.proofs.Common.{◌≡◌, ◌⊎◌, inl, inr, ℕ, zero, suc, ◌<◌, ◌+◌, ◌≤◌, ◌^◌, Bool, true, false, List, [], ◌∷◌, length, refl, sym, ap, ◌∙◌, subst, arith}
use Rattle.std.specs.Prelude.{IsTrue, Option, None, Some, nat_eq, slice_get}
use Rattle.std.proofs.lemmas.Bool.{eqb-true, eq-eqb}
use Rattle.std.proofs.lemmas.Option.{same_Some, slice_get_within}
use Rattle.key_rows.specs.Rows.{index_where, index_from}
use Rattle.semiring_laws.specs.Semiring.{Operations, IsSemiring, Fits, Below}
use Rattle.semiring_laws.proofs.CallerLemmas.{below_trans, below_zero, extend_left_keeps_below}
use Rattle.pushdown_rules.specs.Pushdown.{Pushdown, IsSystem}
use Rattle.pushdown_rules.proofs.CallerLemmas.{IsFound, weight_fits}
use Rattle.config_patterns.specs.Membership.{PatternValue}
use Rattle.weighted_automata.specs.declared.place.Place.{Place}
use Rattle.weighted_automata.proofs.CallerLemmas.{cases_place}
use Rattle.weight_tables.specs.Entries.{TableEntry, NoneWaits, index_at, is_out_of, taken, lowered_in, weight_in, settled_in}
use Rattle.weight_tables.specs.Tables.{TablesValue, AreTables, with_entries, with_hand}
use Rattle.weight_tables.specs.Turns.{turns_left}
use Rattle.weight_tables.specs.declared.layer.Layer.TheVariants.{Target}
use Rattle.weight_tables.proofs.CallerLemmas.{place_fits, index_there, index_place, weight_at_index, none_weight, all_settled, settled_or_none, taken_weight, taken_settled, taken_turns, IsRowWalk, to_go, walk_starts, walk_at, walk_within, walk_goes_on, walk_ends, less_to_go}
use Rattle.walk_pairs.proofs.CallerLemmas.{AllFit}
use Rattle.forward_value_laws.specs.Model.{callee}
use Rattle.weighted_automata.specs.declared.place.Label.TheVariants.{Symbol}
use Rattle.walk_pairs.specs.Answering.{IsWalkedOver}
use Rattle.forward_value_search.specs.Places.{arrow}
use Rattle.forward_value_search.specs.Search.{IsFinished}
use Rattle.value_tails.specs.Tailing.{tail_place, tail_in, IsTailed, IsTail}
use Rattle.value_tails.specs.private.Steps.{link_place, IsLink, AreTailsLowered, IsLinkedUp, AreLinksGiven, AreReadsGiven, IsTailing, IsTailedOver}
use Rattle.value_tails.proofs.LinkLemmas.{entry_at, index_within}
use Rattle.value_tails.proofs.TailLemmas.{tails_none, tails_then, one_tail, one_tail_below, tails_fit, tails_falls, tails_counts, tails_turns, tails_hold, tail_later}

-- the weight of each entry fits
entry_fits : {W Map : Type 0} {s : Operations W Map} (laws : IsSemiring s) (es : List (TableEntry W)) → AllFit s es → (j : ℕ) (d : TableEntry W) → slice_get es j ≡ Some d → Fits s d.weight
entry_fits laws [] fits j d there = cc
entry_fits {W} {Map} {s} laws (e ∷ es) fits zero d there = let P : TableEntry W → Type 0 = λ f. Fits s f.weight in subst P (same_Some e d there) fits.0
entry_fits laws (e ∷ es) fits (suc j) d there = entry_fits laws es fits.1 j d there

-- along a link
module _ {S W Map : Type 0} {operations : S → Operations W Map} {p : Pushdown S W Map} (system : IsSystem operations p) (laws : IsSemiring (operations p.semiring)) (first : PatternValue) where
  abbrev ours : Operations W Map
  ours = operations p.semiring

  pub link_made : (n m : ℕ) (v w : W) → Fits ours v → Fits ours w → IsTail ours first p n v → IsLink ours first p n m w → IsTail ours first p m (ours.extend v w)
  link_made n m v w fv fw (inl none) link = inl (ap (λ u. ours.extend u w) none ∙ laws.extend-zero_left w fw)
  link_made n m v w fv fw (inr one) (inl none) = inl (ap (ours.extend v) none ∙ laws.extend-zero_right v fv)
  link_made n m v w fv fw (inr (from, is, sum)) (inr (to, g, is', f)) = inr (callee to g, is', f from is v sum)

module _ {S W Map : Type 0} (operations : S → Operations W Map) (laws : (x : S) → IsSemiring (operations x)) (first : PatternValue) (v : TablesValue S W Map) (number : ℕ) where
  abbrev s : Operations W Map
  s = operations v.system.semiring

  abbrev law : IsSemiring s
  law = laws v.system.semiring

  -- what the link of a number asked for is there, if it goes out of the source
  abbrev pub IsOutGiven : TablesValue S W Map → ℕ → Type 0
  IsOutGiven now j = (e : TableEntry W) → slice_get v.walk j ≡ Some e → is_out_of number e ≡ true → Below s (tail_in s now.target e.place.to) (s.extend v.hand e.weight)

  -- What the loop has before the link of number `at`.
  pub record IsOutLoop (now : TablesValue S W Map) (at : Option ℕ) : Type 0 where
    pub tails : AreTailsLowered s first v now
    pub hand : now.hand ≡ v.hand
    pub walk : IsRowWalk (is_out_of number) v.walk at (IsOutGiven now)

  module _ (system : IsSystem operations v.system) (valid : AreTables s v) (linked : IsLinkedUp s first v) (made : IsTail s first v.system number v.hand) where
    no_row : (now : TablesValue S W Map) (j : ℕ) → ((e : TableEntry W) → slice_get v.walk j ≡ Some e → is_out_of number e ≡ false) → IsOutGiven now j
    no_row now j none e there passes = let both : true ≡ false = sym passes ∙ none e there in cc

    pub out_start : (at : Option ℕ) → at ≡ index_where (is_out_of number) v.walk → IsOutLoop v at
    out_start at is = record { tails = tails_none operations laws first v; hand = refl; walk = walk_starts (is_out_of number) v.walk at (IsOutGiven v) is }

    module _ (now : TablesValue S W Map) (at : Option ℕ) (loop : IsOutLoop now at) (t : ℕ) (is : at ≡ Some t) where
      pub out_at : IsFound (is_out_of number) v.walk t
      out_at = walk_at (is_out_of number) v.walk at (IsOutGiven now) loop.walk t is

      pub out_within : t < length v.walk
      out_within = walk_within (is_out_of number) v.walk at (IsOutGiven now) loop.walk t is

      abbrev e : TableEntry W
      e = out_at.item

      fits_entry : Fits s e.weight
      fits_entry = subst (Fits s) (weight_at_index s e.place v.walk t e (index_there v.walk valid.walk.distinct t e out_at.there) out_at.there).0 (place_fits s e.place v.walk law.fits-zero valid.walk.fits)

      given : IsTail s first v.system e.place.to (s.extend v.hand e.weight)
      given =
          let weight = (weight_at_index s e.place v.walk t e (index_there v.walk valid.walk.distinct t e out_at.there) out_at.there).0 in
          let L : W → Type 0 = IsLink s first v.system e.place.from e.place.to in
          let F : ℕ → Type 0 = λ n. IsLink s first v.system n e.place.to e.weight in
          link_made system law first number e.place.to v.hand e.weight valid.hand fits_entry made (subst F (eqb-true e.place.from number out_at.passes) (subst L weight (linked.links e.place)))

      module _ (new : TablesValue S W Map) (step : new ≡ with_entries Target (lowered_in (operations now.system.semiring) (tail_place e.place.to) ((operations now.system.semiring).extend now.hand e.weight) now.target) now)
          (next : Option ℕ) (goes : next ≡ index_from (is_out_of number) (t + 1) v.walk) where
        abbrev u : TablesValue S W Map
        u = with_hand v.hand (with_entries Target now.target v)

        is_u : now ≡ u
        is_u = loop.tails.others ∙ ap (λ h. with_hand h (with_entries Target now.target v)) loop.hand

        step_u : new ≡ with_entries Target (lowered_in s (tail_place e.place.to) (s.extend v.hand e.weight) now.target) u
        step_u = let P : TablesValue S W Map → Type 0 = λ z. new ≡ with_entries Target (lowered_in (operations z.system.semiring) (tail_place e.place.to) ((operations z.system.semiring).extend z.hand e.weight) now.target) z in subst P is_u step

        fits_now : AllFit s now.target
        fits_now = tails_fit operations laws first v now valid.target.fits loop.tails

        worth_fits : Fits s (s.extend v.hand e.weight)
        worth_fits = law.fits-extend v.hand e.weight valid.hand fits_entry

        on : AreTailsLowered s first u new
        on = one_tail operations laws first u new fits_now e.place.to (s.extend v.hand e.weight) worth_fits given step_u

        on_now : AreTailsLowered (operations now.system.semiring) first now new
        on_now = let P : TablesValue S W Map → Type 0 = λ z. AreTailsLowered (operations z.system.semiring) first z new in subst P (sym is_u) on

        here : IsOutGiven new t
        here d there passes =
            let same : e ≡ d = same_Some e d (sym out_at.there ∙ there) in
            let P : TableEntry W → Type 0 = λ f. Below s (tail_in s new.target f.place.to) (s.extend v.hand f.weight) in
            subst P same (one_tail_below operations laws first u new fits_now e.place.to (s.extend v.hand e.weight) worth_fits given step_u)

        later : (j : ℕ) → IsOutGiven now j → IsOutGiven new j
        later j old d there passes =
            let fd = entry_fits law v.walk valid.walk.fits j d there in
            tail_later operations laws first u new fits_now on d.place.to (s.extend v.hand d.weight) (law.fits-extend v.hand d.weight valid.hand fd) (old d there passes)

        pub out_on : IsOutLoop new next
        out_on = record {
          tails = tails_then operations laws first v now new loop.tails on_now;
          hand = ap (λ (z : TablesValue S W Map). z.hand) step_u;
          walk = walk_goes_on (is_out_of number) v.walk at (IsOutGiven now) loop.walk t next (IsOutGiven new) is later here (λ j none. no_row new j none) goes;
        }

        pub out_walk : new.walk ≡ v.walk
        out_walk = ap (λ (z : TablesValue S W Map). z.walk) step_u

      pub out_smaller : (next : Option ℕ) → next ≡ index_from (is_out_of number) (t + 1) v.walk → to_go (length v.walk) next < to_go (length v.walk) at
      out_smaller next goes =
          let Less : Option ℕ → Type 0 = λ o. to_go (length v.walk) next < to_go (length v.walk) o in
          subst Less (sym is) (less_to_go (is_out_of number) v.walk t next out_within goes)

    pub out_end : (now : TablesValue S W Map) (at : Option ℕ) → IsOutLoop now at → at ≡ None → AreLinksGiven s first v now.target number v.hand
    out_end now at loop is m = elim (index_at (link_place number m) v.walk) as (λ o. index_at (link_place number m) v.walk ≡ o → Below s (tail_in s now.target m) (s.extend v.hand (weight_in s v.walk (link_place number m)))) [
      | None ↦ λ none.
          let P : W → Type 0 = Below s (tail_in s now.target m) in
          let nothing : s.extend v.hand (weight_in s v.walk (link_place number m)) ≡ s.zero = ap (s.extend v.hand) (none_weight s (link_place number m) v.walk none) ∙ law.extend-zero_right v.hand valid.hand in
          subst P (sym nothing) (below_zero law (tail_in s now.target m) (place_fits s (tail_place m) now.target law.fits-zero (tails_fit operations laws first v now valid.target.fits loop.tails)))
      | Some t ↦ λ found.
          let entry = entry_at v.walk t (index_within v.walk (link_place number m) t found) in
          let d = entry.0 in
          let place : d.place ≡ link_place number m = index_place (link_place number m) v.walk t d found entry.1 in
          let weight : weight_in s v.walk (link_place number m) ≡ d.weight = (weight_at_index s (link_place number m) v.walk t d found entry.1).0 in
          let out : is_out_of number d ≡ true = eq-eqb d.place.from number (ap (λ (y : Place). y.from) place) in
          let met = walk_ends (is_out_of number) v.walk at (IsOutGiven now) loop.walk is (λ i none. no_row now i none) t d entry.1 out in
          let P : ℕ → Type 0 = λ n. Below s (tail_in s now.target n) (s.extend v.hand d.weight) in
          let Q : W → Type 0 = λ w. Below s (tail_in s now.target m) (s.extend v.hand w) in
          subst Q (sym weight) (subst P (ap (λ (y : Place). y.to) place) met)
    ] refl

-- an entry that was taken stands where it stood
pub taken_at : {W : Type 0} (t : ℕ) (es : List (TableEntry W)) (e : TableEntry W) → slice_get es t ≡ Some e → slice_get (taken t es) t ≡ Some (record e { waits = false })
taken_at t [] e there = cc
taken_at zero (d ∷ es) e there = ap (λ (f : TableEntry _). Some (record f { waits = false })) (same_Some d e there)
taken_at (suc t) (d ∷ es) e there = taken_at t es e there

-- A turn.
module _ {S W Map : Type 0} (operations : S → Operations W Map) (laws : (x : S) → IsSemiring (operations x)) (first : PatternValue) (v : TablesValue S W Map) (system : IsSystem operations v.system)
    (valid : AreTables (operations v.system.semiring) v) (linked : IsLinkedUp (operations v.system.semiring) first v) (tailing : IsTailing (operations v.system.semiring) first v)
    (t : ℕ) (e : TableEntry W) (there : slice_get v.target t ≡ Some e) (waits : e.waits ≡ true) where
  abbrev ours' : Operations W Map
  ours' = operations v.system.semiring

  abbrev our : IsSemiring ours'
  our = laws v.system.semiring

  -- the tables once it was taken, with its weight in hand
  abbrev pub took : TablesValue S W Map
  took = with_hand e.weight (with_entries Target (taken t v.target) v)

  weight_is : weight_in ours' v.target e.place ≡ e.weight
  weight_is = (weight_at_index ours' e.place v.target t e (index_there v.target valid.target.distinct t e there) there).0

  pub entry_made : IsTail ours' first v.system e.place.to e.weight
  entry_made = subst (IsTail ours' first v.system e.place.to) weight_is (tailing.sums e.place)

  module _ (valid' : AreTables ours' took) (v3 v4 : TablesValue S W Map) (reads : AreTailsLowered ours' first took v3) (links : AreTailsLowered (operations v3.system.semiring) first v3 v4)
      (hand : v3.hand ≡ e.weight) (read_met : AreReadsGiven ours' first v3.target e.place.to e.weight)
      (link_met : AreLinksGiven (operations v3.system.semiring) first v3 v4.target e.place.to v3.hand) (few : length v4.target < 2 ^ 32) where
    all : AreTailsLowered ours' first took v4
    all = tails_then operations laws first took v3 v4 reads links

    links_first : AreLinksGiven ours' first v v4.target e.place.to e.weight
    links_first =
        let P : TablesValue S W Map → Type 0 = λ u. AreLinksGiven (operations u.system.semiring) first u v4.target e.place.to v3.hand in
        let Q : W → Type 0 = AreLinksGiven ours' first v v4.target e.place.to in
        subst Q hand (subst P reads.others link_met)

    fits4 : AllFit ours' v4.target
    fits4 = tails_fit operations laws first took v4 valid'.target.fits all

    fits_at : (x : Place) → Fits ours' (weight_in ours' v4.target x)
    fits_at x = place_fits ours' x v4.target our.fits-zero fits4

    fits_old : (x : Place) → Fits ours' (weight_in ours' v.target x)
    fits_old x = place_fits ours' x v.target our.fits-zero valid.target.fits

    falls : (x : Place) → Below ours' (weight_in ours' v4.target x) (weight_in ours' v.target x)
    falls x = let P : W → Type 0 = Below ours' (weight_in ours' v4.target x) in subst P (taken_weight ours' x t v.target) (tails_falls operations laws first took v4 valid'.target.fits all x)

    -- what counts of the place that was taken, and of others
    here_counts : (x : Place) → e.place ≡ x → (settled_in ours' v4.target x ≡ e.weight) ⊎ (settled_in ours' v4.target x ≡ ours'.zero)
    here_counts x same = elim (tails_counts operations laws first took v4 valid'.target.fits all x) [
      | inr none ↦ inr none
      | inl kept ↦ elim (settled_or_none ours' x (taken t v.target)) [
        | inr none ↦ inr (kept ∙ none)
        | inl is ↦ inl (kept ∙ is ∙ taken_weight ours' x t v.target ∙ ap (weight_in ours' v.target) (sym same) ∙ weight_is)
      ]
    ]

    other : (x : Place) → (e.place ≡ x → ⊥) → (settled_in ours' v4.target x ≡ settled_in ours' v.target x) ⊎ (settled_in ours' v4.target x ≡ ours'.zero)
    other x differs = elim (tails_counts operations laws first took v4 valid'.target.fits all x) [
      | inl kept ↦ inl (kept ∙ taken_settled ours' x t v.target e there differs)
      | inr none ↦ inr none
    ]

    settled_fits : (x : Place) → Fits ours' (settled_in ours' v.target x)
    settled_fits x = elim (settled_or_none ours' x v.target) [ inl is ↦ subst (Fits ours') (sym is) (fits_old x) | inr none ↦ subst (Fits ours') (sym none) our.fits-zero ]

    -- below nothing lies anything
    nothing : (x : Place) (w : W) → w ≡ ours'.zero → Below ours' (weight_in ours' v4.target x) w
    nothing x w none = let P : W → Type 0 = Below ours' (weight_in ours' v4.target x) in subst P (sym none) (below_zero our (weight_in ours' v4.target x) (fits_at x))

    sums : (x : Place) → IsTail ours' first v.system x.to (weight_in ours' v4.target x)
    sums = tails_hold operations laws first took v4 valid'.target.fits all system (λ x. subst (IsTail ours' first v.system x.to) (sym (taken_weight ours' x t v.target)) (tailing.sums x))

    fits_read : (x : Place) → Fits ours' (weight_in ours' v3.target x)
    fits_read x = place_fits ours' x v3.target our.fits-zero (tails_fit operations laws first took v3 valid'.target.fits reads)

    falls_read : (x : Place) → Below ours' (weight_in ours' v4.target x) (weight_in ours' v3.target x)
    falls_read x =
        let P : TablesValue S W Map → Type 0 = λ u. AreTailsLowered (operations u.system.semiring) first u v4 in
        tails_falls operations laws first (record took { hand = v3.hand; target = v3.target }) v4 (tails_fit operations laws first took v3 valid'.target.fits reads) (subst P reads.others links) x

    read_on : (b : ℕ) → AreReadsGiven ours' first v4.target b (settled_in ours' v4.target (tail_place b))
    read_on b a g edge = elim (cases_place e.place (tail_place b)) [
      | inl same ↦ elim (here_counts (tail_place b) same) [
        | inr none ↦ nothing (tail_place a) (settled_in ours' v4.target (tail_place b)) none
        | inl is ↦
            let P : W → Type 0 = Below ours' (tail_in ours' v4.target a) in
            let to : e.place.to ≡ b = ap (λ (y : Place). y.to) same in
            let R : ℕ → Type 0 = λ n. AreReadsGiven ours' first v3.target n e.weight in
            let fe = subst (Fits ours') weight_is (fits_old e.place) in
            subst P (sym is) (below_trans our (tail_in ours' v4.target a) (tail_in ours' v3.target a) e.weight (fits_at (tail_place a)) (fits_read (tail_place a)) fe (falls_read (tail_place a)) ((subst R to read_met) a g edge))
      ]
      | inr differs ↦ elim (other (tail_place b) differs) [
        | inr none ↦ nothing (tail_place a) (settled_in ours' v4.target (tail_place b)) none
        | inl is ↦
            let P : W → Type 0 = Below ours' (tail_in ours' v4.target a) in
            subst P (sym is) (below_trans our (tail_in ours' v4.target a) (tail_in ours' v.target a) (settled_in ours' v.target (tail_place b)) (fits_at (tail_place a)) (fits_old (tail_place a)) (settled_fits (tail_place b)) (falls (tail_place a))
            (tailing.reads b a g edge))
      ]
    ]

    link_on : (n : ℕ) → AreLinksGiven ours' first v v4.target n (settled_in ours' v4.target (tail_place n))
    link_on n m =
        let link = weight_in ours' v.walk (link_place n m) in
        let fl = place_fits ours' (link_place n m) v.walk our.fits-zero valid.walk.fits in
        let P : W → Type 0 = λ u. Below ours' (tail_in ours' v4.target m) (ours'.extend u link) in
        let zero : settled_in ours' v4.target (tail_place n) ≡ ours'.zero → P (settled_in ours' v4.target (tail_place n)) = λ none.
        nothing (tail_place m) (ours'.extend (settled_in ours' v4.target (tail_place n)) link) (ap (λ u. ours'.extend u link) none ∙ our.extend-zero_left link fl) in
        elim (cases_place e.place (tail_place n)) [
          | inl same ↦ elim (here_counts (tail_place n) same) [
            | inr none ↦ zero none
            | inl is ↦
                let to : e.place.to ≡ n = ap (λ (y : Place). y.to) same in
                let R : ℕ → Type 0 = λ k. AreLinksGiven ours' first v v4.target k e.weight in
                subst P (sym is) ((subst R to links_first) m)
          ]
          | inr differs ↦ elim (other (tail_place n) differs) [
            | inr none ↦ zero none
            | inl is ↦
                let old = settled_in ours' v.target (tail_place n) in
                subst P (sym is) (below_trans our (tail_in ours' v4.target m) (tail_in ours' v.target m) (ours'.extend old link) (fits_at (tail_place m)) (fits_old (tail_place m)) (our.fits-extend old link (settled_fits (tail_place n)) fl)
                (falls (tail_place m)) (tailing.links n m))
          ]
        ]

    pub turned_over : IsTailedOver v v4
    turned_over = all.others

    pub turned_tailing : IsTailing ours' first v4
    turned_tailing =
        let P : TablesValue S W Map → Type 0 = IsTailing ours' first in
        subst P (sym turned_over) (record {
          sums = sums;
          ends = λ a final. below_trans our (tail_in ours' v4.target a) (tail_in ours' v.target a) ours'.one (fits_at (tail_place a)) (fits_old (tail_place a)) our.fits-one (falls (tail_place a)) (tailing.ends a final);
          reads = read_on;
          links = link_on;
        })

    pub turned_fewer : turns_left ours' v4.target < turns_left ours' v.target
    turned_fewer =
        let less = tails_turns operations laws first took v4 valid'.target.fits all few in
        let one = taken_turns our t v.target e there waits in
        omega (arith, less, one)

-- All tails, once none waits.
module _ {S W Map : Type 0} (operations : S → Operations W Map) (laws : (x : S) → IsSemiring (operations x)) (first : PatternValue) where
  -- links are there still while tails change
  pub linked_over : (v v1 : TablesValue S W Map) → IsTailedOver v v1 → IsLinkedUp (operations v.system.semiring) first v → IsLinkedUp (operations v1.system.semiring) first v1
  linked_over v v1 over linked =
      let P : TablesValue S W Map → Type 0 = λ u. IsLinkedUp (operations u.system.semiring) first u in
      subst P (sym over) (record { links = linked.links; opens = linked.opens })

  pub all_tailed : (v : TablesValue S W Map) → IsSystem operations v.system → AreTables (operations v.system.semiring) v → IsLinkedUp (operations v.system.semiring) first v → IsTailing (operations v.system.semiring) first v
      → NoneWaits v.target → IsTailed (operations v.system.semiring) first v
  all_tailed v system valid linked tailing none =
      let s = operations v.system.semiring in
      let law = laws v.system.semiring in
      let counts : (n : ℕ) → settled_in s v.target (tail_place n) ≡ tail_in s v.target n = λ n. all_settled s (tail_place n) v.target none in
      let ft : (n : ℕ) → Fits s (tail_in s v.target n) = λ n. place_fits s (tail_place n) v.target law.fits-zero valid.target.fits in
      record {
        sums = λ n. tailing.sums (tail_place n);
        ends = tailing.ends;
        reads = λ a g b edge. let P : W → Type 0 = Below s (tail_in s v.target a) in subst P (counts b) (tailing.reads b a g edge);
        opens = λ k r there g h right m entered n.
            let link = weight_in s v.walk (link_place n m) in
            let call = s.extend (weight_in s v.base (arrow r.control (Symbol r.symbol) n)) r.weight in
            let fl = place_fits s (link_place n m) v.walk law.fits-zero valid.walk.fits in
            let fc = law.fits-extend (weight_in s v.base (arrow r.control (Symbol r.symbol) n)) r.weight (place_fits s (arrow r.control (Symbol r.symbol) n) v.base law.fits-zero valid.base.fits) (weight_fits system law k r there) in
            let P : W → Type 0 = λ u. Below s (tail_in s v.target m) (s.extend u link) in
            below_trans law (tail_in s v.target m) (s.extend (tail_in s v.target n) link) (s.extend (tail_in s v.target n) call) (ft m) (law.fits-extend (tail_in s v.target n) link (ft n) fl)
            (law.fits-extend (tail_in s v.target n) call (ft n) fc) (subst P (counts n) (tailing.links n m)) (extend_left_keeps_below law (tail_in s v.target n) link call (ft n) fl fc (linked.opens k r there n g h right m entered));
      }

-- what a search found is there still
pub finished_tailed : {S W Map : Type 0} (operations : S → Operations W Map) (q : Pushdown S W Map) (first : PatternValue) (v v1 : TablesValue S W Map) → IsTailedOver v v1 → IsFinished operations q first v → IsFinished operations q first v1
finished_tailed {S} {W} {Map} operations q first v v1 over finished =
    let P : TablesValue S W Map → Type 0 = IsFinished operations q first in subst P (sym over) (record { sound = finished.sound; closed = finished.closed })

pub finished_walked : {S W Map : Type 0} (operations : S → Operations W Map) (q : Pushdown S W Map) (first : PatternValue) (v v1 : TablesValue S W Map) → IsWalkedOver v v1 → IsFinished operations q first v → IsFinished operations q first v1
finished_walked {S} {W} {Map} operations q first v v1 over finished =
    let P : TablesValue S W Map → Type 0 = IsFinished operations q first in subst P (sym over) (record { sound = finished.sound; closed = finished.closed })
