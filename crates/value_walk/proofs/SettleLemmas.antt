-- A turn of the walk keeps what was settled.
use Rattle.std.proofs.Common.{◌≡◌, ◌⊎◌, inl, inr, ℕ, suc, List, refl, sym, ap, ◌∙◌, subst}
use Rattle.std.specs.Prelude.{Some, slice_get}
use Rattle.wpds_base.specs.Lists.{IsIn}
use Rattle.semiring_laws.specs.Semiring.{Operations, IsSemiring, Fits, Below}
use Rattle.semiring_laws.proofs.CallerLemmas.{below_itself, below_trans, below_zero, extend_right_keeps_below}
use Rattle.config_patterns.specs.Edges.{edges_of}
use Rattle.config_patterns.specs.Membership.{PatternValue}
use Rattle.weighted_automata.specs.declared.place.Place.{Place}
use Rattle.weighted_automata.proofs.CallerLemmas.{cases_place}
use Rattle.weight_tables.specs.Entries.{TableEntry, IsTable, NoneWaits, taken, weight_in, settled_in}
use Rattle.weight_tables.proofs.CallerLemmas.{place_fits, taken_weight, taken_settled, settled_or_none, index_there, weight_at_index, all_settled}
use Rattle.walk_pairs.specs.declared.pairs.Stage.TheVariants.{Down, Across, Before, Above}
use Rattle.walk_pairs.specs.Pairs.{pair_place, answer_place}
use Rattle.walk_pairs.specs.Lowerings.{AreLowered}
use Rattle.walk_pairs.specs.Reading.{IsPairRead, IsBeforeRead, AreReadingsSettled}
use Rattle.walk_pairs.specs.Ways.{TakesAt}
use Rattle.walk_pairs.proofs.CallerLemmas.{AllFit, lowered_all_fit, lowered_falls, lowered_counts, readings_read, readings_end, pair_kept, before_kept, state_kept, skip_kept, edge_above}
use Rattle.value_laws.specs.Settled.{Table, AreWeights}
use Rattle.value_laws.specs.Walk.{Pairs, IsWalkSettled}
use Rattle.value_walk.specs.private.Walking.{down_in, across_in, before_in, above_in, answer_in, settled_down, settled_across, settled_before, settled_above, IsDownRead, IsAboveRead, ArePairsSettled}

module _ {W Map : Type 0} {s : Operations W Map} (laws : IsSemiring s) (from to : PatternValue) (pops enters : Table W) (fp : AreWeights s pops) (fe : AreWeights s enters) where
  abbrev pub AreSettled : List (TableEntry W) → Type 0
  AreSettled = ArePairsSettled s from to pops enters

  -- what lies below a weight and then another lies below it once the first counts for nothing, or as before
  extended_kept : (x x' w w' m : W) → Fits s x → Fits s x' → Fits s w → Fits s m → Below s x' x → (w' ≡ w) ⊎ (w' ≡ s.zero) → Below s x (s.extend w m) → Below s x' (s.extend w' m)
  extended_kept x x' w w' m fx fx' fw fm falls (inl same) below =
      let P : W → Type 0 = λ u. Below s x' (s.extend u m) in
      subst P (sym same) (below_trans laws x' x (s.extend w m) fx' fx (laws.fits-extend w m fw fm) falls below)
  extended_kept x x' w w' m fx fx' fw fm falls (inr none) below =
      let P : W → Type 0 = Below s x' in
      subst P (sym (ap (λ u. s.extend u m) none ∙ laws.extend-zero_left m fm)) (below_zero laws x' fx')

  kept : (x x' w w' : W) → Fits s x → Fits s x' → Fits s w → Below s x' x → (w' ≡ w) ⊎ (w' ≡ s.zero) → Below s x w → Below s x' w'
  kept x x' w w' fx fx' fw falls (inl same) below = let P : W → Type 0 = Below s x' in subst P (sym same) (below_trans laws x' x w fx' fx fw falls below)
  kept x x' w w' fx fx' fw falls (inr none) below = let P : W → Type 0 = Below s x' in subst P (sym none) (below_zero laws x' fx')

  -- what a pair at a control gave is there later, and so is what an item gave that is read next above one
  module _ (across above across' above' : Pairs W) (fa : (i a : ℕ) → Fits s (across i a)) (fv : (k c : ℕ) → Fits s (above k c)) (fa' : (i a : ℕ) → Fits s (across' i a)) (fv' : (k c : ℕ) → Fits s (above' k c))
      (falls_across : (i a : ℕ) → Below s (across' i a) (across i a)) (falls_above : (k c : ℕ) → Below s (above' k c) (above k c)) (w w' : W) (fw : Fits s w) (counts : (w' ≡ w) ⊎ (w' ≡ s.zero)) where
    down_kept : (i c : ℕ) → IsDownRead s from to pops enters i c w across above → IsDownRead s from to pops enters i c w' across' above'
    down_kept i c was = record {
      reads = state_kept laws from.items above above' fv fv' falls_above w w' fw counts i c was.reads;
      meets = λ same. kept (across i 0) (across' i 0) w w' (fa i 0) (fa' i 0) fw (falls_across i 0) counts (was.meets same);
    }

    above_kept : (down down' : Pairs W) → ((i c : ℕ) → Fits s (down i c)) → ((i c : ℕ) → Fits s (down' i c)) → ((i c : ℕ) → Below s (down' i c) (down i c)) → (k c : ℕ)
        → IsAboveRead s from to pops enters k c w down across above → IsAboveRead s from to pops enters k c w' down' across' above'
    above_kept down down' fd fd' falls_down k c was = record {
      skips = skip_kept laws from.items above above' fv fv' falls_above w w' fw counts k c was.skips;
      falls = λ g takes q. extended_kept (down (suc k) q) (down' (suc k) q) w w' (pops c g q) (fd (suc k) q) (fd' (suc k) q) fw (fp c g q) (falls_down (suc k) q) counts (was.falls g takes q);
      goes_in = λ g takes a. extended_kept (across (suc k) a) (across' (suc k) a) w w' (enters c g a) (fa (suc k) a) (fa' (suc k) a) fw (fe c g a) (falls_across (suc k) a) counts (was.goes_in g takes a);
    }

  module _ (es : List (TableEntry W)) (all : AllFit s es) where
    fits : (x : Place) → Fits s (weight_in s es x)
    fits x = place_fits s x es laws.fits-zero all

    -- where nothing waits, the weights themselves are settled
    pub done_settled : NoneWaits es → AreSettled es → IsWalkSettled s from to pops enters (down_in s es) (across_in s es) (down_in s es) (across_in s es) (answer_in s es)
    done_settled none settled =
        let same : (x : Place) → settled_in s es x ≡ weight_in s es x = λ x. all_settled s x es none in
        let D : (i c : ℕ) → W → Type 0 = λ i c w. IsDownRead s from to pops enters i c w (across_in s es) (above_in s es) in
        let downs : (i c : ℕ) → D i c (down_in s es i c) = λ i c. subst (D i c) (same (pair_place Down i c)) (settled.downs i c) in
        let A : (k c : ℕ) → W → Type 0 = λ k c w. IsAboveRead s from to pops enters k c w (down_in s es) (across_in s es) (above_in s es) in
        let aboves : (k c : ℕ) → A k c (above_in s es k c) = λ k c. subst (A k c) (same (pair_place Above k c)) (settled.aboves k c) in
        let fd : (i c : ℕ) → Fits s (down_in s es i c) = λ i c. fits (pair_place Down i c) in
        let fv : (k c : ℕ) → Fits s (above_in s es k c) = λ k c. fits (pair_place Above k c) in
        let edge_at : (g i j c : ℕ) → IsIn (record { from = i; symbol = g; to = j }) (edges_of from.items) → (k : ℕ) × (j ≡ suc k) × TakesAt from.items (suc k) g × Below s (above_in s es k c) (down_in s es i c) =
        edge_above laws from.items (down_in s es) (above_in s es) fd fv (λ i c. (downs i c).reads) (λ k c. (aboves k c).skips) in
        let P : (i a : ℕ) → W → Type 0 = λ i a w. IsPairRead s from.items to.items i a w (before_in s es) in
        let B : (k l : ℕ) → W → Type 0 = λ k l w. IsBeforeRead s from.items to.items k l w (across_in s es) (before_in s es) (answer_in s es) in
        let closed : AreReadingsSettled s from.items to.items (across_in s es) (across_in s es) (before_in s es) (before_in s es) (answer_in s es) =
        record { pairs = λ i a. subst (P i a) (same (pair_place Across i a)) (settled.readings.pairs i a); befores = λ k l. subst (B k l) (same (pair_place Before k l)) (settled.readings.befores k l) } in
        let fa : (i a : ℕ) → Fits s (across_in s es i a) = λ i a. fits (pair_place Across i a) in
        let fb : (k l : ℕ) → Fits s (before_in s es k l) = λ k l. fits (pair_place Before k l) in
        record {
          begins = settled.begins;
          falls = λ i g j edge c q.
              let (k, to, takes, below) = edge_at g i j c edge in
              let w : W = above_in s es k c in
              let m : W = pops c g q in
              let x : W = down_in s es (suc k) q in
              let B : ℕ → Type 0 = λ n. Below s (down_in s es n q) (s.extend (down_in s es i c) m) in
              subst B (sym to) (below_trans laws x (s.extend w m) (s.extend (down_in s es i c) m) (fd (suc k) q) (laws.fits-extend w m (fv k c) (fp c g q)) (laws.fits-extend (down_in s es i c) m (fd i c) (fp c g q))
              ((aboves k c).falls g takes q) (extend_right_keeps_below laws w (down_in s es i c) m (fv k c) (fd i c) (fp c g q) below));
          goes_in = λ i g j edge c a.
              let (k, to, takes, below) = edge_at g i j c edge in
              let w : W = above_in s es k c in
              let m : W = enters c g a in
              let x : W = across_in s es (suc k) a in
              let B : ℕ → Type 0 = λ n. Below s (across_in s es n a) (s.extend (down_in s es i c) m) in
              subst B (sym to) (below_trans laws x (s.extend w m) (s.extend (down_in s es i c) m) (fa (suc k) a) (laws.fits-extend w m (fv k c) (fe c g a)) (laws.fits-extend (down_in s es i c) m (fd i c) (fe c g a))
              ((aboves k c).goes_in g takes a) (extend_right_keeps_below laws w (down_in s es i c) m (fv k c) (fd i c) (fe c g a) below));
          reads = λ i g j edge a b edge'. readings_read laws from.items to.items (across_in s es) (across_in s es) (before_in s es) (answer_in s es) fa fa fb (fits answer_place) closed g i j a b edge edge';
          meets = λ i. (downs i to.control).meets refl;
          ends = λ i a final final'. readings_end laws from.items to.items (across_in s es) (across_in s es) (before_in s es) (answer_in s es) fa fa fb (fits answer_place) closed i a final final';
        }

    -- where nothing counts, all is settled once the walk has begun
    pub first_settled : ((x : Place) → settled_in s es x ≡ s.zero) → Below s (down_in s es 0 from.control) s.one → AreSettled es
    first_settled none begins =
        let nothing : (x y : Place) → Below s (weight_in s es y) (settled_in s es x) = λ x y. let P : W → Type 0 = Below s (weight_in s es y) in subst P (sym (none x)) (below_zero laws (weight_in s es y) (fits y)) in
        let nothing_then : (x y : Place) (m : W) → Fits s m → Below s (weight_in s es y) (s.extend (settled_in s es x) m) = λ x y m fm. let P : W → Type 0 = Below s (weight_in s es y) in
        subst P (sym (ap (λ u. s.extend u m) (none x) ∙ laws.extend-zero_left m fm)) (below_zero laws (weight_in s es y) (fits y)) in
        record {
          begins = begins;
          downs = λ i c. record {
            reads = record { stands = λ low k stands. nothing (pair_place Down i c) (pair_place Above k c) };
            meets = λ same. nothing (pair_place Down i c) (pair_place Across i 0);
          };
          aboves = λ k c. record {
            skips = λ skipped. nothing (pair_place Above k c) (pair_place Above (suc k) c);
            falls = λ g takes q. nothing_then (pair_place Above k c) (pair_place Down (suc k) q) (pops c g q) (fp c g q);
            goes_in = λ g takes a. nothing_then (pair_place Above k c) (pair_place Across (suc k) a) (enters c g a) (fe c g a);
          };
          readings = record {
            pairs = λ i a. record { stands = λ low low' k l stands stands'. nothing (pair_place Across i a) (pair_place Before k l) };
            befores = λ k l. record {
              skips = λ _ skipped. nothing (pair_place Before k l) (pair_place Before (suc k) l);
              skips_other = λ _ skipped. nothing (pair_place Before k l) (pair_place Before k (suc l));
              reads = λ g takes takes'. nothing (pair_place Before k l) (pair_place Across (suc k) (suc l));
              ends = λ e e'. nothing (pair_place Before k l) answer_place;
            };
          };
        }

  -- An entry was taken, and others were lowered.
  module _ (old : List (TableEntry W)) (table : IsTable s old) (t : ℕ) (e : TableEntry W) (there : slice_get old t ≡ Some e) (fw : Fits s e.weight) (taken_fit : AllFit s (taken t old))
      (Is : Place → W → Type 0) (fit : (x : Place) (w : W) → Is x w → Fits s w) (new : List (TableEntry W)) (by : AreLowered s Is (taken t old) new) where
    new_fit : AllFit s new
    new_fit = lowered_all_fit laws Is fit (taken t old) new by taken_fit

    fo : (x : Place) → Fits s (weight_in s old x)
    fo x = place_fits s x old laws.fits-zero table.fits

    fn : (x : Place) → Fits s (weight_in s new x)
    fn x = place_fits s x new laws.fits-zero new_fit

    fs : (x : Place) → Fits s (settled_in s old x)
    fs x = elim (settled_or_none s x old) [ inl is ↦ subst (Fits s) (sym is) (fo x) | inr is ↦ subst (Fits s) (sym is) laws.fits-zero ]

    falls : (x : Place) → Below s (weight_in s new x) (weight_in s old x)
    falls x = let P : W → Type 0 = Below s (weight_in s new x) in subst P (taken_weight s x t old) (lowered_falls laws Is fit (taken t old) new by taken_fit x)

    stays : (x : Place) → Below s (weight_in s new x) (weight_in s new x)
    stays x = below_itself laws (weight_in s new x) (fn x)

    -- elsewhere what counts counted
    elsewhere : (x : Place) → (e.place ≡ x → ⊥) → (settled_in s new x ≡ settled_in s old x) ⊎ (settled_in s new x ≡ s.zero)
    elsewhere x differs = elim (lowered_counts laws Is fit (taken t old) new by taken_fit x) [
      | inl same ↦ inl (same ∙ taken_settled s x t old e there differs)
      | inr none ↦ inr none
    ]

    -- and there it is the entry's weight, or nothing
    here : (x : Place) → e.place ≡ x → (settled_in s new x ≡ e.weight) ⊎ (settled_in s new x ≡ s.zero)
    here x is =
        let weight : weight_in s (taken t old) e.place ≡ e.weight = taken_weight s e.place t old ∙ (weight_at_index s e.place old t e (index_there old table.distinct t e there) there).0 in
        let P : Place → Type 0 = λ y. (settled_in s new y ≡ e.weight) ⊎ (settled_in s new y ≡ s.zero) in
        subst P is (elim (lowered_counts laws Is fit (taken t old) new by taken_fit e.place) [
          | inr none ↦ inr none
          | inl same ↦ elim (settled_or_none s e.place (taken t old)) [ inl at ↦ inl (same ∙ at ∙ weight) | inr none ↦ inr (same ∙ none) ]
        ])

    -- All pairs that count have given what they give, if that which was taken has.
    module _ (given_down : (i c : ℕ) → e.place ≡ pair_place Down i c → IsDownRead s from to pops enters i c e.weight (across_in s new) (above_in s new))
        (given_above : (k c : ℕ) → e.place ≡ pair_place Above k c → IsAboveRead s from to pops enters k c e.weight (down_in s new) (across_in s new) (above_in s new))
        (given_across : (i a : ℕ) → e.place ≡ pair_place Across i a → IsPairRead s from.items to.items i a e.weight (before_in s new))
        (given_before : (k l : ℕ) → e.place ≡ pair_place Before k l → IsBeforeRead s from.items to.items k l e.weight (across_in s new) (before_in s new) (answer_in s new)) (settled : AreSettled old) where
      downs : (i c : ℕ) → IsDownRead s from to pops enters i c (settled_down s new i c) (across_in s new) (above_in s new)
      downs i c = elim (cases_place e.place (pair_place Down i c)) [
        | inl is ↦ down_kept (across_in s new) (above_in s new) (across_in s new) (above_in s new) (λ x y. fn (pair_place Across x y)) (λ x y. fn (pair_place Above x y)) (λ x y. fn (pair_place Across x y)) (λ x y. fn (pair_place Above x y))
            (λ x y. stays (pair_place Across x y)) (λ x y. stays (pair_place Above x y)) e.weight (settled_down s new i c) fw (here (pair_place Down i c) is) i c (given_down i c is)
        | inr differs ↦ down_kept (across_in s old) (above_in s old) (across_in s new) (above_in s new) (λ x y. fo (pair_place Across x y)) (λ x y. fo (pair_place Above x y)) (λ x y. fn (pair_place Across x y)) (λ x y. fn (pair_place Above x y))
            (λ x y. falls (pair_place Across x y)) (λ x y. falls (pair_place Above x y)) (settled_down s old i c) (settled_down s new i c) (fs (pair_place Down i c)) (elsewhere (pair_place Down i c) differs) i c (settled.downs i c)
      ]

      aboves : (k c : ℕ) → IsAboveRead s from to pops enters k c (settled_above s new k c) (down_in s new) (across_in s new) (above_in s new)
      aboves k c = elim (cases_place e.place (pair_place Above k c)) [
        | inl is ↦ above_kept (across_in s new) (above_in s new) (across_in s new) (above_in s new) (λ x y. fn (pair_place Across x y)) (λ x y. fn (pair_place Above x y)) (λ x y. fn (pair_place Across x y)) (λ x y. fn (pair_place Above x y))
            (λ x y. stays (pair_place Across x y)) (λ x y. stays (pair_place Above x y)) e.weight (settled_above s new k c) fw (here (pair_place Above k c) is) (down_in s new) (down_in s new) (λ x y. fn (pair_place Down x y)) (λ x y. fn (pair_place Down x y))
            (λ x y. stays (pair_place Down x y)) k c (given_above k c is)
        | inr differs ↦ above_kept (across_in s old) (above_in s old) (across_in s new) (above_in s new) (λ x y. fo (pair_place Across x y)) (λ x y. fo (pair_place Above x y)) (λ x y. fn (pair_place Across x y)) (λ x y. fn (pair_place Above x y))
            (λ x y. falls (pair_place Across x y)) (λ x y. falls (pair_place Above x y)) (settled_above s old k c) (settled_above s new k c) (fs (pair_place Above k c)) (elsewhere (pair_place Above k c) differs) (down_in s old) (down_in s new)
            (λ x y. fo (pair_place Down x y)) (λ x y. fn (pair_place Down x y)) (λ x y. falls (pair_place Down x y)) k c (settled.aboves k c)
      ]

      pairs : (i a : ℕ) → IsPairRead s from.items to.items i a (settled_across s new i a) (before_in s new)
      pairs i a = elim (cases_place e.place (pair_place Across i a)) [
        | inl is ↦ pair_kept laws from.items to.items (before_in s new) (before_in s new) (λ x y. fn (pair_place Before x y)) (λ x y. fn (pair_place Before x y)) (λ x y. stays (pair_place Before x y))
            e.weight (settled_across s new i a) fw (here (pair_place Across i a) is) i a (given_across i a is)
        | inr differs ↦ pair_kept laws from.items to.items (before_in s old) (before_in s new) (λ x y. fo (pair_place Before x y)) (λ x y. fn (pair_place Before x y)) (λ x y. falls (pair_place Before x y))
            (settled_across s old i a) (settled_across s new i a) (fs (pair_place Across i a)) (elsewhere (pair_place Across i a) differs) i a (settled.readings.pairs i a)
      ]

      befores : (k l : ℕ) → IsBeforeRead s from.items to.items k l (settled_before s new k l) (across_in s new) (before_in s new) (answer_in s new)
      befores k l = elim (cases_place e.place (pair_place Before k l)) [
        | inl is ↦ before_kept laws from.items to.items (before_in s new) (before_in s new) (λ x y. fn (pair_place Before x y)) (λ x y. fn (pair_place Before x y)) (λ x y. stays (pair_place Before x y))
            e.weight (settled_before s new k l) fw (here (pair_place Before k l) is) (across_in s new) (across_in s new) (λ x y. fn (pair_place Across x y)) (λ x y. fn (pair_place Across x y)) (λ x y. stays (pair_place Across x y))
            (answer_in s new) (answer_in s new) (fn answer_place) (fn answer_place) (stays answer_place) k l (given_before k l is)
        | inr differs ↦ before_kept laws from.items to.items (before_in s old) (before_in s new) (λ x y. fo (pair_place Before x y)) (λ x y. fn (pair_place Before x y)) (λ x y. falls (pair_place Before x y))
            (settled_before s old k l) (settled_before s new k l) (fs (pair_place Before k l)) (elsewhere (pair_place Before k l) differs) (across_in s old) (across_in s new) (λ x y. fo (pair_place Across x y)) (λ x y. fn (pair_place Across x y))
            (λ x y. falls (pair_place Across x y)) (answer_in s old) (answer_in s new) (fo answer_place) (fn answer_place) (falls answer_place) k l (settled.readings.befores k l)
      ]

      pub turn_settled : AreSettled new
      turn_settled =
          let x0 : Place = pair_place Down 0 from.control in
          record {
            begins = below_trans laws (weight_in s new x0) (weight_in s old x0) s.one (fn x0) (fo x0) laws.fits-one (falls x0) settled.begins;
            downs = downs;
            aboves = aboves;
            readings = record { pairs = pairs; befores = befores };
          }
