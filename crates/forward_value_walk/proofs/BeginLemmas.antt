-- A walk begins: what rows give waits, and nothing else is there.
use Rattle.std.proofs.Common.{◌≡◌, inl, inr, ℕ, suc, ◌≤◌, true, false, [], length, refl, sym, ap, ◌∙◌, subst}
use Rattle.std.specs.Prelude.{Bool, if◌then◌else◌}
use Rattle.semiring_laws.specs.Semiring.{Operations, IsSemiring, Fits, Below}
use Rattle.semiring_laws.proofs.CallerLemmas.{below_trans, below_zero}
use Rattle.pushdown_rules.specs.Pushdown.{IsSystem}
use Rattle.pushdown_rules.proofs.CallerLemmas.{weight_fits}
use Rattle.config_patterns.specs.Edges.{edges_of}
use Rattle.config_patterns.specs.Membership.{PatternValue}
use Rattle.weighted_automata.specs.declared.place.Label.TheVariants.{Symbol, Empty}
use Rattle.weighted_automata.specs.declared.place.Place.{Place}
use Rattle.weight_tables.specs.Entries.{TableEntry, lowered_in, weight_in, settled_in}
use Rattle.weight_tables.specs.Tables.{TablesValue, AreTables, with_entries, with_hand}
use Rattle.weight_tables.specs.declared.layer.Layer.TheVariants.{Base, Walk}
use Rattle.weight_tables.proofs.CallerLemmas.{place_fits}
use Rattle.walk_pairs.specs.declared.pairs.Order.TheVariants.{Then}
use Rattle.walk_pairs.specs.declared.pairs.Stage.TheVariants.{Down, Before, Above}
use Rattle.walk_pairs.specs.Pairs.{pair_place, answer_place, place_over}
use Rattle.walk_pairs.specs.Giving.{IsFall, AreFallsGiven}
use Rattle.walk_pairs.specs.Answering.{IsWalkedOver}
use Rattle.walk_pairs.proofs.CallerLemmas.{one_lowered, one_below}
use Rattle.forward_value_search.specs.Places.{arrow}
use Rattle.value_tails.specs.Tailing.{tail_place, tail_in}
use Rattle.forward_value_search.specs.Search.{IsFinished}
use Rattle.forward_value_walk.specs.Walking.{IsMade, IsSettled}
use Rattle.forward_value_walk.specs.private.Going.{IsRuns, IsGoneOn, IsUncovered, IsWalking}
use Rattle.forward_value_walk.proofs.MadeLemmas.{made_none, top_made, uncovered_made}
use Rattle.forward_value_walk.proofs.GoingLemmas.{IsWalkable, gone_then, pairs_gone, gone_fit, gone_falls, gone_counts, gone_walkable}

module _ {S W Map : Type 0} (operations : S → Operations W Map) (laws : (x : S) → IsSemiring (operations x)) (first wanted : PatternValue) where
  abbrev of : TablesValue S W Map → Operations W Map
  of v = operations v.system.semiring

  abbrev Gone : TablesValue S W Map → TablesValue S W Map → Type 0
  Gone u new = IsGoneOn (of u) first wanted u new

  -- the pair of one item's number
  module _ (v : TablesValue S W Map) (system : IsSystem operations v.system) (valid : AreTables (of v) v) (finished : IsFinished operations v.system first v) (i : ℕ) (low : i ≤ length first.items)
      (e : TableEntry W) (weight : weight_in (of v) v.base (arrow wanted.control Empty i) ≡ e.weight) (new : TablesValue S W Map)
      (made : new ≡ with_entries Walk (lowered_in (of v) (pair_place Down 0 i) e.weight v.walk) (with_hand e.weight v)) where
    abbrev s : Operations W Map
    s = of v

    abbrev law : IsSemiring s
    law = laws v.system.semiring

    entry_fits : Fits s e.weight
    entry_fits = subst (Fits s) weight (place_fits s (arrow wanted.control Empty i) v.base law.fits-zero valid.base.fits)

    walk_is : new.walk ≡ lowered_in s (pair_place Down 0 i) e.weight v.walk
    walk_is = ap (λ (u : TablesValue S W Map). u.walk) made

    hand_is : new.hand ≡ e.weight
    hand_is = ap (λ (u : TablesValue S W Map). u.hand) made

    pub uncovered_gone : Gone v new
    uncovered_gone = record {
      lowered = one_lowered s (IsRuns s first wanted v) (pair_place Down 0 i) e.weight
          (entry_fits, subst (IsMade s v.system first wanted (pair_place Down 0 i)) weight (uncovered_made v system law valid.base.fits first wanted finished.sound i low)) v.walk new.walk walk_is;
      others = made ∙ ap (λ ws. with_hand e.weight (with_entries Walk ws v)) (sym walk_is) ∙ ap (λ h. with_hand h (with_entries Walk new.walk v)) (sym hand_is);
    }

    pub uncovered_met : IsUncovered s wanted v i new.walk
    uncovered_met =
        let P : W → Type 0 = Below s (weight_in s new.walk (pair_place Down 0 i)) in
        subst P (sym weight) (one_below law (pair_place Down 0 i) e.weight entry_fits v.walk new.walk valid.walk.fits walk_is)

  -- where nothing leads to it over nothing
  pub none_uncovered : (v : TablesValue S W Map) → AreTables (of v) v → (i : ℕ) → weight_in (of v) v.base (arrow wanted.control Empty i) ≡ (of v).zero → IsUncovered (of v) wanted v i v.walk
  none_uncovered v valid i none =
      let s = of v in
      let P : W → Type 0 = Below s (weight_in s v.walk (pair_place Down 0 i)) in
      subst P (sym none) (below_zero (laws v.system.semiring) (weight_in s v.walk (pair_place Down 0 i)) (place_fits s (pair_place Down 0 i) v.walk (laws v.system.semiring).fits-zero valid.walk.fits))

  pub uncovered_later : (v new : TablesValue S W Map) → IsWalkable operations first wanted v → Gone v new → (i : ℕ) → IsUncovered (of v) wanted v i v.walk → IsUncovered (of v) wanted v i new.walk
  uncovered_later v new walkable gone i below =
      let s = of v in
      let law = laws v.system.semiring in
      let x : Place = pair_place Down 0 i in
      below_trans law (weight_in s new.walk x) (weight_in s v.walk x) (weight_in s v.base (arrow wanted.control Empty i)) (place_fits s x new.walk law.fits-zero (gone_fit operations laws first wanted v new walkable gone))
      (place_fits s x v.walk law.fits-zero walkable.walk) (place_fits s (arrow wanted.control Empty i) v.base law.fits-zero walkable.base) (gone_falls operations laws first wanted v new walkable gone x) below

  -- All rows have given.
  module _ (v : TablesValue S W Map) (system : IsSystem operations v.system) (valid : AreTables (of v) v) (finished : IsFinished operations v.system first v) where
    abbrev ours : Operations W Map
    ours = of v

    abbrev our : IsSemiring ours
    our = laws v.system.semiring

    -- no pair, and the weight one in hand
    abbrev pub empty : TablesValue S W Map
    empty = with_hand ours.one (with_entries Walk [] v)

    pub empty_walkable : IsWalkable operations first wanted empty
    empty_walkable = record {
      system = system;
      base = valid.base.fits;
      walk = tt;
      finished = record { sound = finished.sound; closed = finished.closed };
      made = made_none system our first wanted;
    }

    module _ (v1 v2 v3 : TablesValue S W Map) (is : v1 ≡ empty) (tops : AreFallsGiven (of v1) v1 Then Base Down wanted.control (edges_of wanted.items) 0 v2) where
      tops_empty : AreFallsGiven ours empty Then Base Down wanted.control (edges_of wanted.items) 0 v2
      tops_empty = let P : TablesValue S W Map → Type 0 = λ u. AreFallsGiven (of u) u Then Base Down wanted.control (edges_of wanted.items) 0 v2 in subst P is tops

      abbrev row : ℕ → ℕ → W
      row g n = weight_in ours v.base (place_over wanted.control g n)

      row_fits : (g n : ℕ) → Fits ours (row g n)
      row_fits g n = place_fits ours (place_over wanted.control g n) v.base our.fits-zero valid.base.fits

      pub tops_gone : Gone empty v2
      tops_gone = pairs_gone operations laws first wanted empty v2 (IsFall ours empty Then Base Down wanted.control (edges_of wanted.items) 0)
          (λ x w one.
          let weight : w ≡ row one.symbol one.to = one.weight ∙ our.extend-one_left (row one.symbol one.to) (row_fits one.symbol one.to) in
          let P : Place → Type 0 = λ y. IsMade ours v.system first wanted y w in
          let W' : W → Type 0 = IsMade ours v.system first wanted (pair_place Down one.next one.to) in (
            subst (Fits ours) (sym weight) (row_fits one.symbol one.to),
            subst P (sym one.place) (subst W' (sym weight) (top_made v system our valid.base.fits first wanted finished.sound one.symbol one.next one.to one.edge)),
          )) tops_empty.lowered

      module _ (stops : ℕ → Bool) (gone : Gone v2 v3) (uncovered : (i : ℕ) → i ≤ length first.items → IsUncovered (of v2) wanted v2 i v3.walk) where
        all : Gone empty v3
        all = gone_then operations laws first wanted empty v2 v3 tops_gone gone

        pub begun_over : IsWalkedOver v v3
        begun_over = all.others

        -- nothing counts
        none_counts : (y : Place) → settled_in ours v3.walk y ≡ ours.zero
        none_counts y = elim (gone_counts operations laws first wanted empty v3 empty_walkable all y) [ inl same ↦ same | inr none ↦ none ]

        fits_now : (y : Place) → Fits ours (weight_in ours v3.walk y)
        fits_now y = place_fits ours y v3.walk our.fits-zero (gone_fit operations laws first wanted empty v3 empty_walkable all)

        below_none : (y : Place) (w : W) → w ≡ ours.zero → Below ours (weight_in ours v3.walk y) w
        below_none y w none = let P : W → Type 0 = Below ours (weight_in ours v3.walk y) in subst P (sym none) (below_zero our (weight_in ours v3.walk y) (fits_now y))

        none_goes : (b : Bool) (w : W) → w ≡ ours.zero → (if b then ours.zero else w) ≡ ours.zero
        none_goes true w none = refl
        none_goes false w none = none

        falls_since : (y : Place) → Below ours (weight_in ours v3.walk y) (weight_in ours v2.walk y)
        falls_since y =
            let P : TablesValue S W Map → Type 0 = λ z. Below (of z) (weight_in (of z) v3.walk y) (weight_in (of z) z.walk y) in
            subst P tops_gone.others (gone_falls operations laws first wanted v2 v3 (gone_walkable operations laws first wanted empty v2 empty_walkable tops_gone) gone y)

        uncovered_first : (i : ℕ) → i ≤ length first.items → IsUncovered ours wanted v i v3.walk
        uncovered_first i low = let P : TablesValue S W Map → Type 0 = λ z. IsUncovered (of z) wanted z i v3.walk in subst P tops_gone.others (uncovered i low)

        settled : IsSettled ours v.system first wanted v.base v3.walk stops v.target
        settled = record {
          tops = λ g j edge n.
              let y : Place = pair_place Down j n in
              let P : W → Type 0 = Below ours (weight_in ours v2.walk y) in
              below_trans our (weight_in ours v3.walk y) (weight_in ours v2.walk y) (row g n) (fits_now y)
              (place_fits ours y v2.walk our.fits-zero (gone_fit operations laws first wanted empty v2 empty_walkable tops_gone)) (row_fits g n) (falls_since y)
              (subst P (our.extend-one_left (row g n) (row_fits g n)) (tops_empty.met g j edge n));
          uncovered = λ i low. uncovered_first i low;
          states = λ i m _. record {
            stands = λ _ k _.
                let w : W = settled_in ours v3.walk (pair_place Down i m) in
                below_none (pair_place Above k m) (if stops i then ours.zero else w) (none_goes (stops i) w (none_counts (pair_place Down i m)));
          };
          aboves = λ l m. record {
            skips = λ _. below_none (pair_place Above (suc l) m) (settled_in ours v3.walk (pair_place Above l m)) (none_counts (pair_place Above l m));
            opens = λ k r there g h right takes entered n.
                let head : W = weight_in ours v.base (arrow r.control (Symbol r.symbol) n) in
                below_none (pair_place Down (suc l) n) (ours.extend head (ours.extend r.weight (settled_in ours v3.walk (pair_place Above l m))))
                (ap (λ u. ours.extend head (ours.extend r.weight u)) (none_counts (pair_place Above l m)) ∙ ap (ours.extend head) (our.extend-zero_right r.weight (weight_fits system our k r there))
                ∙ our.extend-zero_right head (place_fits ours (arrow r.control (Symbol r.symbol) n) v.base our.fits-zero valid.base.fits));
          };
          readings = record {
            pairs = λ i a. record {
              stands = λ _ _ k l _ _.
                  let w : W = settled_in ours v3.walk (pair_place Down i a) in
                  below_none (pair_place Before k l) (if stops i then ours.zero else w) (none_goes (stops i) w (none_counts (pair_place Down i a)));
            };
            befores = λ k l.
                let none = none_counts (pair_place Before k l) in
                let w : W = settled_in ours v3.walk (pair_place Before k l) in
                record {
                  skips = λ _ _. below_none (pair_place Before (suc k) l) w none;
                  skips_other = λ _ _. below_none (pair_place Before k (suc l)) w none;
                  reads = λ _ _ _. below_none (pair_place Down (suc k) (suc l)) w none;
                  ends = λ _ _. below_none answer_place w none;
                };
          };
          rests = λ j stop n.
              let tail : W = tail_in ours v.target n in
              below_none answer_place (ours.extend tail (settled_in ours v3.walk (pair_place Down j n)))
              (ap (ours.extend tail) (none_counts (pair_place Down j n)) ∙ our.extend-zero_right tail (place_fits ours (tail_place n) v.target our.fits-zero valid.target.fits));
        }

        pub begun_walking : IsWalking ours first wanted stops v3
        begun_walking =
            let P : TablesValue S W Map → Type 0 = IsWalking ours first wanted stops in
            let now = gone_walkable operations laws first wanted empty v3 empty_walkable all in
            let Q : TablesValue S W Map → Type 0 = λ u. (x : Place) → IsMade (of u) u.system first wanted x (weight_in (of u) v3.walk x) in
            subst P (sym all.others) (record { made = subst Q all.others now.made; settled = settled })
