-- A turn of the walk keeps what was settled.
use Rattle.std.proofs.Common.{◌≡◌, ◌⊎◌, inl, inr, ℕ, suc, true, false, List, refl, sym, ap, ◌∙◌, subst}
use Rattle.std.specs.Prelude.{Bool, if◌then◌else◌}
use Rattle.semiring_laws.specs.Semiring.{Operations, IsSemiring, Fits, Below}
use Rattle.semiring_laws.proofs.CallerLemmas.{below_trans, below_zero}
use Rattle.pushdown_rules.specs.Pushdown.{Pushdown, IsSystem}
use Rattle.pushdown_rules.proofs.CallerLemmas.{weight_fits}
use Rattle.config_patterns.specs.Membership.{PatternValue}
use Rattle.weighted_automata.specs.declared.place.Label.TheVariants.{Symbol, Empty}
use Rattle.weighted_automata.specs.declared.place.Place.{Place}
use Rattle.weight_tables.specs.Entries.{TableEntry, weight_in, settled_in}
use Rattle.weight_tables.proofs.CallerLemmas.{place_fits, settled_or_none}
use Rattle.walk_pairs.specs.declared.pairs.Stage.TheVariants.{Down, Before, Above}
use Rattle.walk_pairs.specs.Pairs.{pair_place, answer_place}
use Rattle.walk_pairs.proofs.CallerLemmas.{AllFit, pair_kept, before_kept, state_kept, skip_kept}
use Rattle.forward_value_search.specs.Places.{arrow}
use Rattle.value_tails.specs.Tailing.{tail_place, tail_in}
use Rattle.forward_value_walk.specs.Walking.{pair_in, before_in, above_in, answer_in, settled_pair, settled_before, settled_above, going_pair, IsSettled, IsPairMet, IsBeforeMet, IsAboveMet}

module _ {S W Map : Type 0} {operations : S → Operations W Map} {p : Pushdown S W Map} (system : IsSystem operations p) (laws : IsSemiring (operations p.semiring)) (first wanted : PatternValue)
    (base : List (TableEntry W)) (base_fits : AllFit (operations p.semiring) base) where
  abbrev s : Operations W Map
  s = operations p.semiring

  abbrev Kept : W → W → Type 0
  Kept x' x = (x' ≡ x) ⊎ (x' ≡ s.zero)

  -- what lay below what a call that stays open makes of a weight lies below what it makes of what counts of it
  pub opened_kept : (w w' a b x x' : W) → Fits s w → Fits s w' → Fits s a → Fits s b → Fits s x → Below s w' w → Kept x' x → Below s w (s.extend a (s.extend b x)) → Below s w' (s.extend a (s.extend b x'))
  opened_kept w w' a b x x' fw fw' fa fb fx falls (inl same) below =
      let P : W → Type 0 = λ v. Below s w' (s.extend a (s.extend b v)) in
      subst P (sym same) (below_trans laws w' w (s.extend a (s.extend b x)) fw' fw (laws.fits-extend a (s.extend b x) fa (laws.fits-extend b x fb fx)) falls below)
  opened_kept w w' a b x x' fw fw' fa fb fx falls (inr none) below =
      let P : W → Type 0 = Below s w' in
      subst P (sym (ap (λ v. s.extend a (s.extend b v)) none ∙ ap (s.extend a) (laws.extend-zero_right b fb) ∙ laws.extend-zero_right a fa)) (below_zero laws w' fw')

  -- the same of what a tail makes of it
  pub tailed_kept : (w w' a x x' : W) → Fits s w → Fits s w' → Fits s a → Fits s x → Below s w' w → Kept x' x → Below s w (s.extend a x) → Below s w' (s.extend a x')
  tailed_kept w w' a x x' fw fw' fa fx falls (inl same) below =
      let P : W → Type 0 = λ v. Below s w' (s.extend a v) in
      subst P (sym same) (below_trans laws w' w (s.extend a x) fw' fw (laws.fits-extend a x fa fx) falls below)
  tailed_kept w w' a x x' fw fw' fa fx falls (inr none) below =
      let P : W → Type 0 = Below s w' in
      subst P (sym (ap (s.extend a) none ∙ laws.extend-zero_right a fa)) (below_zero laws w' fw')

  -- what is read on of a pair, where nothing is once the walk stops
  going_kept : (b : Bool) (x' x : W) → Kept x' x → Kept (if b then s.zero else x') (if b then s.zero else x)
  going_kept true x' x kept = inl refl
  going_kept false x' x kept = kept

  pub going_fits : (b : Bool) (x : W) → Fits s x → Fits s (if b then s.zero else x)
  going_fits true x fx = laws.fits-zero
  going_fits false x fx = fx

  module _ (stops : ℕ → Bool) (tails : List (TableEntry W)) (tails_fit : AllFit s tails) (old new : List (TableEntry W)) (old_fit : AllFit s old) (new_fit : AllFit s new) (falls : (x : Place) → Below s (weight_in s new x) (weight_in s old x)) where
    fo : (x : Place) → Fits s (weight_in s old x)
    fo x = place_fits s x old laws.fits-zero old_fit

    fn : (x : Place) → Fits s (weight_in s new x)
    fn x = place_fits s x new laws.fits-zero new_fit

    fb : (x : Place) → Fits s (weight_in s base x)
    fb x = place_fits s x base laws.fits-zero base_fits

    fso : (x : Place) → Fits s (settled_in s old x)
    fso x = elim (settled_or_none s x old) [ inl e ↦ subst (Fits s) (sym e) (fo x) | inr e ↦ subst (Fits s) (sym e) laws.fits-zero ]

    abbrev Pair : List (TableEntry W) → ℕ → ℕ → W
    Pair es = pair_in s p first wanted base es

    abbrev At : List (TableEntry W) → ℕ → ℕ → W
    At es = before_in s p first wanted base es

    abbrev Over : List (TableEntry W) → ℕ → ℕ → W
    Over es = above_in s p first wanted base es

    abbrev Going : List (TableEntry W) → ℕ → ℕ → W
    Going es = going_pair s p first wanted base es stops tails

    -- Each pair counts as it did, or for nothing, or has given what it gives: the walk is settled.
    pub settled_on : ((i m : ℕ) → Kept (settled_pair s p first wanted base new i m) (settled_pair s p first wanted base old i m) ⊎ IsPairMet s p first wanted base new stops tails i m)
        → ((k l : ℕ) → Kept (settled_before s p first wanted base new k l) (settled_before s p first wanted base old k l) ⊎ IsBeforeMet s p first wanted base new k l)
        → ((l m : ℕ) → Kept (settled_above s p first wanted base new l m) (settled_above s p first wanted base old l m) ⊎ IsAboveMet s p first wanted base new l m)
        → IsSettled s p first wanted base old stops tails → IsSettled s p first wanted base new stops tails
    settled_on each each_before each_above settled = record {
      tops = λ g j edge n. below_trans laws (weight_in s new (pair_place Down j n)) (weight_in s old (pair_place Down j n)) (weight_in s base (arrow wanted.control (Symbol g) n))
          (fn (pair_place Down j n)) (fo (pair_place Down j n)) (fb (arrow wanted.control (Symbol g) n)) (falls (pair_place Down j n)) (settled.tops g j edge n);
      uncovered = λ i low. below_trans laws (weight_in s new (pair_place Down 0 i)) (weight_in s old (pair_place Down 0 i)) (weight_in s base (arrow wanted.control Empty i))
          (fn (pair_place Down 0 i)) (fo (pair_place Down 0 i)) (fb (arrow wanted.control Empty i)) (falls (pair_place Down 0 i)) (settled.uncovered i low);
      states = λ i m deep. elim (each i m) [
        | inr met ↦ met.states deep
        | inl kept ↦ state_kept laws wanted.items (Over old) (Over new) (λ x y. fo (pair_place Above x y)) (λ x y. fn (pair_place Above x y)) (λ x y. falls (pair_place Above x y)) (Going old i m) (Going new i m)
            (going_fits (stops i) (settled_pair s p first wanted base old i m) (fso (pair_place Down i m)))
            (going_kept (stops i) (settled_pair s p first wanted base new i m) (settled_pair s p first wanted base old i m) kept) i m (settled.states i m deep)
      ];
      aboves = λ l m. elim (each_above l m) [
        | inr met ↦ met
        | inl kept ↦
            let was = settled.aboves l m in
            record {
              skips = skip_kept laws wanted.items (Over old) (Over new) (λ x y. fo (pair_place Above x y)) (λ x y. fn (pair_place Above x y)) (λ x y. falls (pair_place Above x y)) (settled_above s p first wanted base old l m)
                  (settled_above s p first wanted base new l m) (fso (pair_place Above l m)) kept l m was.skips;
              opens = λ k r there g h right takes is n.
                  opened_kept (weight_in s old (pair_place Down (suc l) n)) (weight_in s new (pair_place Down (suc l) n)) (weight_in s base (arrow r.control (Symbol r.symbol) n)) r.weight (settled_above s p first wanted base old l m)
                  (settled_above s p first wanted base new l m) (fo (pair_place Down (suc l) n)) (fn (pair_place Down (suc l) n)) (fb (arrow r.control (Symbol r.symbol) n)) (weight_fits system laws k r there) (fso (pair_place Above l m))
                  (falls (pair_place Down (suc l) n)) kept (was.opens k r there g h right takes is n);
            }
      ];
      readings = record {
        pairs = λ i a. elim (each i a) [
          | inr met ↦ met.reads
          | inl kept ↦ pair_kept laws wanted.items first.items (At old) (At new) (λ x y. fo (pair_place Before x y)) (λ x y. fn (pair_place Before x y)) (λ x y. falls (pair_place Before x y)) (Going old i a) (Going new i a)
              (going_fits (stops i) (settled_pair s p first wanted base old i a) (fso (pair_place Down i a)))
              (going_kept (stops i) (settled_pair s p first wanted base new i a) (settled_pair s p first wanted base old i a) kept) i a (settled.readings.pairs i a)
        ];
        befores = λ k l. elim (each_before k l) [
          | inr met ↦ met
          | inl kept ↦ before_kept laws wanted.items first.items (At old) (At new) (λ x y. fo (pair_place Before x y)) (λ x y. fn (pair_place Before x y)) (λ x y. falls (pair_place Before x y))
              (settled_before s p first wanted base old k l) (settled_before s p first wanted base new k l) (fso (pair_place Before k l)) kept (Pair old) (Pair new) (λ x y. fo (pair_place Down x y)) (λ x y. fn (pair_place Down x y))
              (λ x y. falls (pair_place Down x y)) (answer_in s p first wanted base old) (answer_in s p first wanted base new) (fo answer_place) (fn answer_place) (falls answer_place) k l (settled.readings.befores k l)
        ];
      };
      rests = λ j stop n. elim (each j n) [
        | inr met ↦ met.rests stop
        | inl kept ↦ tailed_kept (weight_in s old answer_place) (weight_in s new answer_place) (tail_in s tails n) (settled_pair s p first wanted base old j n) (settled_pair s p first wanted base new j n)
            (fo answer_place) (fn answer_place) (place_fits s (tail_place n) tails laws.fits-zero tails_fit) (fso (pair_place Down j n)) (falls answer_place) kept (settled.rests j stop n)
      ];
    }
