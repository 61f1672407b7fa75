-- The making of tails begins: what ends waits, and nothing else is there.
use Rattle.std.proofs.Common.{◌≡◌, inl, inr, ℕ, List, [], refl, sym, ap, ◌∙◌, subst}
use Rattle.std.specs.Prelude.{IsTrue}
use Rattle.semiring_laws.specs.Semiring.{Operations, IsSemiring, Fits, Below}
use Rattle.semiring_laws.proofs.CallerLemmas.{below_zero}
use Rattle.pushdown_rules.specs.Pushdown.{IsSystem}
use Rattle.config_patterns.specs.Edges.{is_final_of}
use Rattle.config_patterns.specs.Membership.{PatternValue}
use Rattle.weighted_automata.specs.declared.place.Place.{Place}
use Rattle.weight_tables.specs.Entries.{TableEntry, weight_in, settled_in}
use Rattle.weight_tables.specs.Tables.{TablesValue, AreTables, with_entries, with_hand}
use Rattle.weight_tables.specs.declared.layer.Layer.TheVariants.{Target}
use Rattle.weight_tables.proofs.CallerLemmas.{place_fits}
use Rattle.walk_pairs.proofs.CallerLemmas.{AllFit}
use Rattle.value_tails.specs.Tailing.{tail_place, tail_in, IsTail}
use Rattle.value_tails.specs.private.Steps.{link_place, AreTailsLowered, IsTailing, IsTailedOver}
use Rattle.value_tails.proofs.TailLemmas.{tails_fit, tails_counts, tails_hold}

module _ {S W Map : Type 0} (operations : S → Operations W Map) (laws : (x : S) → IsSemiring (operations x)) where
  abbrev of : TablesValue S W Map → Operations W Map
  of v = operations v.system.semiring

  -- no tail, and the weight one in hand
  abbrev pub empty : TablesValue S W Map → TablesValue S W Map
  empty v = with_hand (of v).one (with_entries Target [] v)

  pub empty_is : (v v1 : TablesValue S W Map) → v1 ≡ empty v → AllFit (of v1) v1.target
  empty_is v v1 is = let P : TablesValue S W Map → Type 0 = λ u. AllFit (of u) u.target in subst P (sym is) tt

  module _ (first : PatternValue) (v : TablesValue S W Map) (system : IsSystem operations v.system) (valid : AreTables (of v) v) (v1 : TablesValue S W Map) (is : v1 ≡ empty v) (now : TablesValue S W Map)
      (tails : AreTailsLowered (of v1) first v1 now) where
    abbrev s : Operations W Map
    s = of v

    abbrev law : IsSemiring s
    law = laws v.system.semiring

    lowered : AreTailsLowered s first (empty v) now
    lowered = let P : TablesValue S W Map → Type 0 = λ u. AreTailsLowered (of u) first u now in subst P is tails

    pub begun_over : IsTailedOver v now
    begun_over = lowered.others

    fits_now : AllFit s now.target
    fits_now = tails_fit operations laws first (empty v) now tt lowered

    none_counts : (y : Place) → settled_in s now.target y ≡ s.zero
    none_counts y = elim (tails_counts operations laws first (empty v) now tt lowered y) [ inl same ↦ same | inr none ↦ none ]

    below_none : (n : ℕ) (w : W) → w ≡ s.zero → Below s (tail_in s now.target n) w
    below_none n w none = let P : W → Type 0 = Below s (tail_in s now.target n) in subst P (sym none) (below_zero law (tail_in s now.target n) (place_fits s (tail_place n) now.target law.fits-zero fits_now))

    pub begun_tailing : ((a : ℕ) → IsTrue (is_final_of first.items a) → Below (of v1) (tail_in (of v1) now.target a) (of v1).one) → IsTailing s first now
    begun_tailing ends =
        let E : TablesValue S W Map → Type 0 = λ u. (a : ℕ) → IsTrue (is_final_of first.items a) → Below (of u) (tail_in (of u) now.target a) (of u).one in
        let made = tails_hold operations laws first (empty v) now tt lowered system (λ x. inl refl) in
        let P : TablesValue S W Map → Type 0 = IsTailing s first in
        subst P (sym begun_over) (record {
          sums = made;
          ends = subst E is ends;
          reads = λ b a g edge. below_none a (settled_in s now.target (tail_place b)) (none_counts (tail_place b));
          links = λ n m.
              let link = weight_in s v.walk (link_place n m) in
              below_none m (s.extend (settled_in s now.target (tail_place n)) link)
              (ap (λ u. s.extend u link) (none_counts (tail_place n)) ∙ law.extend-zero_left link (place_fits s (link_place n m) v.walk law.fits-zero valid.walk.fits));
        })
