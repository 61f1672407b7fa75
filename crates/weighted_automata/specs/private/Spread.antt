-- How places are spread, to be found.
use Rattle.std.proofs.Common.{◌≡◌, ℕ, ap, ap₂, refl, ◌∙◌}
use Rattle.std.specs.Prelude.{IsTrue}
use Rattle.std.specs.Ordering.{eq_by_cmp, nat_cmp, ordering_then}
use Rattle.key_rows.specs.Keys.{mixed}
use Rattle.key_rows.specs.KeyLaws.{same_numbers, both_equal}
use Rattle.weighted_automata.specs.contracts.place.LabelOrd.TheImpl.{ghosts as of_labels}
use Rattle.weighted_automata.specs.contracts.place.PlaceOrd.TheImpl.{ghosts as of_places}
use Rattle.weighted_automata.specs.contracts.index.SourceOrd.TheImpl.{ghosts as of_sources}
use Rattle.weighted_automata.specs.declared.place.Label.{Label}
use Rattle.weighted_automata.specs.declared.place.Label.TheVariants.{Symbol, Empty}
use Rattle.weighted_automata.specs.declared.place.Place.{Place}
use Rattle.weighted_automata.specs.declared.index.Source.{Source}

abbrev pub label_word : Label → ℕ
label_word l = elim l [ Symbol a ↦ a | Empty ↦ 4294967295 ]

abbrev pub place_spread : ℕ → Place → ℕ
place_spread n p = mixed (mixed (mixed (mixed n 2) p.from) (label_word p.label)) p.to

abbrev pub source_spread : ℕ → Source → ℕ
source_spread n s = mixed (mixed (mixed n 3) s.state) (label_word s.label)

same_word : (a b : Label) → IsTrue (eq_by_cmp of_labels.cmp a b) → label_word a ≡ label_word b
same_word (Symbol a) (Symbol b) e = same_numbers a b e
same_word (Symbol a) Empty e = cc
same_word Empty (Symbol b) e = cc
same_word Empty Empty e = refl

-- equal places are spread alike
pub places_alike : (n : ℕ) (a b : Place) → IsTrue (eq_by_cmp of_places.cmp a b) → place_spread n a ≡ place_spread n b
places_alike n a b e =
    let first = both_equal (nat_cmp a.from b.from) (ordering_then (of_labels.cmp a.label b.label) (nat_cmp a.to b.to)) e in
    let second = both_equal (of_labels.cmp a.label b.label) (nat_cmp a.to b.to) first.1 in
    ap (λ f. mixed (mixed (mixed (mixed n 2) f) (label_word a.label)) a.to) (same_numbers a.from b.from first.0)
    ∙ ap₂ (λ l t. mixed (mixed (mixed (mixed n 2) b.from) l) t) (same_word a.label b.label second.0) (same_numbers a.to b.to second.1)

pub sources_alike : (n : ℕ) (a b : Source) → IsTrue (eq_by_cmp of_sources.cmp a b) → source_spread n a ≡ source_spread n b
sources_alike n a b e =
    let both = both_equal (nat_cmp a.state b.state) (of_labels.cmp a.label b.label) e in
    ap₂ (λ s l. mixed (mixed (mixed n 3) s) l) (same_numbers a.state b.state both.0) (same_word a.label b.label both.1)
