-- When a transition goes from a state over a symbol.
use Rattle.std.proofs.Common.{◌≡◌, ℕ, true, List, [], ◌∷◌, refl, sym, ap, ap₂, ◌∙◌}
use Rattle.std.specs.Prelude.{None, Some, nat_eq}
use Rattle.std.proofs.lemmas.Bool.{and_parts, and_from, eqb-true, eq-eqb}
use Rattle.weighted_automata.specs.declared.place.Place.{Place}
use Rattle.weighted_automata.specs.declared.place.Label.{Label}
use Rattle.weighted_automata.specs.declared.place.Label.TheVariants.{Symbol, Empty}
use Rattle.weighted_automata.specs.declared.transitions.Entry.{Entry}
use Rattle.weighted_automata.specs.Places.{same_label}
use Rattle.weighted_automata.specs.Entries.{is_from, HasDistinctPlaces}
use Rattle.wpds_base.specs.Lists.{IsOnce}
use Rattle.saturation_laws.proofs.CallerLemmas.{in_present}
use Rattle.direction_parts.specs.Places.{arrow}

-- a label is a symbol's exactly where the test holds
label_is : (l : Label) (g : ℕ) → same_label l (Symbol g) ≡ true → l ≡ Symbol g
label_is (Symbol a) g h = ap Symbol (eqb-true a g h)
label_is Empty g h = cc

pub label_from : (l : Label) (g : ℕ) → l ≡ Symbol g → same_label l (Symbol g) ≡ true
label_from l g e = ap (λ m. same_label m (Symbol g)) e ∙ eq-eqb g g refl

module _ {S W Map : Type 0} where
  pub from_is : (n g : ℕ) (t : Entry S W Map) → is_from n (Symbol g) t ≡ true → t.place ≡ arrow n g t.place.to
  from_is n g t h =
      let parts = and_parts (nat_eq t.place.from n) (same_label t.place.label (Symbol g)) h in
      ap₂ (λ m l. let x : Place = record { from = m; label = l; to = t.place.to } in x) (eqb-true t.place.from n parts.0) (label_is t.place.label g parts.1)

  pub is_from_there : (n g q : ℕ) (t : Entry S W Map) → t.place ≡ arrow n g q → is_from n (Symbol g) t ≡ true
  is_from_there n g q t at =
      and_from (nat_eq t.place.from n) (same_label t.place.label (Symbol g)) (eq-eqb t.place.from n (ap (λ (x : Place). x.from) at)) (label_from t.place.label g (ap (λ (x : Place). x.label) at))

  -- transitions of distinct places stand once
  pub distinct_once : (ts : List (Entry S W Map)) → HasDistinctPlaces ts → IsOnce ts
  distinct_once [] _ = tt
  distinct_once (t ∷ ts) distinct = (λ h. let e : None ≡ Some t = sym distinct.0 ∙ in_present ts t distinct.1 h in cc, distinct_once ts distinct.1)
