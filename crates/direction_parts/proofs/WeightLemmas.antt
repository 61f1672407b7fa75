-- Weights of rows and along paths.
use Rattle.std.proofs.Common.{◌≡◌, List, [], ◌∷◌, map, refl, sym, ap, ap₂, ◌∙◌, subst}
use Rattle.std.specs.Prelude.{Option, None, Some}
use Rattle.std.specs.List.{AllByRecursion}
use Rattle.semiring_laws.specs.Semiring.{Operations, IsSemiring, Fits}
use Rattle.weighted_automata.specs.declared.place.Place.{Place}
use Rattle.weighted_automata.specs.declared.transitions.Entry.{Entry}
use Rattle.weighted_automata.specs.Entries.{entry_at, Present}
use Rattle.weighted_automata.proofs.CallerLemmas.{entry_at-place}
use Rattle.witness_graph.specs.declared.node.Side.{Side}
use Rattle.witness_graph.specs.declared.node.Side.TheVariants.{Pre, Post}
use Rattle.saturation_laws.specs.Jobs.{place_of}
use Rattle.saturation_laws.specs.Paths.{along, in_order, entry_weight}
use Rattle.saturation_laws.specs.States.{weight_of, weight_at}
use Rattle.saturation_laws.proofs.CallerLemmas.{IsLinear}

module _ {W Map : Type 0} {s : Operations W Map} (laws : IsSemiring s) where
  -- what the rows leave as it is
  pub linear_extend : (a : W) → Fits s a → IsLinear s (s.extend a)
  linear_extend a fit_a = record {
    strict = laws.extend-zero_right a fit_a;
    adds = λ b c fb fc. laws.extend-combine_right a b c fit_a fb fc;
  }

  pub linear_extended : (b : W) → Fits s b → IsLinear s (λ a. s.extend a b)
  linear_extended b fit_b = record {
    strict = laws.extend-zero_left b fit_b;
    adds = λ a c fa fc. laws.extend-combine_left a c b fa fc fit_b;
  }

  -- a product fits, and is zero where a factor is
  order_fits : (side : Side) (a b : W) → Fits s a → Fits s b → Fits s (in_order s side a b)
  order_fits Pre a b fa fb = laws.fits-extend a b fa fb
  order_fits Post a b fa fb = laws.fits-extend b a fb fa

  zero_first : (side : Side) (a b : W) → a ≡ s.zero → Fits s b → in_order s side a b ≡ s.zero
  zero_first Pre a b e fb = ap (λ x. s.extend x b) e ∙ laws.extend-zero_left b fb
  zero_first Post a b e fb = ap (s.extend b) e ∙ laws.extend-zero_right b fb

  zero_rest : (side : Side) (a b : W) → Fits s a → b ≡ s.zero → in_order s side a b ≡ s.zero
  zero_rest Pre a b fa e = ap (s.extend a) e ∙ laws.extend-zero_right a fa
  zero_rest Post a b fa e = ap (λ x. s.extend x a) e ∙ laws.extend-zero_left a fa

  -- and so does the product along places
  pub along_fits : (side : Side) (weight : Place → W) → ((x : Place) → Fits s (weight x)) → (xs : List Place) → Fits s (along s side (map weight xs))
  along_fits side weight fit [] = laws.fits-one
  along_fits side weight fit (x ∷ xs) = order_fits side (weight x) (along s side (map weight xs)) (fit x) (along_fits side weight fit xs)

-- A path of transitions at these places.
pub record IsThere {S W Map : Type 0} (s : Operations W Map) (ts : List (Entry S W Map)) (xs : List Place) : Type 0 where
  pub path : List (Entry S W Map)
  pub present : AllByRecursion (Present ts) path
  pub places : map place_of path ≡ xs
  pub weights : map entry_weight path ≡ map (λ x. weight_at s x ts) xs

module _ {S W Map : Type 0} {s : Operations W Map} (laws : IsSemiring s) (ts : List (Entry S W Map)) where
  -- the weights at places fit where those of the transitions do
  pub weights_at_fit : ((t : Entry S W Map) → Present ts t → Fits s t.weight) → (x : Place) → Fits s (weight_at s x ts)
  weights_at_fit each x = elim (entry_at x ts) as (λ e. entry_at x ts ≡ e → Fits s (weight_of s e)) [
    | None ↦ λ e. laws.fits-zero
    | Some t ↦ λ e. each t (ap (λ y. entry_at y ts) (entry_at-place x ts t e) ∙ e)
  ] refl

  module _ (side : Side) (fit : (x : Place) → Fits s (weight_at s x ts)) where
    abbrev weights : List Place → List W
    weights xs = map (λ y. weight_at s y ts) xs

    there_more : (x : Place) (o : Option (Entry S W Map)) → entry_at x ts ≡ o → (xs : List Place) → (in_order s side (weight_of s o) (along s side (weights xs)) ≡ s.zero → ⊥)
        → ((along s side (weights xs) ≡ s.zero → ⊥) → IsThere s ts xs) → IsThere s ts (x ∷ xs)
    there_more x None e xs some known = absurd (some (zero_first laws side s.zero (along s side (weights xs)) refl (along_fits laws side (λ y. weight_at s y ts) fit xs)))
    there_more x (Some t) e xs some known =
        let at : t.place ≡ x = entry_at-place x ts t e in
        let fx : Fits s t.weight = let P : Option (Entry S W Map) → Type 0 = λ o. Fits s (weight_of s o) in subst P e (fit x) in
        let rest = known (λ z. some (zero_rest laws side t.weight (along s side (weights xs)) fx z)) in
        record {
          path = t ∷ rest.path;
          present = (ap (λ y. entry_at y ts) at ∙ e, rest.present);
          places = ap₂ (λ y ys. y ∷ ys) at rest.places;
          weights = ap₂ (λ w ws. w ∷ ws) (sym (ap (weight_of s) e)) rest.weights;
        }

    -- where the product is not zero, each place has a transition
    pub is_there : (xs : List Place) → (along s side (weights xs) ≡ s.zero → ⊥) → IsThere s ts xs
    is_there [] some = record { path = []; present = tt; places = refl; weights = refl }
    is_there (x ∷ xs) some = there_more x (entry_at x ts) refl xs some (is_there xs)
