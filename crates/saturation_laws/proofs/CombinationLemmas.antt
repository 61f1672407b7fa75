-- Combinations of the values of runs that are put together.
use Rattle.std.proofs.Common.{◌≡◌, ℕ, List, [], ◌∷◌, ◌++◌, map, refl, sym, ap, ap₂, ◌∙◌, subst}
use Rattle.std.specs.List.{AllByRecursion}
use Rattle.std.proofs.lemmas.List.{map-append, append-nil}
use Rattle.semiring_laws.specs.Semiring.{Operations, IsSemiring, Fits}
use Rattle.semiring_laws.specs.Combination.{combination}
use Rattle.witness_graph.specs.Runs.{concatenations}
use Rattle.saturation_laws.proofs.QueueLemmas.{all_append}
use Rattle.saturation_laws.proofs.ValueLemmas.{worth_fits, worth-append}

-- a function on weights that combinations pass through
pub record IsLinear {W Map : Type 0} (s : Operations W Map) (G : W → W) : Type 0 where
  pub strict : G s.zero ≡ s.zero
  pub adds : (a b : W) → Fits s a → Fits s b → G (s.combine a b) ≡ s.combine (G a) (G b)

module _ {W Map : Type 0} {s : Operations W Map} (laws : IsSemiring s) (value : List ℕ → W) (fits_value : (run : List ℕ) → Fits s (value run)) where
  abbrev worth : List (List ℕ) → W
  worth rs = combination s (map value rs)

  pub linear : (G : W → W) → IsLinear s G → (f g : List ℕ → List ℕ) (P : List ℕ → Type 0) → ((a : List ℕ) → P a → value (f (g a)) ≡ G (value a))
      → (xs : List (List ℕ)) → AllByRecursion P xs → worth (map f (map g xs)) ≡ G (worth xs)
  linear G lin f g P each [] _ = sym lin.strict
  linear G lin f g P each (x ∷ xs) all =
      ap₂ s.combine (each x all.0) (linear G lin f g P each xs all.1) ∙ sym (lin.adds (value x) (worth xs) (fits_value x) (worth_fits laws value fits_value xs))

  module _ (F : W → W → W) (left : (b : W) → Fits s b → IsLinear s (λ a. F a b)) (right : (a : W) → Fits s a → IsLinear s (F a)) where
    pub bilinear : (f : List ℕ → List ℕ) (P Q : List ℕ → Type 0) → ((a b : List ℕ) → P a → Q b → value (f (a ++ b)) ≡ F (value a) (value b))
        → (xs ys : List (List ℕ)) → AllByRecursion P xs → AllByRecursion Q ys → worth (map f (concatenations xs ys)) ≡ F (worth xs) (worth ys)
    bilinear f P Q each [] ys _ _ = sym (left (worth ys) (worth_fits laws value fits_value ys)).strict
    bilinear f P Q each (x ∷ xs) ys all alls =
        let first = map (λ b. x ++ b) ys in
        let rest = concatenations xs ys in
        ap worth (map-append f first rest)
        ∙ worth-append laws value fits_value (map f first) (map f rest)
        ∙ ap₂ s.combine (linear (F (value x)) (right (value x) (fits_value x)) f (λ b. x ++ b) Q (λ b q. each x b all.0 q) ys alls) (bilinear f P Q each xs ys all.1 alls)
        ∙ sym ((left (worth ys) (worth_fits laws value fits_value ys)).adds (value x) (worth xs) (fits_value x) (worth_fits laws value fits_value xs))

module _ (R : List ℕ → Type 0) (f : List ℕ → List ℕ) where
  pub all_map : (g : List ℕ → List ℕ) (Q : List ℕ → Type 0) → ((b : List ℕ) → Q b → R (f (g b))) → (ys : List (List ℕ)) → AllByRecursion Q ys → AllByRecursion R (map f (map g ys))
  all_map g Q each [] _ = tt
  all_map g Q each (y ∷ ys) all = (each y all.0, all_map g Q each ys all.1)

  pub all_pairs : (P Q : List ℕ → Type 0) → ((a b : List ℕ) → P a → Q b → R (f (a ++ b))) → (xs ys : List (List ℕ)) → AllByRecursion P xs → AllByRecursion Q ys
      → AllByRecursion R (map f (concatenations xs ys))
  all_pairs P Q each [] ys _ _ = tt
  all_pairs P Q each (x ∷ xs) ys all alls =
      let first = map (λ b. x ++ b) ys in
      subst (AllByRecursion R) (sym (map-append f first (concatenations xs ys)))
      (all_append R (map f first) (map f (concatenations xs ys)) (all_map (λ b. x ++ b) Q (λ b q. each x b all.0 q) ys alls) (all_pairs P Q each xs ys all.1 alls))

-- each run followed by the empty one
pub then_empty : (xs : List (List ℕ)) → concatenations xs ([] ∷ []) ≡ xs
then_empty [] = refl
then_empty (x ∷ xs) = ap₂ ◌∷◌ (append-nil x) (then_empty xs)

-- one rule before each run
pub after_rule : (k : ℕ) (zs : List (List ℕ)) → concatenations ((k ∷ []) ∷ []) zs ≡ map (λ z. k ∷ z) zs
after_rule k zs = append-nil (map (λ z. k ∷ z) zs)
