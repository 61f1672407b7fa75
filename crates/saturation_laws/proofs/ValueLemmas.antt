-- Combinations of the values of runs.
use Rattle.std.proofs.Common.{◌≡◌, ℕ, List, [], ◌∷◌, ◌++◌, map, ap, ◌∙◌, subst}
use Rattle.std.specs.List.{AllByRecursion}
use Rattle.std.proofs.lemmas.List.{map-append}
use Rattle.std.proofs.lemmas.List.Elements.{All-from_recursion}
use Rattle.semiring_laws.specs.Semiring.{Operations, IsSemiring, Fits, Below}
use Rattle.semiring_laws.specs.Combination.{combination}
use Rattle.semiring_laws.proofs.CallerLemmas.{combine_below_left, zero_below, combination-append, combination_fits}

module _ {W Map : Type 0} {s : Operations W Map} (laws : IsSemiring s) where
  -- a combination that is zero was zero before
  pub zero_before : (a b : W) → Fits s a → Fits s b → s.combine a b ≡ s.zero → a ≡ s.zero
  zero_before a b fa fb e = let P : W → Type 0 = λ x. Below s x a in zero_below laws a fa (subst P e (combine_below_left laws a b fa fb))

module _ {W Map : Type 0} {s : Operations W Map} (laws : IsSemiring s) (value : List ℕ → W) (fits_value : (run : List ℕ) → Fits s (value run)) where
  values_fit : (rs : List (List ℕ)) → AllByRecursion (Fits s) (map value rs)
  values_fit [] = tt
  values_fit (r ∷ rs) = (fits_value r, values_fit rs)

  pub worth_fits : (rs : List (List ℕ)) → Fits s (combination s (map value rs))
  worth_fits rs = combination_fits laws (map value rs) (All-from_recursion (Fits s) (map value rs) (values_fit rs))

  pub worth-append : (rs qs : List (List ℕ)) → combination s (map value (rs ++ qs)) ≡ s.combine (combination s (map value rs)) (combination s (map value qs))
  worth-append rs qs = ap (combination s) (map-append value rs qs)
      ∙ combination-append laws (map value rs) (map value qs) (All-from_recursion (Fits s) (map value rs) (values_fit rs)) (All-from_recursion (Fits s) (map value qs) (values_fit qs))
