-- Weights that combine runs: of runs of two kinds, and of runs that are put together.
use Rattle.std.proofs.Common.{◌≡◌, ℕ, List, [], ◌∷◌, ◌++◌, refl, sym, ap, ap₂, ◌∙◌, subst}
use Rattle.std.specs.Prelude.{map}
use Rattle.std.specs.List.{AllByRecursion}
use Rattle.semiring_laws.specs.Semiring.{Operations, IsSemiring, Fits, FitsMap}
use Rattle.semiring_laws.specs.Combination.{combination}
use Rattle.semiring_laws.proofs.CallerLemmas.{combine_zero, fits}
use Rattle.value_laws.specs.Runs.{Sums}

-- a function on weights that keeps zero and combine
pub record IsLinear {W Map : Type 0} (s : Operations W Map) (f : W → W) : Type 0 where
  pub strict : f s.zero ≡ s.zero
  pub adds : (a b : W) → Fits s a → Fits s b → f (s.combine a b) ≡ s.combine (f a) (f b)

module _ {W Map : Type 0} {s : Operations W Map} (laws : IsSemiring s) where
  pub linear_left : (a : W) → Fits s a → IsLinear s (s.extend a)
  linear_left a fit = record { strict = laws.extend-zero_right a fit; adds = λ b c fb fc. laws.extend-combine_right a b c fit fb fc }

  pub linear_right : (b : W) → Fits s b → IsLinear s (λ a. s.extend a b)
  linear_right b fit = record { strict = laws.extend-zero_left b fit; adds = λ a c fa fc. laws.extend-combine_left a c b fa fc fit }

  pub linear_after : (h : Map) (w : W) → FitsMap s h → Fits s w → IsLinear s (λ a. s.after h (s.extend w a))
  linear_after h w fh fw = record {
    strict = ap (s.after h) (laws.extend-zero_right w fw) ∙ laws.after-zero h fh;
    adds = λ a b fa fb. ap (s.after h) (laws.extend-combine_right w a b fw fa fb) ∙ laws.after-combine h (s.extend w a) (s.extend w b) fh (laws.fits-extend w a fw fa) (laws.fits-extend w b fw fb);
  }

module _ {W Map : Type 0} {s : Operations W Map} (laws : IsSemiring s) (value : List ℕ → W) (fits_value : (run : List ℕ) → Fits s (value run)) where
  abbrev worth : List (List ℕ) → W
  worth rs = combination s (map value rs)

  values_fit : (rs : List (List ℕ)) → AllByRecursion (Fits s) (map value rs)
  values_fit [] = tt
  values_fit (r ∷ rs) = (fits_value r, values_fit rs)

  pub worth_fits : (rs : List (List ℕ)) → Fits s (worth rs)
  worth_fits rs = fits laws (map value rs) (values_fit rs)

  worth_append : (xs ys : List (List ℕ)) → worth (xs ++ ys) ≡ s.combine (worth xs) (worth ys)
  worth_append [] ys = sym (laws.combine_zero (worth ys) (worth_fits ys))
  worth_append (x ∷ xs) ys = ap (s.combine (value x)) (worth_append xs ys) ∙ sym (laws.combine_assoc (value x) (worth xs) (worth ys) (fits_value x) (worth_fits xs) (worth_fits ys))

  module _ (P : List ℕ → Type 0) where
    pub sums_fit : (w : W) → Sums s value P w → Fits s w
    sums_fit w sums = subst (Fits s) (sym sums.weight) (worth_fits sums.list)

    pub sums_none : Sums s value P s.zero
    sums_none = record { list = []; each = tt; weight = refl }

    pub sums_one : (run : List ℕ) → P run → Sums s value P (value run)
    sums_one run is = record { list = run ∷ []; each = (is, tt); weight = sym (combine_zero laws (value run) (fits_value run)) }

    all_append : (xs ys : List (List ℕ)) → AllByRecursion P xs → AllByRecursion P ys → AllByRecursion P (xs ++ ys)
    all_append [] ys _ all = all
    all_append (x ∷ xs) ys all alls = (all.0, all_append xs ys all.1 alls)

    pub sums_combine : (v w : W) → Sums s value P v → Sums s value P w → Sums s value P (s.combine v w)
    sums_combine v w a b = record {
      list = a.list ++ b.list;
      each = all_append a.list b.list a.each b.each;
      weight = ap₂ s.combine a.weight b.weight ∙ sym (worth_append a.list b.list);
    }

    module _ (Q : List ℕ → Type 0) (f : List ℕ → List ℕ) (F : W → W) (linear : IsLinear s F) (each : (a : List ℕ) → P a → Q (f a) × (value (f a) ≡ F (value a))) where
      mapped : (rs : List (List ℕ)) → AllByRecursion P rs → Sums s value Q (F (worth rs))
      mapped [] _ = record { list = []; each = tt; weight = linear.strict }
      mapped (r ∷ rs) all =
          let rest = mapped rs all.1 in
          let here = each r all.0 in
          record {
            list = f r ∷ rest.list;
            each = (here.0, rest.each);
            weight = linear.adds (value r) (worth rs) (fits_value r) (worth_fits rs) ∙ ap₂ s.combine (sym here.1) rest.weight;
          }

      -- a function on runs, with the same on weights
      pub sums_map : (w : W) → Sums s value P w → Sums s value Q (F w)
      sums_map w sums = let T : W → Type 0 = λ v. Sums s value Q (F v) in subst T (sym sums.weight) (mapped sums.list sums.each)

  -- the same of two runs
  module _ (P Q R : List ℕ → Type 0) (f : List ℕ → List ℕ → List ℕ) (F : W → W → W) (left : (b : W) → Fits s b → IsLinear s (λ a. F a b)) (right : (a : W) → Fits s a → IsLinear s (F a))
      (each : (a b : List ℕ) → P a → Q b → R (f a b) × (value (f a b) ≡ F (value a) (value b))) where
    paired : (rs : List (List ℕ)) → AllByRecursion P rs → (w : W) → Sums s value Q w → Sums s value R (F (worth rs) w)
    paired [] _ w sums = let T : W → Type 0 = Sums s value R in subst T (sym (left w (sums_fit Q w sums)).strict) (sums_none R)
    paired (r ∷ rs) all w sums =
        let T : W → Type 0 = Sums s value R in
        subst T (sym ((left w (sums_fit Q w sums)).adds (value r) (worth rs) (fits_value r) (worth_fits rs)))
        (sums_combine R (F (value r) w) (F (worth rs) w)
        (sums_map Q R (f r) (F (value r)) (right (value r) (fits_value r)) (λ b is. each r b all.0 is) w sums)
        (paired rs all.1 w sums))

    pub sums_pairs : (v w : W) → Sums s value P v → Sums s value Q w → Sums s value R (F v w)
    sums_pairs v w a b = let T : W → Type 0 = λ u. Sums s value R (F u w) in subst T (sym a.weight) (paired a.list a.each w b)

  -- runs of one kind are runs of another
  pub sums_within : (P Q : List ℕ → Type 0) → ((a : List ℕ) → P a → Q a) → (w : W) → Sums s value P w → Sums s value Q w
  sums_within P Q each w sums = sums_map P Q (λ a. a) (λ v. v) (record { strict = refl; adds = λ a b fa fb. refl }) (λ a is. (each a is, refl)) w sums
