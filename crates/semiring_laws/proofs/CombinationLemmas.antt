-- What the laws of a semiring give of combinations.
use Rattle.std.proofs.Common.{◌≡◌, ℕ, ◌+◌, ◌<◌, List, [], ◌∷◌, ◌++◌, length, get_or, take, sym, subst, ap, ◌∙◌, refl}
use Rattle.std.specs.Prelude.{map}
use Rattle.std.specs.List.{All, AllByRecursion, Contains}
use Rattle.std.specs.List.Sorted.{IsPermutation}
use Rattle.std.proofs.lemmas.List.{take_more}
use Rattle.std.proofs.lemmas.List.Elements.{recursion_from_All, All-from_recursion, All-take, All-contains}
use Rattle.std.proofs.lemmas.List.Sorted.{All-permutation, IsPermutation-sym}
use Rattle.semiring_laws.specs.Semiring.{Operations, IsSemiring, Fits, FitsMap, Below}
use Rattle.semiring_laws.specs.Combination.{combination}
use Rattle.semiring_laws.proofs.OrderLemmas.{combine_zero, below_trans, below_each_other, below_combine, combine_below_left, combine_below_right, zero_below}

module _ {W Map : Type 0} {s : Operations W Map} (laws : IsSemiring s) where
  pub fits : (ws : List W) → AllByRecursion (Fits s) ws → Fits s (combination s ws)
  fits [] fit = laws.fits-zero
  fits (w ∷ ws) fit = laws.fits-combine w (combination s ws) fit.0 (fits ws fit.1)

  pub combination_fits : (ws : List W) → All (Fits s) ws → Fits s (combination s ws)
  combination_fits ws fit = fits ws (recursion_from_All (Fits s) ws fit)

  append : (vs ws : List W) → AllByRecursion (Fits s) vs → AllByRecursion (Fits s) ws
      → combination s (vs ++ ws) ≡ s.combine (combination s vs) (combination s ws)
  append [] ws _ fit = sym (laws.combine_zero (combination s ws) (fits ws fit))
  append (v ∷ vs) ws fit fit' =
      ap (s.combine v) (append vs ws fit.1 fit')
      ∙ sym (laws.combine_assoc v (combination s vs) (combination s ws) fit.0 (fits vs fit.1) (fits ws fit'))

  -- the combination of an append is the combine of the two
  pub combination-append : (vs ws : List W) → All (Fits s) vs → All (Fits s) ws
      → combination s (vs ++ ws) ≡ s.combine (combination s vs) (combination s ws)
  combination-append vs ws fit fit' = append vs ws (recursion_from_All (Fits s) vs fit) (recursion_from_All (Fits s) ws fit')

  pub combination-push : (ws : List W) (w : W) → All (Fits s) ws → Fits s w
      → combination s (ws ++ w ∷ []) ≡ s.combine (combination s ws) w
  combination-push ws w fit fit' =
      append ws (w ∷ []) (recursion_from_All (Fits s) ws fit) (fit', tt) ∙ ap (s.combine (combination s ws)) (combine_zero laws w fit')

  -- one weight alone
  pub combination-one : (w : W) → Fits s w → combination s (w ∷ []) ≡ w
  combination-one w fit = combine_zero laws w fit

  -- one weight more of a list, as a loop meets it
  pub combination-take_more : (ws : List W) (i : ℕ) (w : W) → All (Fits s) ws → i < length ws → w ≡ get_or ws i w
      → s.combine (combination s (take i ws)) w ≡ combination s (take (i + 1) ws)
  combination-take_more ws i w fit within read =
      let fits_item : Fits s w = subst (Fits s) (sym read) (fit i w within) in
      sym (
      ap (combination s) (take_more ws i w within ∙ ap (λ v. take i ws ++ v ∷ []) (sym read))
      ∙ combination-push (take i ws) w (All-take (Fits s) i ws fit) fits_item
      )

  -- what is below each weight is below their combination
  pub below_combination : (v : W) (ws : List W) → Fits s v → AllByRecursion (Fits s) ws → AllByRecursion (Below s v) ws → Below s v (combination s ws)
  below_combination v [] fit _ _ = combine_zero laws v fit
  below_combination v (w ∷ ws) fit fit' below =
      below_combine laws v w (combination s ws) fit fit'.0 (fits ws fit'.1) below.0 (below_combination v ws fit fit'.1 below.1)

  from_below : (u v : W) (ws : List W) → Fits s u → Fits s v → Below s u v → AllByRecursion (Fits s) ws → AllByRecursion (Below s v) ws → AllByRecursion (Below s u) ws
  from_below u v [] _ _ _ _ _ = tt
  from_below u v (w ∷ ws) fit fit' uv fits below =
      (below_trans laws u v w fit fit' fits.0 uv below.0, from_below u v ws fit fit' uv fits.1 below.1)

  -- a combination is below each of its weights
  pub below_each : (ws : List W) → AllByRecursion (Fits s) ws → AllByRecursion (Below s (combination s ws)) ws
  below_each [] _ = tt
  below_each (w ∷ ws) fit =
      let rest = combination s ws in
      let fits_rest = fits ws fit.1 in (
        combine_below_left laws w rest fit.0 fits_rest,
        from_below (s.combine w rest) rest ws (laws.fits-combine w rest fit.0 fits_rest) fits_rest (combine_below_right laws w rest fit.0 fits_rest) fit.1 (below_each ws fit.1),
      )

  pub combination_below_each : (ws : List W) → All (Fits s) ws → All (Below s (combination s ws)) ws
  combination_below_each ws fit = All-from_recursion (Below s (combination s ws)) ws (below_each ws (recursion_from_All (Fits s) ws fit))

  pub below_combination_of : (v : W) (ws : List W) → Fits s v → All (Fits s) ws → All (Below s v) ws → Below s v (combination s ws)
  below_combination_of v ws fit fits below =
      below_combination v ws fit (recursion_from_All (Fits s) ws fits) (recursion_from_All (Below s v) ws below)

  pub combination_below_member : (ws : List W) (w : W) → All (Fits s) ws → Contains ws w → Below s (combination s ws) w
  combination_below_member ws w fit member = All-contains (Below s (combination s ws)) ws w (combination_below_each ws fit) member

  -- the combination of more weights is below that of fewer
  pub combination_of_more : (vs ws : List W) → All (Fits s) vs → All (Fits s) ws → All (Contains vs) ws → Below s (combination s vs) (combination s ws)
  combination_of_more vs ws fit fit' members =
      below_combination_of (combination s vs) ws (combination_fits vs fit) fit'
      (λ k d within. combination_below_member vs _ fit (members k d within))

  -- lists with the same weights have the same combination, however often each stands in them
  pub combination_of_members : (vs ws : List W) → All (Fits s) vs → All (Fits s) ws → All (Contains vs) ws → All (Contains ws) vs → combination s vs ≡ combination s ws
  combination_of_members vs ws fit fit' members members' =
      below_each_other laws (combination s vs) (combination s ws) (combination_fits vs fit) (combination_fits ws fit')
      (combination_of_more vs ws fit fit' members) (combination_of_more ws vs fit' fit members')

  -- the order does not matter
  pub combination-permutation : (vs ws : List W) → All (Fits s) vs → IsPermutation vs ws → combination s vs ≡ combination s ws
  combination-permutation vs ws fit moved =
      let v = combination s vs in
      let w = combination s ws in
      let back = IsPermutation-sym vs ws moved in
      let fit' = All-permutation (Fits s) vs ws moved fit in
      let fits_v = combination_fits vs fit in
      let fits_w = combination_fits ws fit' in
      below_each_other laws v w fits_v fits_w
      (below_combination_of v ws fits_v fit' (All-permutation (Below s v) vs ws moved (combination_below_each vs fit)))
      (below_combination_of w vs fits_w fit (All-permutation (Below s w) ws vs back (combination_below_each ws fit')))

  -- a weight that stands there already changes nothing
  pub combination-repeated : (w : W) (ws : List W) → All (Fits s) ws → Contains ws w → combination s (w ∷ ws) ≡ combination s ws
  combination-repeated w ws fit member =
      let fits_w = All-contains (Fits s) ws w fit member in
      laws.combine_comm w (combination s ws) fits_w (combination_fits ws fit) ∙ combination_below_member ws w fit member

  -- a combination is zero only where each weight is
  pub combination_zero : (ws : List W) → AllByRecursion (Fits s) ws → combination s ws ≡ s.zero → AllByRecursion (λ w. w ≡ s.zero) ws
  combination_zero [] _ _ = tt
  combination_zero (w ∷ ws) fit zero =
      let rest = combination s ws in
      let P : W → Type 0 = λ x. Below s x w in
      let Q : W → Type 0 = λ x. Below s x rest in (
        zero_below laws w fit.0 (subst P zero (combine_below_left laws w rest fit.0 (fits ws fit.1))),
        combination_zero ws fit.1 (zero_below laws rest (fits ws fit.1) (subst Q zero (combine_below_right laws w rest fit.0 (fits ws fit.1)))),
      )

  pub combination_of_zeros : (ws : List W) → AllByRecursion (λ w. w ≡ s.zero) ws → combination s ws ≡ s.zero
  combination_of_zeros [] _ = refl
  combination_of_zeros (w ∷ ws) zeros =
      ap (λ x. s.combine x (combination s ws)) zeros.0 ∙ laws.combine_zero (combination s ws) (subst (Fits s) (sym (combination_of_zeros ws zeros.1)) laws.fits-zero) ∙ combination_of_zeros ws zeros.1

-- a function on weights that keeps zero and combine
pub record IsLinear {W Map : Type 0} (s : Operations W Map) (f : W → W) : Type 0 where
  pub strict : f s.zero ≡ s.zero
  pub adds : (a b : W) → Fits s a → Fits s b → f (s.combine a b) ≡ s.combine (f a) (f b)

module _ {W Map : Type 0} {s : Operations W Map} (laws : IsSemiring s) where
  pub linear_combination : (f : W → W) → IsLinear s f → (ws : List W) → AllByRecursion (Fits s) ws → f (combination s ws) ≡ combination s (map f ws)
  linear_combination f linear [] _ = linear.strict
  linear_combination f linear (w ∷ ws) fit =
      linear.adds w (combination s ws) fit.0 (fits laws ws fit.1) ∙ ap (s.combine (f w)) (linear_combination f linear ws fit.1)

  pub linear_extend_left : (a : W) → Fits s a → IsLinear s (s.extend a)
  linear_extend_left a fit = record {
    strict = laws.extend-zero_right a fit;
    adds = λ b c fit_b fit_c. laws.extend-combine_right a b c fit fit_b fit_c;
  }

  pub linear_extend_right : (b : W) → Fits s b → IsLinear s (λ a. s.extend a b)
  linear_extend_right b fit = record {
    strict = laws.extend-zero_left b fit;
    adds = λ a c fit_a fit_c. laws.extend-combine_left a c b fit_a fit_c fit;
  }

  pub linear_after : (h : Map) → FitsMap s h → IsLinear s (s.after h)
  linear_after h fit = record {
    strict = laws.after-zero h fit;
    adds = λ a b fit_a fit_b. laws.after-combine h a b fit fit_a fit_b;
  }

  pub extend_combination : (a : W) (ws : List W) → Fits s a → All (Fits s) ws → s.extend a (combination s ws) ≡ combination s (map (s.extend a) ws)
  extend_combination a ws fit fits = linear_combination (s.extend a) (linear_extend_left a fit) ws (recursion_from_All (Fits s) ws fits)

  pub combination_extend : (ws : List W) (b : W) → All (Fits s) ws → Fits s b → s.extend (combination s ws) b ≡ combination s (map (λ a. s.extend a b) ws)
  combination_extend ws b fits fit = linear_combination (λ a. s.extend a b) (linear_extend_right b fit) ws (recursion_from_All (Fits s) ws fits)

  pub after_combination : (h : Map) (ws : List W) → FitsMap s h → All (Fits s) ws → s.after h (combination s ws) ≡ combination s (map (s.after h) ws)
  after_combination h ws fit fits = linear_combination (s.after h) (linear_after h fit) ws (recursion_from_All (Fits s) ws fits)
