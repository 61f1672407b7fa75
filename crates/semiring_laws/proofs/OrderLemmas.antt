-- What the laws of a semiring give of weights that are below one another.
use Rattle.std.proofs.Common.{◌≡◌, sym, ap, ◌∙◌}
use Rattle.semiring_laws.specs.Semiring.{Operations, IsSemiring, Fits, FitsMap, Below}

module _ {W Map : Type 0} {s : Operations W Map} (laws : IsSemiring s) where
  -- zero is neutral on both sides
  pub combine_zero : (w : W) → Fits s w → s.combine w s.zero ≡ w
  combine_zero w fit = laws.combine_comm w s.zero fit laws.fits-zero ∙ laws.combine_zero w fit

  pub below_itself : (a : W) → Fits s a → Below s a a
  below_itself a fit = laws.combine_same a fit

  pub below_zero : (a : W) → Fits s a → Below s a s.zero
  below_zero a fit = combine_zero a fit

  pub below_trans : (a b c : W) → Fits s a → Fits s b → Fits s c → Below s a b → Below s b c → Below s a c
  below_trans a b c fit_a fit_b fit_c ab bc =
      ap (λ x. s.combine x c) (sym ab)
      ∙ laws.combine_assoc a b c fit_a fit_b fit_c
      ∙ ap (s.combine a) bc
      ∙ ab

  -- two weights that are below each other are equal
  pub below_each_other : (v w : W) → Fits s v → Fits s w → Below s v w → Below s w v → v ≡ w
  below_each_other v w fit fit' below below' = sym below ∙ laws.combine_comm v w fit fit' ∙ below'

  -- only zero is not below another weight that zero is below
  pub zero_below : (a : W) → Fits s a → Below s s.zero a → a ≡ s.zero
  zero_below a fit below = sym (laws.combine_zero a fit) ∙ below

  pub combine_below_left : (a b : W) → Fits s a → Fits s b → Below s (s.combine a b) a
  combine_below_left a b fit_a fit_b =
      laws.combine_comm (s.combine a b) a (laws.fits-combine a b fit_a fit_b) fit_a
      ∙ sym (laws.combine_assoc a a b fit_a fit_a fit_b)
      ∙ ap (λ x. s.combine x b) (laws.combine_same a fit_a)

  pub combine_below_right : (a b : W) → Fits s a → Fits s b → Below s (s.combine a b) b
  combine_below_right a b fit_a fit_b =
      laws.combine_assoc a b b fit_a fit_b fit_b ∙ ap (s.combine a) (laws.combine_same b fit_b)

  -- what is below two weights is below their combine
  pub below_combine : (c a b : W) → Fits s c → Fits s a → Fits s b → Below s c a → Below s c b → Below s c (s.combine a b)
  below_combine c a b fit_c fit_a fit_b ca cb =
      sym (laws.combine_assoc c a b fit_c fit_a fit_b) ∙ ap (λ x. s.combine x b) ca ∙ cb

  pub combine_keeps_below : (a b c d : W) → Fits s a → Fits s b → Fits s c → Fits s d → Below s a b → Below s c d → Below s (s.combine a c) (s.combine b d)
  combine_keeps_below a b c d fit_a fit_b fit_c fit_d ab cd =
      let fit = laws.fits-combine a c fit_a fit_c in
      below_combine (s.combine a c) b d fit fit_b fit_d
      (below_trans (s.combine a c) a b fit fit_a fit_b (combine_below_left a c fit_a fit_c) ab)
      (below_trans (s.combine a c) c d fit fit_c fit_d (combine_below_right a c fit_a fit_c) cd)

  pub extend_left_keeps_below : (c a b : W) → Fits s c → Fits s a → Fits s b → Below s a b → Below s (s.extend c a) (s.extend c b)
  extend_left_keeps_below c a b fit_c fit_a fit_b ab = sym (laws.extend-combine_right c a b fit_c fit_a fit_b) ∙ ap (s.extend c) ab

  pub extend_right_keeps_below : (a b c : W) → Fits s a → Fits s b → Fits s c → Below s a b → Below s (s.extend a c) (s.extend b c)
  extend_right_keeps_below a b c fit_a fit_b fit_c ab = sym (laws.extend-combine_left a b c fit_a fit_b fit_c) ∙ ap (λ x. s.extend x c) ab

  pub extend_keeps_below : (a b c d : W) → Fits s a → Fits s b → Fits s c → Fits s d → Below s a b → Below s c d → Below s (s.extend a c) (s.extend b d)
  extend_keeps_below a b c d fit_a fit_b fit_c fit_d ab cd =
      below_trans (s.extend a c) (s.extend b c) (s.extend b d)
      (laws.fits-extend a c fit_a fit_c) (laws.fits-extend b c fit_b fit_c) (laws.fits-extend b d fit_b fit_d)
      (extend_right_keeps_below a b c fit_a fit_b fit_c ab) (extend_left_keeps_below b c d fit_b fit_c fit_d cd)

  pub after_keeps_below : (h : Map) (a b : W) → FitsMap s h → Fits s a → Fits s b → Below s a b → Below s (s.after h a) (s.after h b)
  after_keeps_below h a b fit_h fit_a fit_b ab = sym (laws.after-combine h a b fit_h fit_a fit_b) ∙ ap (s.after h) ab
