-- How often a weight can be lowered.
use Rattle.std.proofs.Common.{◌≡◌, ◌≢◌, ◌<◌, ◌≤◌, List, [], ◌∷◌, length, sym, ap, ◌∙◌, subst, arith}
use Rattle.semiring_laws.specs.Semiring.{Operations, IsSemiring, Fits, Below}
use Rattle.semiring_laws.specs.Chains.{IsFalling}

module _ {W Map : Type 0} {s : Operations W Map} (laws : IsSemiring s) where
  pub rank_within : (a : W) → Fits s a → s.rank a ≤ s.top_rank
  rank_within a fit =
      let low : s.rank (s.combine s.zero a) ≤ s.rank s.zero = laws.rank_never_rises s.zero a laws.fits-zero fit in
      let same : s.rank (s.combine s.zero a) ≡ s.rank a = ap s.rank (laws.combine_zero a fit) in
      let top : s.rank s.zero ≡ s.top_rank = laws.rank-zero in
      omega arith

  pub rank_below : (a b : W) → Fits s a → Fits s b → Below s b a → b ≢ a → s.rank b < s.rank a
  rank_below a b fit fit' below differs =
      let same : s.combine a b ≡ b = laws.combine_comm a b fit fit' ∙ below in
      subst (λ x. s.rank x < s.rank a) same (laws.rank_falls a b fit fit' (λ e. differs (sym same ∙ e)))

  pub chain_within : (a : W) (bs : List W) → Fits s a → IsFalling s a bs → length bs ≤ s.rank a
  chain_within a [] fit _ = omega arith
  chain_within a (b ∷ bs) fit (fit', below, differs, more) =
      let less : s.rank b < s.rank a = rank_below a b fit fit' below differs in
      let rest : length bs ≤ s.rank b = chain_within b bs fit' more in
      omega arith
