-- What a semiring with return maps is, over the values that contracts see.
use Rattle.std.specs.Prelude.{◌≡◌, ◌≢◌, ℕ, ◌<◌, ◌≤◌, ◌↔◌, Bool, IsTrue}

-- The operations of a semiring on weights `W`, with return maps `Map`.
pub record Operations (W Map : Type 0) : Type 0 where
  pub zero : W
  pub one : W
  pub combine : W → W → W
  pub extend : W → W → W
  -- what a return map makes of the value of a call
  pub after : Map → W → W
  pub plain : Map
  -- whether two weights are equal
  pub same : W → W → Bool
  -- which values are weights and return maps of this semiring
  pub fits : W → Bool
  pub fits_map : Map → Bool
  -- a bound on how often a weight can still be lowered
  pub rank : W → ℕ
  pub top_rank : ℕ

module _ {W Map : Type 0} (s : Operations W Map) where
  abbrev pub Fits : W → Type 0
  Fits w = IsTrue (s.fits w)

  abbrev pub FitsMap : Map → Type 0
  FitsMap h = IsTrue (s.fits_map h)

  -- a is below b
  abbrev pub Below : W → W → Type 0
  Below a b = s.combine a b ≡ a

  -- The laws of a bounded idempotent semiring with return maps, for all that fits.
  pub record IsSemiring : Type 0 where
    -- each result fits
    pub fits-zero : Fits s.zero
    pub fits-one : Fits s.one
    pub fits-plain : FitsMap s.plain
    pub fits-combine : (a b : W) → Fits a → Fits b → Fits (s.combine a b)
    pub fits-extend : (a b : W) → Fits a → Fits b → Fits (s.extend a b)
    pub fits-after : (h : Map) (a : W) → FitsMap h → Fits a → Fits (s.after h a)
    -- equality
    pub same_is_equal : (a b : W) → Fits a → Fits b → IsTrue (s.same a b) ↔ (a ≡ b)
    -- combine
    pub combine_comm : (a b : W) → Fits a → Fits b → s.combine a b ≡ s.combine b a
    pub combine_assoc : (a b c : W) → Fits a → Fits b → Fits c → s.combine (s.combine a b) c ≡ s.combine a (s.combine b c)
    pub combine_same : (a : W) → Fits a → s.combine a a ≡ a
    pub combine_zero : (a : W) → Fits a → s.combine s.zero a ≡ a
    -- extend
    pub extend_assoc : (a b c : W) → Fits a → Fits b → Fits c → s.extend (s.extend a b) c ≡ s.extend a (s.extend b c)
    pub extend-one_left : (a : W) → Fits a → s.extend s.one a ≡ a
    pub extend-one_right : (a : W) → Fits a → s.extend a s.one ≡ a
    pub extend-zero_left : (a : W) → Fits a → s.extend s.zero a ≡ s.zero
    pub extend-zero_right : (a : W) → Fits a → s.extend a s.zero ≡ s.zero
    pub extend-combine_right : (a b c : W) → Fits a → Fits b → Fits c → s.extend a (s.combine b c) ≡ s.combine (s.extend a b) (s.extend a c)
    pub extend-combine_left : (a b c : W) → Fits a → Fits b → Fits c → s.extend (s.combine a b) c ≡ s.combine (s.extend a c) (s.extend b c)
    pub one_is_not_zero : s.one ≢ s.zero
    -- rank
    pub rank-zero : s.rank s.zero ≡ s.top_rank
    pub rank_never_rises : (a b : W) → Fits a → Fits b → s.rank (s.combine a b) ≤ s.rank a
    pub rank_falls : (a b : W) → Fits a → Fits b → s.combine a b ≢ a → s.rank (s.combine a b) < s.rank a
    -- return maps
    pub after-zero : (h : Map) → FitsMap h → s.after h s.zero ≡ s.zero
    pub after-combine : (h : Map) (a b : W) → FitsMap h → Fits a → Fits b → s.after h (s.combine a b) ≡ s.combine (s.after h a) (s.after h b)
    pub after-plain : (a : W) → Fits a → s.after s.plain a ≡ a
