-- What a weight makes of the one that is there, by whether their combine is that one.
use Rattle.std.specs.Prelude.{◌≡◌, ◌≢◌, Bool, true, false, None, Some, refl}
use Rattle.semiring_laws.specs.Semiring.{Operations, Fits, IsSemiring}
use Rattle.semiring_laws.specs.Lowering.{lowered_weight}

is_false : (b : Bool) → b ≢ true → b ≡ false
is_false true differs = absurd (differs refl)
is_false false differs = refl

module _ {W Map : Type 0} (s : Operations W Map) (laws : IsSemiring s) where
  pub lowered-none : (old weight : W) → Fits s old → Fits s weight → s.combine old weight ≡ old → lowered_weight s old weight ≡ None
  lowered-none old weight fo fw e =
      let same : s.same (s.combine old weight) old ≡ true = (laws.same_is_equal (s.combine old weight) old (laws.fits-combine old weight fo fw) fo).1 e in
      rw same refl

  pub lowered-some : (old weight : W) → Fits s old → Fits s weight → s.combine old weight ≢ old → lowered_weight s old weight ≡ Some (s.combine old weight)
  lowered-some old weight fo fw differs =
      let other : s.same (s.combine old weight) old ≡ false = is_false (s.same (s.combine old weight) old) (λ e. differs ((laws.same_is_equal (s.combine old weight) old (laws.fits-combine old weight fo fw) fo).0 e)) in
      rw other refl
