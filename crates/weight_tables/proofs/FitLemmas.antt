-- What is made of weights that fit fits.
use Rattle.std.proofs.Common.{◌≡◌, Bool, true, false, Option, None, Some, IfSome, IfNone, Result, IfOk, subst, sym}
use Rattle.std.proofs.lemmas.Result.{IfOk-weaker}
use Rattle.semiring_laws.specs.Semiring.{Operations, Fits, FitsMap, IsSemiring}
use Rattle.semiring_laws.specs.Lowering.{lowered_weight}
use Rattle.std.specs.Prelude.{if◌then◌else◌}

pub some_of : {X : Type 0} (P : X → Type 0) (o : Option X) (x : X) → o ≡ Some x → IfSome o P → P x
some_of P o x is all = let Q : Option _ → Type 0 = λ o. IfSome o P in subst Q is all

pub fits_equal : {W Map : Type 0} (s : Operations W Map) (v w : W) → w ≡ v → Fits s v → Fits s w
fits_equal s v w e fits = subst (Fits s) (sym e) fits

module _ {W Map : Type 0} (s : Operations W Map) (laws : IsSemiring s) where
  pub lowered_weight-fits : (a b : W) → Fits s a → Fits s b → IfSome (lowered_weight s a b) (Fits s)
  lowered_weight-fits a b fa fb = elim (s.same (s.combine a b) a) as (λ t. IfSome (if t then None else Some (s.combine a b)) (Fits s)) [
    | true ↦ tt
    | false ↦ laws.fits-combine a b fa fb
  ]

-- of results, by the semiring that a system has
module _ {S W Map E : Type 0} (operations : S → Operations W Map) (laws : (x : S) → IsSemiring (operations x)) (x y : S) (is : x ≡ y) where
  pub extended_ok : (r : Result W E) (a b : W) → Fits (operations y) a → Fits (operations y) b → IfOk r (λ w. w ≡ (operations x).extend a b) → IfOk r (Fits (operations y))
  extended_ok r a b fa fb =
      IfOk-weaker r _ _ (λ w e. let P : S → Type 0 = λ z. w ≡ (operations z).extend a b in
      fits_equal (operations y) _ w (subst P is e) ((laws y).fits-extend a b fa fb))

  pub returned_ok : (r : Result W E) (h : Map) (a : W) → FitsMap (operations y) h → Fits (operations y) a → IfOk r (λ w. w ≡ (operations x).after h a) → IfOk r (Fits (operations y))
  returned_ok r h a fh fa =
      IfOk-weaker r _ _ (λ w e. let P : S → Type 0 = λ z. w ≡ (operations z).after h a in
      fits_equal (operations y) _ w (subst P is e) ((laws y).fits-after h a fh fa))

  pub lowered_ok : (r : Result (Option W) E) (a b : W) → Fits (operations y) a → Fits (operations y) b → IfOk r (λ o. o ≡ lowered_weight (operations x) a b) → IfOk r (λ o. IfSome o (Fits (operations y)))
  lowered_ok r a b fa fb =
      IfOk-weaker r _ _ (λ o e. let P : S → Type 0 = λ z. o ≡ lowered_weight (operations z) a b in
      let Q : Option W → Type 0 = λ o. IfSome o (Fits (operations y)) in
      subst Q (sym (subst P is e)) (lowered_weight-fits (operations y) (laws y) a b fa fb))

pub none_of : {X : Type 0} (P : Type 0) (o : Option X) → o ≡ None → IfNone o P → P
none_of P o is all = let Q : Option _ → Type 0 = λ o. IfNone o P in subst Q is all
