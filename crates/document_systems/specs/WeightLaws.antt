-- The texts of values tell the values.
use Rattle.std.specs.Prelude.{◌≡◌, ◌↔◌, ℕ, ◌<◌, ◌≤◌, ◌^◌, min, Bool, true, false, nat_eq, nat_le, IsTrue, List, [], ◌∷◌, ◌++◌, length, Option, None, Some, codes, decimal, refl, if◌then◌else◌}
use Rattle.std.proofs.Common.{arith, ap, sym, ◌∙◌, append-nil}
use Rattle.std.proofs.lemmas.Bool.{eqb-true}
use Rattle.std.proofs.lemmas.Bool.Decides.{nat_tests}
use Rattle.std.proofs.lemmas.Fmt.{decimal_injective, decimal_is_IsNumeral, decimal_nonempty}
use Rattle.std.specs.Str.Parse.{AllDigits}
use Rattle.std.proofs.lemmas.Str.Parse.{digit_from_value}
use Rattle.semiring_laws.specs.Semiring.{Fits}
use Rattle.semiring_laws.specs.Reach.{reach_operations}
use Rattle.cost_weights.specs.Cost.{cost_operations}
use Rattle.document_forms.specs.declared.weight.WeightText.{WeightText}
use Rattle.document_forms.specs.declared.weight.WeightText.TheVariants.{One, Zero, Number, Facts, Forms, Actions}
use Rattle.document_systems.specs.Weights.{reach_weight, reach_text, cost_weight, cost_text, IsCap}

pub reach_weights_fit : (t : WeightText) → Unit {0} → Fits reach_operations (reach_weight t)
reach_weights_fit t named = refl

pub reach_tells : (v w : Bool) → Unit {0} → Fits reach_operations v → Fits reach_operations w → reach_text v ≡ reach_text w → v ≡ w
reach_tells true true named fit fit' e = refl
reach_tells true false named fit fit' e = cc
reach_tells false true named fit fit' e = cc
reach_tells false false named fit fit' e = refl

pub reach_zero : (v : Bool) → (reach_text v ≡ codes "unreachable") ↔ (v ≡ false)
reach_zero true = (λ e. cc, λ e. cc)
reach_zero false = (λ e. refl, λ e. refl)

within : (n cap : ℕ) → IsTrue (nat_le n cap) → n ≤ cap
within n cap fit = grind (arith, nat_tests)

fits_within : (n cap : ℕ) → n ≤ cap → IsTrue (nat_le n cap)
fits_within n cap low = grind (arith, nat_tests)

pub cost_weights_fit : (cap : ℕ) (t : WeightText) → IsCap cap → Fits (cost_operations cap) (cost_weight cap t)
cost_weights_fit cap Zero is = refl
cost_weights_fit cap (Number n) is = fits_within (min n cap) cap (omega arith)
cost_weights_fit cap One is = fits_within 0 cap (omega arith)
cost_weights_fit cap (Facts ss) is = fits_within 0 cap (omega arith)
cost_weights_fit cap (Forms ps) is = fits_within 0 cap (omega arith)
cost_weights_fit cap (Actions acts) is = fits_within 0 cap (omega arith)

-- a number begins with a digit, and has digits alone
no_letter : (ds rest more : List ℕ) → AllDigits 10 ds → 0 < length ds → ds ++ rest ≡ 117 ∷ more → ⊥
no_letter [] rest more all some e = omega arith
no_letter (d ∷ ds) rest more all some e =
    let first : d ≡ 117 = cc in
    let digit = digit_from_value d all.0 in
    omega (arith, first, digit)

no_blank : (ds front more : List ℕ) → AllDigits 10 ds → ds ≡ front ++ 32 ∷ more → ⊥
no_blank [] [] more all e = cc
no_blank [] (x ∷ front) more all e = cc
no_blank (d ∷ ds) [] more all e =
    let first : d ≡ 32 = cc in
    let digit = digit_from_value d all.0 in
    omega (arith, first, digit)
no_blank (d ∷ ds) (x ∷ front) more all e = let rest : ds ≡ front ++ 32 ∷ more = cc in no_blank ds front more all.1 rest

abbrev behind : Bool → List ℕ
behind b = if b then codes " or more" else codes ""

numbers_tell : (cap m n : ℕ) → cap < 2 ^ 64 → m ≤ cap → n ≤ cap → (a b : Bool) → nat_eq m cap ≡ a → nat_eq n cap ≡ b → decimal m ++ behind a ≡ decimal n ++ behind b → m ≡ n
numbers_tell cap m n few low low' true true is is' e = eqb-true m cap is ∙ sym (eqb-true n cap is')
numbers_tell cap m n few low low' true false is is' e = absurd (no_blank (decimal n) (decimal m) (codes "or more") (decimal_is_IsNumeral n (omega arith)).0.1 (sym (e ∙ append-nil (decimal n))))
numbers_tell cap m n few low low' false true is is' e = absurd (no_blank (decimal m) (decimal n) (codes "or more") (decimal_is_IsNumeral m (omega arith)).0.1 (sym (append-nil (decimal m)) ∙ e))
numbers_tell cap m n few low low' false false is is' e = decimal_injective m n (omega arith) (omega arith) (sym (append-nil (decimal m)) ∙ e ∙ append-nil (decimal n))

pub cost_tells : (cap : ℕ) (v w : Option ℕ) → IsCap cap → Fits (cost_operations cap) v → Fits (cost_operations cap) w → cost_text cap v ≡ cost_text cap w → v ≡ w
cost_tells cap None None is fit fit' e = refl
cost_tells cap None (Some n) is fit fit' e =
    let low = within n cap fit' in
    absurd (no_letter (decimal n) (behind (nat_eq n cap)) (codes "nreachable") (decimal_is_IsNumeral n (omega (arith, is.1))).0.1 (decimal_nonempty n (omega (arith, is.1))) (sym e))
cost_tells cap (Some m) None is fit fit' e =
    let low = within m cap fit in
    absurd (no_letter (decimal m) (behind (nat_eq m cap)) (codes "nreachable") (decimal_is_IsNumeral m (omega (arith, is.1))).0.1 (decimal_nonempty m (omega (arith, is.1))) e)
cost_tells cap (Some m) (Some n) is fit fit' e =
    let low = within m cap fit in
    let low' = within n cap fit' in
    ap Some (numbers_tell cap m n (omega (arith, is.1)) low low' (nat_eq m cap) (nat_eq n cap) refl refl e)

pub cost_zero : (cap : ℕ) (v : Option ℕ) → IsCap cap → Fits (cost_operations cap) v → (cost_text cap v ≡ codes "unreachable") ↔ (v ≡ None)
cost_zero cap v is fit = (λ e. cost_tells cap v None is fit refl e, λ e. ap (cost_text cap) e)
