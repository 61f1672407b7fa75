-- Equal keys are spread alike.
use Rattle.std.proofs.Common.{◌≡◌, ℕ, true, List, Bor, ap, sym, refl, ◌∙◌}
use Rattle.std.specs.Prelude.{IsTrue}
use Rattle.std.specs.Cmp.{unsigned_tied}
use Rattle.std.specs.Cmp.Lexicographic.{slice_cmp}
use Rattle.std.specs.declared.cmp.Ordering.{Ordering}
use Rattle.std.specs.declared.cmp.Ordering.TheVariants.{Less, Equal, Greater}
use Rattle.std.specs.Ordering.{eq_by_cmp, nat_cmp, is_eq, ordering_then}
use Rattle.std.proofs.lemmas.Bool.{eqb-true}
use Rattle.std.proofs.lemmas.Map.Text.{is_eq-slice_cmp}
use Rattle.std.proofs.lemmas.Slice.Eq.{bytes_eq-Decides}
use Rattle.key_rows.specs.Keys.{mixed, first_mixed, bytes_mixed, bytes_spread}

-- numbers that an order does not tell apart are one
pub same_numbers : (a b : ℕ) → IsTrue (eq_by_cmp nat_cmp a b) → a ≡ b
same_numbers a b e = eqb-true a b (sym (unsigned_tied a b) ∙ e)

-- where an order by two parts does not tell apart, neither part does
pub both_equal : (a b : Ordering) → is_eq (ordering_then a b) ≡ true → (is_eq a ≡ true) × (is_eq b ≡ true)
both_equal Less b e = cc
both_equal Equal b e = (refl, e)
both_equal Greater b e = cc

pub numbers_alike : (n a b : ℕ) → IsTrue (eq_by_cmp nat_cmp a b) → mixed (first_mixed n) a ≡ mixed (first_mixed n) b
numbers_alike n a b e = ap (mixed (first_mixed n)) (same_numbers a b e)

-- slices that an order does not tell apart have the same bytes
pub same_bytes : (xs ys : List ℕ) → IsTrue (eq_by_cmp (slice_cmp nat_cmp) xs ys) → xs ≡ ys
same_bytes xs ys e = (bytes_eq-Decides xs ys).0 (sym (is_eq-slice_cmp xs ys) ∙ e)

pub bytes_alike :
    (n : ℕ) (a b : Bor (List ℕ)) → IsTrue (eq_by_cmp (slice_cmp nat_cmp) a.now b.now)
    → bytes_spread n a ≡ bytes_spread n b
bytes_alike n a b e = ap (bytes_mixed (first_mixed n)) (same_bytes a.now b.now e)
