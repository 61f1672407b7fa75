use Rattle.std.proofs.Common.{◌≡◌, ℕ, ◌+◌, ◌*◌, ◌-◌, ◌<◌, ◌≤◌, List, [], ◌∷◌, None, Some, refl, sym, ap, ◌∙◌, arith, length, drop, get_or, suc, drop-cons}
use Rattle.std.specs.Prelude.{nat_le, if◌then◌else◌}
use Rattle.std.proofs.lemmas.Bool.{lt-leb}
use Rattle.truth_tables.specs.Grammar.{number_of, number_onto}
use Rattle.truth_tables.proofs.numbers.table_number.Goals as goal

number_onto-grows : (n : ℕ) (ds : List ℕ) → n ≤ number_onto n ds
number_onto-grows n [] = omega arith
number_onto-grows n (d ∷ ds) = omega (arith, number_onto-grows (10 * n + (d - 48)) ds)

-- a digit more
number-more : (digits : List ℕ) (i n : ℕ) → i < length digits → number_onto n (drop i digits) ≡ number_of digits
    → number_onto (10 * n + (get_or digits i 0 - 48)) (drop (suc i) digits) ≡ number_of digits
number-more digits i n within same = ap (number_onto n) (sym (drop-cons digits i 0 within)) ∙ same

-- a number that is too large already stays so
number_past : (digits : List ℕ) (i n most : ℕ) → i < length digits → number_onto n (drop i digits) ≡ number_of digits
    → most < 10 * n + (get_or digits i 0 - 48) → None ≡ (if nat_le (number_of digits) most then Some (number_of digits) else None)
number_past digits i n most within same large =
    let more : most < number_of digits = omega (arith, number_onto-grows (10 * n + (get_or digits i 0 - 48)) (drop (suc i) digits), number-more digits i n within same) in
    rw (lt-leb (number_of digits) most more) refl

pub returns-then-number-from : goal.returns-then-number-from
returns-then-number-from c =
    number_past c.args.digits.now c.loop-digit.digit-index c.loop-digit.number _ (omega arith) c.loop-digit.invariant.same (omega arith)
