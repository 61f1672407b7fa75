use Rattle.std.proofs.Common.{◌≡◌, ◌∙◌, get_or, drop, sym, ap, arith, ℕ, suc}
use Rattle.std.proofs.lemmas.List.{drop_all}
use Rattle.std.proofs.Math.Seq.{drop-cons}
use Rattle.truth_tables.specs.Grammar.{number_of, number_onto}
use Rattle.rule_reader.proofs.DigitLemmas.{stays_wide, narrow_some}
use Rattle.rule_reader.proofs.digits.number.Goals as goal

pub returns-in-None : goal.returns-in-None
returns-in-None c =
    let digits = c.args.digits.now in
    let i : ℕ = c.loop-digit.digit-index in
    let n : ℕ = c.loop-digit.number in
    stays_wide n (get_or digits i 0) (drop (suc i) digits) digits
    (ap (number_onto n) (sym (drop-cons digits i 0 c.loop-digit-test.true)) ∙ c.loop-digit.invariant.same)
    c.in-None.ensures

pub returns : goal.returns
returns c =
    let digits = c.args.digits.now in
    let i : ℕ = c.loop-digit.digit-index in
    let n : ℕ = c.loop-digit.number in
    let same : n ≡ number_of digits =
    ap (number_onto n) (sym (drop_all i digits (omega (arith, c.loop-digit-test.false)))) ∙ c.loop-digit.invariant.same in
    narrow_some n (number_of digits) same c.loop-digit.invariant.narrow
