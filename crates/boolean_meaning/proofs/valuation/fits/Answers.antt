use Rattle.std.proofs.Common.{◌/◌, ◌^◌, nat_eq, nat_lt}
use Rattle.std.specs.Cmp.{both_ways}
use Rattle.std.proofs.lemmas.Bool.{eq-eqb, eqb-true, ltb-true, lt-ltb}
use Rattle.boolean_meaning.proofs.NumberLemmas.{no_more_bits, no_bits_more}
use Rattle.boolean_meaning.proofs.valuation.fits.Goals as goal

pub returns : goal.returns
returns c =
    let n = c.args.number in
    let k = c.args.count in
    both_ways (nat_eq (n / 2 ^ k) 0) (nat_lt n (2 ^ k)) (λ h. lt-ltb n (2 ^ k) (no_more_bits n k (eqb-true (n / 2 ^ k) 0 h)))
    (λ h. eq-eqb (n / 2 ^ k) 0 (no_bits_more n k (ltb-true n (2 ^ k) h)))
