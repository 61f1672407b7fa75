use Rattle.std.proofs.Common.{◌≡◌, ◌+◌, suc, false, nat_eq, ap, ◌∙◌, arith}
use Rattle.std.specs.Prelude.{Some, slice_get}
use Rattle.std.proofs.lemmas.Bool.Decides.{nat_tests}
use Rattle.boolean_meaning.specs.private.Spots.{found_in}
use Rattle.boolean_meaning.proofs.PlaceLemmas.{get_is}
use Rattle.boolean_meaning.proofs.SpotLemmas.{from_place, spot_later}
use Rattle.boolean_meaning.proofs.lines.find_in.Goals as goal

pub loop-place-preserved : goal.loop-place-preserved
loop-place-preserved c =
    let body = c.as_slice-body.result.now in
    let k = c.loop-place.place in
    let l = c.index-body-place.result in
    let e : slice_get body k ≡ Some l = get_is body k l c.loop-place-test.true c.index-body-place.is in
    let t : nat_eq l.line c.args.number ≡ false = let f = c.if-line-number.false in grind (arith, nat_tests) in
    c.loop-place.invariant ∙ spot_later c.args.procedure c.args.number body k l e t
    ∙ ap (λ j. found_in (from_place c.args.procedure body j) c.args.number) (let f : suc k ≡ k + 1 = omega arith in f)
