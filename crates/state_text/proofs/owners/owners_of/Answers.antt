use Rattle.std.proofs.Common.{◌≡◌, ◌≤◌, ◌∙◌, ◌++◌, [], length, drop, sym, ap, arith, append-nil}
use Rattle.std.proofs.Math.ListN.{drop_of_length-le}
use Rattle.state_text.specs.private.Owners.{owners_from}
use Rattle.state_text.proofs.OwnerLemmas.{of_program}
use Rattle.state_text.proofs.owners.owners_of.Goals as goal

pub returns : goal.returns
returns c =
    let p = c.args.program.now in
    let place = c.loop-place.place in
    let items = c.loop-place.owners.items in
    let all : length p.procs ≤ place = omega (arith, c.loop-place-test.false, ap length c.as_slice-owner-items.ensures) in
    let done = drop_of_length-le p.procs all in
    sym (c.loop-place.invariant ∙ ap (λ qs. items ++ owners_from place qs) done ∙ append-nil items) ∙ of_program p
