use Rattle.std.proofs.Common.{◌≡◌, ℕ, ◌+◌, length, ◌∙◌, arith}
use Rattle.std.specs.Prelude.{Some, slice_get}
use Rattle.boolean_lowering.specs.private.Tables.{points_in}
use Rattle.boolean_lowering.proofs.PointLemmas.{point_of_line, point_of_failure, no_point_of_line, no_point_of_failure}
use Rattle.boolean_lowering.proofs.points.PointTable.symbol.Goals as goal

pub returns-in_err-place-clause-none : goal.returns-in_err-place-clause-none
returns-in_err-place-clause-none c =
    let lines = c.self.inside.lines.items in
    let asserts = c.self.inside.asserts.items in
    let point = c.args.point in
    let none : (k : ℕ) → slice_get asserts k ≡ Some point.line → ⊥ = λ k e.
    let value = c.deref.ensures.value in
    let there : slice_get c.deref.result.now k ≡ Some point.line = cc in
    c.in_err-place.ensures.none k there in
    let absent : (g : ℕ) → slice_get c.args.self.now g ≡ Some point → ⊥ = λ g e.
    let view = c.self.view_is in
    let there : slice_get (points_in lines asserts) g ≡ Some point = cc in
    no_point_of_failure lines asserts point c.if-point.true none g there in
    rw c.from_residual.ensures absent

pub returns-in_err-place-2-clause-none : goal.returns-in_err-place-2-clause-none
returns-in_err-place-2-clause-none c =
    let lines = c.self.inside.lines.items in
    let asserts = c.self.inside.asserts.items in
    let point = c.args.point in
    let none : (k : ℕ) → slice_get lines k ≡ Some point.line → ⊥ = λ k e.
    let value = c.deref-else-point.ensures.value in
    let there : slice_get c.deref-else-point.result.now k ≡ Some point.line = cc in
    c.in_err-place-2.ensures.none k there in
    let absent : (g : ℕ) → slice_get c.args.self.now g ≡ Some point → ⊥ = λ g e.
    let view = c.self.view_is in
    let there : slice_get (points_in lines asserts) g ≡ Some point = cc in
    no_point_of_line lines asserts point c.if-point.false none g there in
    rw c.from_residual-in_err-place-2.ensures absent

pub returns-in_ok-place-clause-some : goal.returns-in_ok-place-clause-some
returns-in_ok-place-clause-some c =
    let lines = c.self.inside.lines.items in
    let asserts = c.self.inside.asserts.items in
    let point = c.args.point in
    let value = c.deref.ensures.value in
    let some = c.in_ok-place.ensures.some in
    let there : slice_get asserts c.in_ok-place.place ≡ Some point.line = cc in
    let view = c.self.view_is in
    let long : c.len.result ≡ length lines = c.len.ensures ∙ c.self.inside.lines.ok.0 in
    let next : c.len.result + c.in_ok-place.place ≡ length lines + c.in_ok-place.place = omega arith in
    let found = point_of_failure lines asserts point c.in_ok-place.place (c.len.result + c.in_ok-place.place) c.if-point.true there next in
    cc

pub returns-in_ok-place-2-clause-some : goal.returns-in_ok-place-2-clause-some
returns-in_ok-place-2-clause-some c =
    let lines = c.self.inside.lines.items in
    let asserts = c.self.inside.asserts.items in
    let point = c.args.point in
    let value = c.deref-else-point.ensures.value in
    let some = c.in_ok-place-2.ensures.some in
    let there : slice_get lines c.in_ok-place-2.place ≡ Some point.line = cc in
    let view = c.self.view_is in
    let found = point_of_line lines asserts point c.in_ok-place-2.place c.if-point.false there in
    cc
