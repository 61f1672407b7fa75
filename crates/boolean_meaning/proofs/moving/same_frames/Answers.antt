use Rattle.std.proofs.Common.{◌≡◌, false, true, ◌&&◌, nat_eq, sym, ◌∙◌, arith}
use Rattle.std.specs.Prelude.{None, slice_get}
use Rattle.boolean_machine.specs.Tests.{same_point}
use Rattle.boolean_meaning.proofs.PlaceLemmas.{get_below}
use Rattle.boolean_meaning.proofs.TurnLemmas.{frames_end, frames_differ, frames_go_on, frames_over}
use Rattle.boolean_meaning.proofs.moving.same_frames.Goals as goal

pub returns-in_default-get : goal.returns-in_default-get
returns-in_default-get c =
    let fs = c.args.a.now in
    let gs = c.args.b.now in
    let at = c.loop-at_a in
    let none : slice_get gs at.at_b ≡ None = sym c.get-in-loop-at_a.ensures ∙ c.in_default-get.is in
    sym (sym at.invariant ∙ frames_end fs gs at.at_a at.at_b c.in-Some.frame (sym c.in-Some.ensures) none)

pub returns-then-not-same_frame : goal.returns-then-not-same_frame
returns-then-not-same_frame c =
    let fs = c.args.a.now in
    let gs = c.args.b.now in
    let at = c.loop-at_a in
    let f = c.in-Some.frame in
    let g = c.in-Some-get.other in
    let differ : (same_point f.point g.point && nat_eq f.locals g.locals) ≡ false = sym c.same_frame.ensures ∙ c.if-not-same_frame.true in
    sym (sym at.invariant ∙ frames_differ fs gs at.at_a at.at_b f (sym c.in-Some.ensures) g (sym c.in-Some-get.ensures) differ)

pub overflow_add-at_b : goal.overflow_add-at_b
overflow_add-at_b c =
    let below = get_below c.args.b.now c.loop-at_a.at_b c.in-Some-get.other (sym c.in-Some-get.ensures) in
    let long = c.len-last.ensures in
    omega arith

pub loop-at_a-preserved : goal.loop-at_a-preserved
loop-at_a-preserved c =
    let fs = c.args.a.now in
    let gs = c.args.b.now in
    let at = c.loop-at_a in
    let f = c.in-Some.frame in
    let g = c.in-Some-get.other in
    let same : (same_point f.point g.point && nat_eq f.locals g.locals) ≡ true = sym c.same_frame.ensures ∙ c.if-not-same_frame.false in
    frames_go_on fs gs at.at_a at.at_b f (sym c.in-Some.ensures) g (sym c.in-Some-get.ensures) same ∙ at.invariant

pub returns : goal.returns
returns c =
    let at = c.loop-at_a in
    let over = c.loop-at_a-test.false in
    let long = c.len.ensures in
    let count = c.len-last.ensures in
    let all = frames_over c.args.a.now c.args.b.now at.at_a at.at_b (omega arith) in
    rw count (sym all ∙ at.invariant)
