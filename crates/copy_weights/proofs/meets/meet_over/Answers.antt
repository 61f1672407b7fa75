use Rattle.std.proofs.Common.{ℕ, ◌<◌, ◌^◌, length, sym, ap, ◌∙◌, w64, arith}
use Rattle.std.specs.Int.{trailing_zeros}
use Rattle.std.proofs.lemmas.Nat.{one_shl}
use Rattle.std.proofs.lemmas.Nat.Bits.{bit_at-trailing_zeros}
use Rattle.copy_weights.specs.Forms.{form, meet_over}
use Rattle.copy_weights.specs.private.FormLaws.{meet_over_one}
use Rattle.copy_weights.proofs.LoopLemmas.{with_others, fewer_others, others, meet_over_begun, meet_over_taken, meet_over_whole}
use Rattle.copy_weights.proofs.meets.meet_over.Goals as goal

pub returns-then-from-first : goal.returns-then-from-first
unfolding form
returns-then-from-first c =
    let n : ℕ = length c.args.list.now in
    let k : ℕ = trailing_zeros w64 c.args.from in
    sym (ap (meet_over n (form c.args.list.now)) (c.if-from-first.true ∙ one_shl k 64 (omega arith)) ∙ meet_over_one n (form c.args.list.now) k (omega arith))

pub loop-rest-init : goal.loop-rest-init
loop-rest-init c = meet_over_begun (length c.args.list.now) (form c.args.list.now) c.args.from

pub loop-rest-smaller : goal.loop-rest-smaller
loop-rest-smaller c =
    let s : ℕ = c.loop-rest.rest in
    let lowest = bit_at-trailing_zeros w64 s (omega arith) (omega arith) in
    fewer_others s (trailing_zeros w64 s) (omega arith) lowest.0 lowest.1

pub loop-rest-preserved : goal.loop-rest-preserved
loop-rest-preserved c =
    let s : ℕ = c.loop-rest.rest in
    let k : ℕ = trailing_zeros w64 s in
    let few : s < 2 ^ 64 = omega arith in
    let lowest = bit_at-trailing_zeros w64 s (omega arith) few in
    let n : ℕ = length c.args.list.now in
    meet_over_taken n (form c.args.list.now) (others s k few lowest.0) s k c.loop-rest.made c.with_source-made.result (meet_over n (form c.args.list.now) c.args.from)
    (with_others s k few lowest.0 lowest.1) c.with_source-made.ensures.there c.with_source-made.ensures.nowhere c.loop-rest.invariant

pub returns : goal.returns
returns c =
    let n : ℕ = length c.args.list.now in
    meet_over_whole n (form c.args.list.now) c.loop-rest.rest c.loop-rest.made (meet_over n (form c.args.list.now) c.args.from) (omega arith) c.loop-rest.invariant
