use Rattle.std.proofs.Common.{◌≡◌, ◌+◌, ◌≤◌, length, arith}
use Rattle.boolean_lowering.proofs.ListLemmas.{get_is}
use Rattle.boolean_lowering.proofs.LayoutLemmas.{few_names}
use Rattle.boolean_lowering.proofs.sizes.most_names.Goals as goal

pub overflow_add-len : goal.overflow_add-len
overflow_add-len c =
    let procs = c.args.procs.now in
    let q = c.owner-item.result in
    let there = get_is procs c.loop-owner.owner-index q c.loop-owner-test.true c.owner-item.is in
    let few : length q.params + length q.locals ≤ 24 = few_names procs c.loop-owner.owner-index q c.requires there in
    let params : c.len.result ≡ length q.params = c.len.ensures in
    let locals : c.len-in-loop-owner.result ≡ length q.locals = c.len-in-loop-owner.ensures in
    omega arith
