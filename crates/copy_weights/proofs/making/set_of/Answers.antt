use Rattle.std.proofs.Common.{ap, sym, ◌∙◌}
use Rattle.std.proofs.lemmas.List.{take_more}
use Rattle.std.proofs.Common.{take, get_or}
use Rattle.copy_weights.specs.Forms.{set_of}
use Rattle.copy_weights.proofs.MakingLemmas.{set_of_none, set_of_more}
use Rattle.copy_weights.proofs.making.set_of.Goals as goal

pub loop-k-init : goal.loop-k-init
loop-k-init c = set_of_none c.args.n

pub loop-k-preserved : goal.loop-k-preserved
loop-k-preserved c =
    let ks = c.args.vars.now in
    let i = c.loop-k.k-index in
    set_of_more c.args.n (get_or ks i 0) (take i ks) c.loop-k.set c.member-set.result c.loop-k.invariant c.member-set.ensures
    ∙ ap (set_of c.args.n) (sym (take_more ks i 0 c.loop-k-test.true))
