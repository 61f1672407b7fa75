use Rattle.std.proofs.Common.{take_all, ap, ◌∙◌}
use Rattle.genkill_weights.specs.Making.{is_listed}
use Rattle.genkill_weights.proofs.MakingLemmas.{none_mask, none_facts, mask_is_where}
use Rattle.genkill_weights.proofs.masks.mask_of.Goals as goal

pub loop-number-init : goal.loop-number-init
loop-number-init g c = record { mask = none_mask g.row.N; facts = none_facts g.row.N }

pub returns : goal.returns
returns g c = mask_is_where g.row.N c.loop-number.made (is_listed c.args.facts.now) c.loop-number.invariant.mask (λ f below.
    c.loop-number.invariant.facts f below ∙ ap (λ fs. is_listed fs f) (take_all c.loop-number.number-index c.args.facts.now c.loop-number-test.false))
