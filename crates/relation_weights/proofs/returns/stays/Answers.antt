use Rattle.std.proofs.Common.{ap, ◌∙◌}
use Rattle.relation_weights.specs.Actions.{frame_pairs}
use Rattle.relation_weights.proofs.ReturnLemmas.{kept_is}
use Rattle.relation_weights.proofs.returns.stays.Goals as goal

pub returns-clause-pairs : goal.returns-clause-pairs
returns-clause-pairs c = λ x y.
    c.in_ok-made.ensures.pairs x y
    ∙ ap (λ l. frame_pairs c.args.n l x y) c.deref.ensures.value
    ∙ kept_is c.args.n c.args.slots.now c.in_ok-freed.freed.items c.in_ok-freed.ensures x y
