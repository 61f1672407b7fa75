use Rattle.std.proofs.Common.{◌-◌, ap, ◌∙◌}
use Rattle.std.specs.Vec.{vec_len}
use Rattle.diagram_ops.specs.private.Places.{placed}
use Rattle.diagram_ops.proofs.PlaceLemmas.{none_filled}
use Rattle.diagram_ops.proofs.places.Places.new.Goals as goal

pub returns-clause-none : goal.returns-clause-none
returns-clause-none c = λ k.
    ap (λ l. placed l k) c.in_ok-resize.ensures.items
    ∙ none_filled c.new-numbers.result.items c.args.count (c.args.count - vec_len c.new-numbers.result) k c.new-numbers.ensures.items
