use Rattle.std.proofs.Common.{sym, ◌∙◌}
use Rattle.relation_weights.proofs.FrameLemmas.{frame_added, frame_stays}
use Rattle.relation_weights.proofs.frames.add_number.Goals as goal

pub returns-then-contains : goal.returns-then-contains
returns-then-contains c = λ n below f. frame_stays n c.args.freed.now c.args.number c.args.rest c.args.nodes.now.items f (sym c.contains.ensures.value ∙ c.if-contains.true)

pub returns : goal.returns
returns c = λ n below f.
    frame_added n c.args.freed.now c.args.number below c.args.rest c.args.nodes.now.items f (sym c.contains.ensures.value ∙ c.if-contains.false)
    c.in_ok-root.root c.add_pair.new.nodes.items c.in_ok-root.ensures.nodes c.in_ok-root.ensures.place
