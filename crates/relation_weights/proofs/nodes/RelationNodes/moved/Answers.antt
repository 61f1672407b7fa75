use Rattle.std.proofs.lemmas.Result.{IfOk-weaker}
use Rattle.relation_weights.proofs.NodeLemmas.{return_value}
use Rattle.relation_weights.proofs.nodes.RelationNodes.moved.Goals as goal

pub returns-clause-value : goal.returns-clause-value
returns-clause-value c = λ slots fit parts.
    IfOk-weaker c.met.result _ _ (λ r both.
    return_value c.args.self.now c.composed.new.self c.met.new.self c.in_ok-led.ensures.more c.met.ensures.more c.bits-bits.ensures.valid slots fit
    c.args.a c.args.moves c.args.stays c.in_ok-led.led r c.requires.relation parts c.in_ok-led.ensures.within c.in_ok-led.ensures.leads both)
    c.met.ensures.leads
