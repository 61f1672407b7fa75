use Rattle.boolean_meaning.proofs.stepping.step_held.Goals as goal

pub act-requires-clause-spot : goal.act-requires-clause-spot
act-requires-clause-spot c = (c.in-Some.top.point.line, c.in-Some-find.ensures.spot c.requires)
