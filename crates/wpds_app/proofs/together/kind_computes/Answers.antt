use Rattle.wpds_app.proofs.together.kind_computes.Goals as goal

pub returns : goal.returns
returns g c = g.met.S.DocumentWeights.computes
