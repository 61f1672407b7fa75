use Rattle.std.proofs.Common.{ap, ◌∙◌}
use Rattle.genkill_weights.specs.GenKill.{or_mask}
use Rattle.genkill_weights.specs.Making.{is_listed}
use Rattle.genkill_weights.proofs.MakingLemmas.{made_where, made_fits, made_makes}
use Rattle.genkill_weights.proofs.genkill.GenKill.make.Goals as goal

pub returns-clause-value : goal.returns-clause-value
returns-clause-value g c =
    made_where g.row.N (is_listed c.args.gens.now) (is_listed c.args.kills.now) c.mask_of-generated.result c.mask_of-killed.result c.either.result
    c.mask_of-generated.ensures c.mask_of-killed.ensures (c.either.ensures ∙ ap (or_mask g.row.N c.mask_of-generated.result) c.not_in-others.ensures)

pub returns-clause-effects : goal.returns-clause-effects
returns-clause-effects g c = made_makes g.row.N c.args.gens.now c.args.kills.now c.either.result c.mask_of-generated.result (returns-clause-value g c)

pub returns-clause-fits : goal.returns-clause-fits
returns-clause-fits g c = made_fits g.row.N (is_listed c.args.gens.now) (is_listed c.args.kills.now) c.either.result c.mask_of-generated.result (returns-clause-value g c)
