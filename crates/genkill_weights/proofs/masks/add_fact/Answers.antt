use Rattle.std.proofs.Common.{arith}
use Rattle.genkill_weights.specs.private.MaskLaws.{mask_length}
use Rattle.genkill_weights.proofs.MakingLemmas.{mask_added, fact_added}
use Rattle.genkill_weights.proofs.masks.add_fact.Goals as goal

pub returns-clause-mask : goal.returns-clause-mask
returns-clause-mask g c = λ h. mask_added g.row.N c.args.mask.now c.args.number h (omega arith)

pub returns-clause-facts : goal.returns-clause-facts
returns-clause-facts g c = λ h f below. fact_added g.row.N c.args.mask.now c.args.number (mask_length g.row.N c.args.mask.now h) (omega arith) f
