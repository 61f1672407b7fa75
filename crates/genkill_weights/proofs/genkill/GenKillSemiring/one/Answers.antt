use Rattle.std.proofs.Common.{◌-◌, ◌^◌, ap₂}
use Rattle.genkill_weights.specs.declared.weight.GenKillW.TheVariants.{Map}
use Rattle.genkill_weights.specs.private.MaskLaws.{replicate_is}
use Rattle.genkill_weights.proofs.genkill.GenKillSemiring.one.Goals as goal

pub returns : goal.returns
returns g c = ap₂ Map (replicate_is g.row.N (2 ^ 64 - 1)) (replicate_is g.row.N 0)
