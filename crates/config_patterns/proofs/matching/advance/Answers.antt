use Rattle.std.proofs.Common.{arith}
use Rattle.config_patterns.proofs.PlaceLemmas.{advance_done}
use Rattle.config_patterns.proofs.matching.advance.Goals as goal

pub returns : goal.returns
returns c = advance_done c.args.symbol c.loop-i.skipped c.loop-i.entered c.args.items.now c.loop-i.places _ c.loop-i.i (omega arith) (omega arith) c.loop-i.invariant
