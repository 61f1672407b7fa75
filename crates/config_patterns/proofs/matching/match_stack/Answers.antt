use Rattle.std.proofs.Common.{◌∙◌, arith, rules}
use Rattle.config_patterns.proofs.PlaceLemmas.{stack_more, places_first}
use Rattle.config_patterns.proofs.matching.match_stack.Goals as goal

pub loop-k-init : goal.loop-k-init
loop-k-init c = (search rules, places_first c.args.items.now c.begin.new.places 1000 c.args.config.now.stack c.begin.ensures)

pub loop-k-preserved : goal.loop-k-preserved
loop-k-preserved c = (
  search rules,
  stack_more c.args.items.now c.loop-k.places c.advance.new.places c.args.config.now.stack c.loop-k.k c.at.result (omega arith) (omega arith) c.at.ensures c.advance.ensures
      ∙ c.loop-k.invariant.1,
)
