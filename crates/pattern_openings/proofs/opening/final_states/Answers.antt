use Rattle.std.proofs.Common.{arith, suc, length}
use Rattle.config_patterns.specs.Edges.{is_final_of}
use Rattle.pattern_openings.specs.PatternOpenings.{finals_of_items}
use Rattle.pattern_openings.proofs.StateLemmas.{finals_next}
use Rattle.pattern_openings.proofs.opening.final_states.Goals as goal

pub loop-state-preserved : goal.loop-state-preserved
loop-state-preserved c =
    let items = c.args.pattern.now.items in
    finals_next (is_final_of items) c.loop-state.state (suc (length items)) c.loop-state.finals.items c.push_final.new.finals.items
    (finals_of_items items) (omega arith) c.loop-state.invariant c.in_ok-push_final.ensures
