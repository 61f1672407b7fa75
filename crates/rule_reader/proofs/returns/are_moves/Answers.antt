use Rattle.rule_reader.proofs.ReturnLemmas.{pair_last, pair_none}
use Rattle.rule_reader.proofs.returns.are_moves.Goals as goal

pub returns-in-None : goal.returns-in-None
returns-in-None c =
    pair_last c.loop-rest.left c.in-Some.rest c.args.words.now _ _ c.in-Some.ensures c.loop-rest.invariant c.in-None.ensures

pub returns : goal.returns
returns c = pair_none c.loop-rest.left c.args.words.now c.in_default.ensures c.loop-rest.invariant
