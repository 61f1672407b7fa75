use Rattle.std.proofs.Common.{arith}
use Rattle.config_patterns.proofs.SymbolLemmas.{all_length, all_at, listed_at}
use Rattle.config_patterns.proofs.symbol_set.SymbolSet.at.Goals as goal

pub prove-unreachable-requires : goal.prove-unreachable-requires
prove-unreachable-requires c = omega (arith, c.requires, c.if-prove.true, all_length _ _ _ c.self.view_is c.in-All.is)

pub returns-in-All : goal.returns-in-All
returns-in-All c = all_at _ _ _ c.self.view_is c.in-All.is c.args.k c.requires

pub returns-in-Listed : goal.returns-in-Listed
returns-in-Listed c = listed_at _ _ _ c.self.view_is c.in-Listed.is c.args.k c.index.result.now c.requires c.index.ensures
