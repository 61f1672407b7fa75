use Rattle.config_patterns.proofs.SymbolLemmas.{all_length}
use Rattle.config_patterns.proofs.symbol_set.SymbolSet.len.Goals as goal

pub returns-in-All : goal.returns-in-All
returns-in-All c = all_length _ _ _ c.self.view_is c.in-All.is
