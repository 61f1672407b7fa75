use Rattle.std.proofs.Common.{sym, ap, ◌∙◌}
use Rattle.config_patterns.specs.Membership.{has_symbol}
use Rattle.config_patterns.proofs.RangeLemmas.{has_all}
use Rattle.config_patterns.proofs.SymbolLemmas.{all_is}
use Rattle.config_patterns.proofs.symbol_set.SymbolSet.has.Goals as goal

pub returns-in-All : goal.returns-in-All
returns-in-All c = sym (ap (has_symbol c.args.symbol) (all_is _ _ _ c.self.view_is c.in-All.is) ∙ has_all c.in-All.count c.args.symbol)
