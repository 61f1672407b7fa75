use Rattle.std.proofs.Common.{sym, ap, ◌∙◌}
use Rattle.std.specs.List.{range_with_len}
use Rattle.std.proofs.lemmas.Bool.{eqb-true}
use Rattle.config_patterns.proofs.RangeLemmas.{same_count}
use Rattle.config_patterns.proofs.SymbolLemmas.{all_is}
use Rattle.config_patterns.proofs.symbol_set.SymbolSet.same.Goals as goal

pub returns-in-All-All : goal.returns-in-All-All
returns-in-All-All c =
    let one = c.in-All-All.one in
    let other = c.in-All-All.other in
    let left = all_is _ _ _ c.self.view_is c.in-All-All.is-0 in
    let right = all_is _ _ _ c.other.view_is c.in-All-All.is-1 in
    (λ same. left ∙ ap (range_with_len 0) (eqb-true one other same) ∙ sym right, λ same. same_count one other (sym left ∙ same ∙ right))
