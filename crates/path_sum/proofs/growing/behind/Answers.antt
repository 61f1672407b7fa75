use Rattle.std.proofs.Common.{sym, ap, ◌∙◌}
use Rattle.std.specs.Prelude.{Some, None}
use Rattle.std.proofs.lemmas.Option.{same_Some}
use Rattle.weighted_automata.specs.Entries.{is_from}
use Rattle.direction_parts.proofs.CallerLemmas.{not_there}
use Rattle.path_sum.proofs.ReadLemmas.{row_next}
use Rattle.path_sum.proofs.growing.behind.Goals as goal

pub returns-in_default : goal.returns-in_default
returns-in_default g c = λ state label e.
    not_there (is_from state label) c.args.k c.args.transitions.now.transitions None (sym c.in_default.is ∙ e) (λ h. cc)

pub returns-then-j-k : goal.returns-then-j-k
returns-then-j-k g c = λ state label e.
    sym c.in-Some.is
    ∙ not_there (is_from state label) c.args.k c.args.transitions.now.transitions c.args.at e (λ h. c.if-j-k.true (same_Some c.in-Some.j c.args.k (sym c.in-Some.is ∙ h)))

pub returns : goal.returns
returns g c = λ state label e.
    row_next state label c.args.k c.args.transitions.now.transitions c.next_from.result (sym e ∙ c.in-Some.is ∙ ap Some c.if-j-k.false) c.next_from.ensures.row
