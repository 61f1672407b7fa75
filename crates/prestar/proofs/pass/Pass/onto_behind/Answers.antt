use Rattle.std.proofs.Common.{sym, ap, ◌∙◌}
use Rattle.std.specs.Prelude.{Some, None}
use Rattle.prestar_laws.specs.Jobs.{goes_on}
use Rattle.prestar.specs.private.Pushes.{kind_of}
use Rattle.prestar.specs.private.Rows.{may_be_first}
use Rattle.std.proofs.lemmas.Option.{same_Some}
use Rattle.direction_parts.proofs.CallerLemmas.{not_there}
use Rattle.prestar.proofs.RowLemmas.{onto_next}
use Rattle.prestar.proofs.pass.Pass.onto_behind.Goals as goal

pub returns-in_default : goal.returns-in_default
returns-in_default g c = λ e.
    let pass = c.args.self.now in
    let rs = pass.system.now.rules in
    let goes = goes_on pass.system.now.controls (kind_of pass.callee) in
    not_there (may_be_first pass.system.now.controls (kind_of pass.callee) pass.from pass.symbol pass.to) c.args.k rs None (sym c.in_default.is ∙ e) (λ h. cc)

pub returns-then-j-k : goal.returns-then-j-k
returns-then-j-k g c = λ e.
    let pass = c.args.self.now in
    let rs = pass.system.now.rules in
    let goes = goes_on pass.system.now.controls (kind_of pass.callee) in
    sym c.in-Some.is ∙ not_there (may_be_first pass.system.now.controls (kind_of pass.callee) pass.from pass.symbol pass.to) c.args.k rs c.args.at e (λ h. c.if-j-k.true (same_Some c.in-Some.j c.args.k (sym c.in-Some.is ∙ h)))

pub returns : goal.returns
returns g c = λ e.
    let pass = c.args.self.now in
    let rs = pass.system.now.rules in
    let goes = goes_on pass.system.now.controls (kind_of pass.callee) in
    onto_next (goes pass.to) c.args.k pass.from pass.symbol rs c.next_onto.result (sym e ∙ c.in-Some.is ∙ ap Some c.if-j-k.false) c.next_onto.ensures
