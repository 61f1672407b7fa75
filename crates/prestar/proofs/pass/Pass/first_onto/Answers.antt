use Rattle.std.proofs.Common.{sym, ap, ◌∙◌}
use Rattle.std.specs.Prelude.{◌&&◌}
use Rattle.key_rows.specs.Rows.{index_where}
use Rattle.pushdown_rules.specs.Rows.{goes_onto}
use Rattle.prestar_laws.specs.Jobs.{goes_on}
use Rattle.prestar.specs.private.Pushes.{kind_of}
use Rattle.direction_parts.proofs.CallerLemmas.{none_where}
use Rattle.prestar.proofs.pass.Pass.first_onto.Goals as goal

pub returns-then-not-goes_on : goal.returns-then-not-goes_on
returns-then-not-goes_on g c =
    let pass = c.args.self.now in
    let rs = pass.system.now.rules in
    let goes = goes_on pass.system.now.controls (kind_of pass.callee) in
    none_where (goes pass.to) (goes_onto pass.from pass.symbol) rs (sym c.goes_on.ensures ∙ c.if-not-goes_on.true)

pub returns : goal.returns
returns g c =
    let pass = c.args.self.now in
    let rs = pass.system.now.rules in
    let goes = goes_on pass.system.now.controls (kind_of pass.callee) in
    c.first_onto.ensures ∙ ap (λ b. index_where (λ r. b && goes_onto pass.from pass.symbol r) rs) (sym c.if-not-goes_on.false ∙ c.goes_on.ensures)
