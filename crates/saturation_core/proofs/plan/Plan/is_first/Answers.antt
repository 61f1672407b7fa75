use Rattle.std.proofs.Common.{rules, ◌≡◌, map, sym, ap, ◌∙◌}
use Rattle.std.specs.Prelude.{◌↔◌, IsTrue, Some}
use Rattle.key_rows.specs.Rows.{index_where}
use Rattle.saturation_core.proofs.GoalLemmas.{is_of, first_of_row}
use Rattle.saturation_core.proofs.plan.Plan.is_first.Goals as goal

pub returns : goal.returns
returns g c =
    let at : c.first.result ≡ index_where (is_of c.args.place) c.args.self.now =
    c.first.ensures (map (λ l. Some l.goal) c.self.inside.steps.items) c.self.invariant
    ∙ first_of_row c.args.place c.self.inside.steps.items
    ∙ ap (index_where (is_of c.args.place)) c.self.view_is in
    let same : IsTrue c.eq.result ↔ (c.first.result ≡ Some c.args.k) = search rules in (
      λ h. sym at ∙ same.0 h,
      λ e. same.1 (at ∙ e),
    )
