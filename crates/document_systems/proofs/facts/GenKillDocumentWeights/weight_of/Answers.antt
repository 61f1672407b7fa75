use Rattle.std.proofs.Common.{true, false, subst, sym, ap, ap₂, ◌∙◌}
use Rattle.std.proofs.lemmas.Result.{IfOk-weaker}
use Rattle.semiring_laws.specs.Semiring.{Fits}
use Rattle.genkill_weights.specs.GenKill.{genkill_operations}
use Rattle.genkill_weights.specs.GenKillLaws.{genkill_laws}
use Rattle.genkill_weights.specs.Making.{is_listed, weight_where}
use Rattle.document_systems.specs.FactWeights.{facts_behind, genkill_weight}
use Rattle.document_systems.proofs.facts.GenKillDocumentWeights.weight_of.Goals as goal

pub returns-in_ok-killed-in-Facts-clause-value : goal.returns-in_ok-killed-in-Facts-clause-value
returns-in_ok-killed-in-Facts-clause-value g c =
    let n = g.row.N in
    let generated = c.deref.ensures.value ∙ c.in_ok-generated-in-Facts.ensures ∙ ap (facts_behind true) c.as_slice.ensures in
    let killed = c.deref-in-Facts.ensures.value ∙ c.in_ok-killed-in-Facts.ensures ∙ ap (facts_behind false) c.as_slice-in-Facts.ensures in
    c.make.ensures.value
    ∙ ap₂ (λ x y. weight_where n (is_listed x) (is_listed y)) generated killed
    ∙ sym (ap (genkill_weight n) c.in-Facts.is)

pub returns-in-One-clause-fits : goal.returns-in-One-clause-fits
returns-in-One-clause-fits g c =
    let n = g.row.N in
    IfOk-weaker c.one.result _ _ (λ w is. subst (Fits (genkill_operations n)) (sym is) (genkill_laws n).fits-one) c.one.ensures
