use Rattle.std.proofs.Common.{sym, subst}
use Rattle.semiring_laws.specs.Semiring.{FitsMap}
use Rattle.pushdown_rules.specs.Pushdown.{IsSystem}
use Rattle.document_systems.specs.Systems.{system_of}
use Rattle.document_systems.proofs.RuleLemmas.{is_system}
use Rattle.document_systems.proofs.laws.documents_are_systems.Goals as goal

pub returns : goal.returns
returns g c = λ s d named is taken.
    let kind = g.S.DocumentWeights.kind in
    let laws = g.met.S.DocumentWeights in
    let plain = subst (λ operations. FitsMap (operations s) (operations s).plain) (sym laws.computes) (g.S.Semiring.laws s).fits-plain in
    subst (λ operations. IsSystem operations (system_of kind s d)) laws.computes
    (is_system kind s plain (λ t. laws.weights_fit s t named) (λ t. laws.maps_fit s t named) d is taken)
