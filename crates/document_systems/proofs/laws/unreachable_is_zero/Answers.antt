use Rattle.std.proofs.Common.{◌≡◌, ◌↔◌, subst}
use Rattle.std.specs.Prelude.{codes}
use Rattle.semiring_laws.specs.Semiring.{Fits}
use Rattle.document_systems.proofs.laws.unreachable_is_zero.Goals as goal

pub returns : goal.returns
returns g c = λ s items v named.
    let kind = g.S.DocumentWeights.kind in
    let laws = g.met.S.DocumentWeights in
    subst (λ operations. Fits (operations s) v → (kind.written s items v ≡ codes "unreachable") ↔ (v ≡ (operations s).zero)) laws.computes
    (laws.tells_zero s items v named)
