-- What a document means over facts is a system, whatever the width.
use Rattle.std.proofs.Common.{ℕ}
use Rattle.genkill_weights.specs.GenKill.{genkill_operations}
use Rattle.genkill_weights.specs.GenKillLaws.{genkill_laws}
use Rattle.pushdown_rules.specs.Pushdown.{IsSystem}
use Rattle.document_forms.specs.Documents.{Document}
use Rattle.document_forms.specs.Lawful.{IsDocument}
use Rattle.document_systems.specs.FactLaws.{genkill_weights_fit, genkill_maps_fit}
use Rattle.document_systems.specs.FactWeights.{genkill_kind}
use Rattle.document_systems.specs.Systems.{system_of}
use Rattle.document_systems.proofs.CallerLemmas.{all_taken, is_system}

pub fact_system : (n : ℕ) (d : Document) → IsDocument d → IsSystem (λ _. genkill_operations n) (system_of (genkill_kind n) (record {}) d)
fact_system n d is =
    let kind = genkill_kind n in
    is_system kind (record {}) (genkill_laws n).fits-plain (λ t. genkill_weights_fit n t) (λ t. genkill_maps_fit n t) d is (all_taken kind (record {}) (λ t. tt) (λ m. tt) d)
