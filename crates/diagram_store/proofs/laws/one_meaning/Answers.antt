use Rattle.std.proofs.Common.{ap₂}
use Rattle.diagram_store.specs.Meaning.{value_at, bits_of}
use Rattle.diagram_store.proofs.WalkLemmas.{canonical_is_one}
use Rattle.diagram_store.proofs.BitLemmas.{same_by_lists}
use Rattle.diagram_store.proofs.laws.one_meaning.Goals as goal

pub returns : goal.returns
returns c = λ a b. (
  λ same. canonical_is_one a.nodes b.nodes a.root b.root a.is_canonical b.is_canonical (same_by_lists a.nodes a.is_canonical.reduced a.root b.nodes b.is_canonical.reduced b.root same),
  λ parts list. ap₂ (λ nodes root. value_at nodes root (bits_of list)) parts.1 parts.0,
)
