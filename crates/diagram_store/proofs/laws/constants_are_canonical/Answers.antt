use Rattle.diagram_store.proofs.SmallLemmas.{constant_canonical, none_from_constant}
use Rattle.diagram_store.proofs.laws.constants_are_canonical.Goals as goal

pub returns : goal.returns
returns c = λ root nodes below. (none_from_constant nodes root below, λ none. constant_canonical nodes root none below)
