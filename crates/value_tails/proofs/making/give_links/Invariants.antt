use Rattle.std.proofs.Common.{length}
use Rattle.weight_tables.proofs.CallerLemmas.{to_go}
use Rattle.value_tails.proofs.GiveLemmas.{IsOutLoop}
use Rattle.value_tails.proofs.making.give_links.Given as goal

abbrev pub invariant-links : goal.invariant-links
invariant-links g l = IsOutLoop g.S.Semiring.operations (λ x. g.S.Semiring.laws x) l.fn.first l.fn.tables l.fn.number l.tables l.at

abbrev pub decreases-links : goal.decreases-links
decreases-links g l = to_go (length l.fn.tables.walk) l.at
