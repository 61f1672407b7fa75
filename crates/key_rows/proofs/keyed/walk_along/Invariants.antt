use Rattle.std.specs.Ordering.{eq_by_cmp}
use Rattle.key_rows.proofs.ChainLemmas.{IsWalked, mine, test, to_go}
use Rattle.key_rows.proofs.keyed.walk_along.Given as goal

abbrev pub invariant-chain : goal.invariant-chain
invariant-chain g l = IsWalked (test g.T.Keyed.key_of g.K.Key.spread l.round l.key l.heads) (mine g.T.Keyed.key_of (eq_by_cmp g.K.Ord.cmp) l.key) l.cells l.at

abbrev pub decreases-chain : goal.decreases-chain
decreases-chain g l = to_go l.at
