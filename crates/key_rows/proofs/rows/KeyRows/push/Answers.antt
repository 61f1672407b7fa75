use Rattle.std.proofs.Common.{sym, subst, ◌++◌, ◌∷◌, []}
use Rattle.key_rows.specs.Rows.{AreLinked}
use Rattle.key_rows.proofs.CellLemmas.{rows_none}
use Rattle.key_rows.proofs.rows.KeyRows.push.Goals as goal

pub returns-in-None-clause-rows : goal.returns-in-None-clause-rows
returns-in-None-clause-rows g c = λ ks rows.
    subst (λ o. AreLinked g.K.Ord.cmp (ks ++ o ∷ []) c.args.self.now.cells.members c.push_reserved.new.self.items) (sym c.in-None.is)
    (subst (AreLinked g.K.Ord.cmp (ks ++ _ ∷ []) c.args.self.now.cells.members) (sym c.push_reserved.ensures.items)
    (rows_none g.K.Ord.cmp ks c.args.self.now.cells.members c.args.self.now.gaps.items rows))
