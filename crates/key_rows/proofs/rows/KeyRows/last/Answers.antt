use Rattle.std.proofs.Common.{sym, ap, ◌∙◌}
use Rattle.std.specs.Prelude.{Some, option_map}
use Rattle.key_rows.specs.declared.rows.Ends.{Ends}
use Rattle.key_rows.proofs.CellLemmas.{last_in}
use Rattle.key_rows.proofs.rows.KeyRows.last.Goals as goal

pub returns-in-Some : goal.returns-in-Some
returns-in-Some g c = λ ks rows.
    ap Some c.from.ensures
    ∙ ap (option_map (λ (e : Ends). e.last)) (sym c.in-Some.is)
    ∙ last_in g.K.Ord.cmp ks c.args.self.now.cells.members c.args.self.now.gaps.items c.args.key c.cell_at.result rows c.cell_at.ensures

pub returns-in-None : goal.returns-in-None
returns-in-None g c = λ ks rows.
    ap (option_map (λ (e : Ends). e.last)) (sym c.in-None.is)
    ∙ last_in g.K.Ord.cmp ks c.args.self.now.cells.members c.args.self.now.gaps.items c.args.key c.cell_at.result rows c.cell_at.ensures
