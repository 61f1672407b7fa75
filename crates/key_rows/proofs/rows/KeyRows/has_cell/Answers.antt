use Rattle.std.proofs.Common.{sym, ap, ◌∙◌}
use Rattle.std.specs.Option.{is_some}
use Rattle.key_rows.proofs.RowNumbers.{holds_row, has_row}
use Rattle.key_rows.proofs.rows.KeyRows.has_cell.Goals as goal

pub returns : goal.returns
returns g c = (
  (λ is. holds_row g.K.Ord.cmp c.args.self.now.cells.members c.args.key (ap is_some (sym c.find.ensures.number) ∙ sym c.is_some.ensures ∙ is)),
  (λ had. c.is_some.ensures ∙ ap is_some c.find.ensures.number ∙ has_row g.K.Ord.cmp c.args.self.now.cells.members c.args.key had),
)
