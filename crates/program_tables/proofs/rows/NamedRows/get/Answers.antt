use Rattle.std.proofs.Common.{sym, ◌∙◌}
use Rattle.std.proofs.lemmas.Map.Text.{is_eq-slice_cmp}
use Rattle.program_tables.proofs.RowLemmas.{row_none, row_found}
use Rattle.program_tables.proofs.rows.NamedRows.get.Goals as goal

pub returns-in-Some : goal.returns-in-Some
returns-in-Some g c =
    let rows = c.args.self.now.rows.members in
    let name = c.args.name.now in
    sym (row_found name _ (λ r. is_eq-slice_cmp name r.name.now) rows c.in-Some.k c.get.result.now
    (sym c.find.ensures.number ∙ c.in-Some.is) c.get.ensures)

pub returns-in-None : goal.returns-in-None
returns-in-None g c =
    let rows = c.args.self.now.rows.members in
    let name = c.args.name.now in
    sym (row_none name _ (λ r. is_eq-slice_cmp name r.name.now) rows (sym c.find.ensures.number ∙ c.in-None.is))
