use Rattle.std.specs.Cmp.Lexicographic.{slice_cmp}
use Rattle.std.specs.Ordering.{is_eq, nat_cmp}
use Rattle.std.proofs.lemmas.Map.Text.{is_eq-slice_cmp}
use Rattle.std.proofs.lemmas.Result.{on_ok_weaker}
use Rattle.program_tables.proofs.RowLemmas.{row_made}
use Rattle.program_tables.proofs.rows.NamedRows.add.Goals as goal

pub returns : goal.returns
returns g c = λ x.
    let name = c.args.name.now in
    on_ok_weaker c.make.result
    (λ h. row_made (λ r. is_eq (slice_cmp nat_cmp name r.name.now)) c.args.self.now.rows.members c.make.new.self.members
    (record { name = c.args.name; row = c.args.row }) (λ r. is_eq-slice_cmp name r.name.now) h x)
    c.make.ensures.members
