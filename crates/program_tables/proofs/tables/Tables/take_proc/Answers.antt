use Rattle.std.proofs.Common.{length, refl, ap, ◌∙◌}
use Rattle.program_tables.proofs.TableLemmas.{params_names}
use Rattle.program_tables.proofs.WalkLemmas.{takes_proc, same_row}
use Rattle.program_tables.proofs.tables.Tables.take_proc.Goals as goal

pub returns : goal.returns
returns c = λ ls l ps h p e b.
    let count = c.in_ok-count_names.ensures ∙ ap length (params_names c.args.params.now ps p) in
    takes_proc ls l c.args.self.now _ c.args.name.now ps c.args.returns _ _ h e
    (same_row l c.args.begun c.in_ok-count_names.field-0 c.args.returns ps b count)
    refl c.in_ok-add.ensures refl refl c.max-self.ensures
