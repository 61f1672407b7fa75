use Rattle.std.proofs.Common.{◌∙◌, sym, ap}
use Rattle.std.specs.Prelude.{cond}
use Rattle.weighted_automata.specs.Entries.{is_out_of, is_empty_into}
use Rattle.key_rows.specs.Rows.{index_where}
use Rattle.poststar.proofs.glue.first_glued.Goals as goal

pub returns-then-reads_symbol : goal.returns-then-reads_symbol
returns-then-reads_symbol g c =
    c.first_empty_into.ensures
    ∙ ap (λ b. index_where (λ v. cond b (is_empty_into c.args.place.from v) (is_out_of c.args.place.to v)) c.args.transitions.now.transitions) (sym c.if-reads_symbol.true ∙ c.reads_symbol.ensures)

pub returns-else-reads_symbol : goal.returns-else-reads_symbol
returns-else-reads_symbol g c =
    c.first_out_of.ensures
    ∙ ap (λ b. index_where (λ v. cond b (is_empty_into c.args.place.from v) (is_out_of c.args.place.to v)) c.args.transitions.now.transitions) (sym c.if-reads_symbol.false ∙ c.reads_symbol.ensures)
