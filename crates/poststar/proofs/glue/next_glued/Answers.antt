use Rattle.std.proofs.Common.{◌∙◌, sym}
use Rattle.poststar.proofs.RowLemmas.{next_empty, next_out}
use Rattle.poststar.proofs.glue.next_glued.Goals as goal

pub returns-then-reads_symbol : goal.returns-then-reads_symbol
returns-then-reads_symbol g c = λ at.
    next_empty c.args.place c.args.i c.args.transitions.now.transitions c.next_empty_into.result at (sym c.reads_symbol.ensures ∙ c.if-reads_symbol.true) c.next_empty_into.ensures.row

pub returns-else-reads_symbol : goal.returns-else-reads_symbol
returns-else-reads_symbol g c = λ at.
    next_out c.args.place c.args.i c.args.transitions.now.transitions c.next_out_of.result at (sym c.reads_symbol.ensures ∙ c.if-reads_symbol.false) c.next_out_of.ensures.row
