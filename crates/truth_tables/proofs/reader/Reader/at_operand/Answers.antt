use Rattle.std.proofs.Common.{sym, subst}
use Rattle.wpds_port.specs.Words.{word_of}
use Rattle.truth_tables.specs.declared.reader.Position.TheVariants.{Wanted}
use Rattle.truth_tables.specs.private.Kept.{IsStepping}
use Rattle.truth_tables.proofs.reader.Reader.at_operand.Goals as goal

pub returns-in-Number : goal.returns-in-Number
returns-in-Number c =
    let old = c.args.self.now in
    let now = c.at_number.new.self in
    subst (λ x. IsStepping c.args.limit Wanted (word_of x) c.args.place old.pending.items old.parts c.at_number.result now.pending.items now.parts) (sym c.in-Number.is)
    (c.at_number.ensures c.args.place)

pub returns-in-Mark : goal.returns-in-Mark
returns-in-Mark c =
    let old = c.args.self.now in
    let now = c.at_mark.new.self in
    subst (λ x. IsStepping c.args.limit Wanted (word_of x) c.args.place old.pending.items old.parts c.at_mark.result now.pending.items now.parts) (sym c.in-Mark.is)
    (c.at_mark.ensures c.args.place)
