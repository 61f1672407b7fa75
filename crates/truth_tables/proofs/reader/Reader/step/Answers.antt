use Rattle.std.proofs.Common.{sym, subst}
use Rattle.wpds_port.specs.Words.{word_of}
use Rattle.truth_tables.specs.declared.reader.Position.TheVariants.{Counted2, Counted3}
use Rattle.truth_tables.specs.private.Kept.{IsStepping}
use Rattle.truth_tables.proofs.MarkLemmas.{first2_steps, first3_steps}
use Rattle.truth_tables.proofs.reader.Reader.step.Goals as goal

pub returns-in-Counted2-Mark : goal.returns-in-Counted2-Mark
returns-in-Counted2-Mark c =
    let old = c.args.self.now in
    let call = c.at_bracket in
    let now = call.new.self in
    let table = c.in-Counted2-Mark.number in
    let steps = first2_steps c.in-Counted2-Mark.mark table c.args.limit c.args.place old.pending.items now.pending.items old.parts now.parts call.result call.ensures.built call.ensures.«open» in
    subst (λ p. IsStepping c.args.limit p (word_of c.args.lexeme) c.args.place old.pending.items old.parts call.result now.pending.items now.parts) (sym c.in-Counted2-Mark.is-0)
    (subst (λ x. IsStepping c.args.limit (Counted2 table) (word_of x) c.args.place old.pending.items old.parts call.result now.pending.items now.parts) (sym c.in-Counted2-Mark.is-1) steps)

pub returns-in-Counted3-Mark : goal.returns-in-Counted3-Mark
returns-in-Counted3-Mark c =
    let old = c.args.self.now in
    let call = c.at_bracket-in-Counted3-Mark in
    let now = call.new.self in
    let table = c.in-Counted3-Mark.number in
    let steps = first3_steps c.in-Counted3-Mark.mark table c.args.limit c.args.place old.pending.items now.pending.items old.parts now.parts call.result call.ensures.built call.ensures.«open» in
    subst (λ p. IsStepping c.args.limit p (word_of c.args.lexeme) c.args.place old.pending.items old.parts call.result now.pending.items now.parts) (sym c.in-Counted3-Mark.is-0)
    (subst (λ x. IsStepping c.args.limit (Counted3 table) (word_of x) c.args.place old.pending.items old.parts call.result now.pending.items now.parts) (sym c.in-Counted3-Mark.is-1) steps)
