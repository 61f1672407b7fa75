use Rattle.std.proofs.Common.{sym, subst}
use Rattle.wpds_port.specs.declared.Word.TheVariants.{Mark as Sign}
use Rattle.truth_tables.specs.declared.reader.Position.TheVariants.{Wanted}
use Rattle.truth_tables.specs.private.Kept.{IsStepping}
use Rattle.truth_tables.proofs.StepLemmas.{not_opens, bracket_opens}
use Rattle.truth_tables.proofs.reader.Reader.at_mark.Goals as goal

pub returns-in-Not : goal.returns-in-Not
returns-in-Not c = λ place.
    let old = c.args.self.now in
    let now = c.opened.new.self in
    subst (λ m. IsStepping c.args.limit Wanted (Sign m) place old.pending.items old.parts c.opened.result now.pending.items now.parts) (sym c.in-Not.is)
    (not_opens c.args.limit place old.pending.items now.pending.items old.parts now.parts c.opened.result c.opened.ensures.built c.opened.ensures.«open»)

pub returns-in-Open : goal.returns-in-Open
returns-in-Open c = λ place.
    let old = c.args.self.now in
    let call = c.opened-in-Open in
    let now = call.new.self in
    subst (λ m. IsStepping c.args.limit Wanted (Sign m) place old.pending.items old.parts call.result now.pending.items now.parts) (sym c.in-Open.is)
    (bracket_opens c.args.limit place old.pending.items now.pending.items old.parts now.parts call.result call.ensures.built call.ensures.«open»)
