use Rattle.std.proofs.Common.{◌≡◌, ◌+◌, ◌||◌, sym, ap, ◌∙◌, subst}
use Rattle.wpds_port.specs.declared.Kind.TheVariants.{Twice, Unknown, WeightText, Count, Arity, Label}
use Rattle.program_forms.specs.FirstRefusal.{kind_below}
use Rattle.program_forms.specs.Places.{Place}
use Rattle.program_forms.specs.Programs.{on_last, with_body, body_line}
use Rattle.program_lines.specs.Texts.{label_said}
use Rattle.program_statements.specs.Statements.{HasStatement}
use Rattle.boolean_syntax.proofs.BodyLemmas.{statement_kind_is, statement_taken}
use Rattle.boolean_syntax.proofs.KindLemmas.{six_none, sound}
use Rattle.boolean_syntax.proofs.body.take_statement.Goals as goal

pub returns-in_default : goal.returns-in_default
returns-in_default c = λ w above l s t h said e place number.
    let all = c.in_ok-read.ensures w s t said in
    let none : ⊥ = cc (all.1, c.in_default.is) in absurd none

pub returns-in-Some-statement_kind : goal.returns-in-Some-statement_kind
returns-in-Some-statement_kind c = λ w above l s t h said e place number.
    let old = c.args.reading.now in
    let label = label_said c.args.label in
    let read = c.in-Some.read in
    let all = c.in_ok-read.ensures w s t said in
    let is : all.0 ≡ read = cc (all.1, c.in-Some.is) in
    let has = subst (HasStatement w old.scope.names c.begun.result old.scope.returns s) is all.2 in
    let points = c.points_of-points.ensures s said label in
    let told : c.statement_kind.result ≡ kind_below w above l =
    c.statement_kind.ensures
    ∙ statement_kind_is w above l old h label s c.begun.result c.points_of-points.result read.rules
    c.in_ok-again.again read.faults.twice read.faults.unknown read.faults.large read.faults.deep c.passes_limit-past.result read.faults.misfits read.faults.leaves
    e (ap (λ (p : Place). p.begun) place ∙ sym c.begun.ensures) c.in_ok-again.ensures.again has.twice has.unknown has.large has.deep points has.rules
    c.passes_limit-past.ensures has.fits has.stays in
    record { kind = sym c.in-Some-statement_kind.is ∙ told; taken = tt }

pub returns : goal.returns
returns c = λ w above l s t h said e place number.
    let old = c.args.reading.now in
    let label = label_said c.args.label in
    let read = c.in-Some.read in
    let all = c.in_ok-read.ensures w s t said in
    let is : all.0 ≡ read = cc (all.1, c.in-Some.is) in
    let has = subst (HasStatement w old.scope.names c.begun.result old.scope.returns s) is all.2 in
    let points = c.points_of-points.ensures s said label in
    let told : c.statement_kind.result ≡ kind_below w above l =
    c.statement_kind.ensures
    ∙ statement_kind_is w above l old h label s c.begun.result c.points_of-points.result read.rules
    c.in_ok-again.again read.faults.twice read.faults.unknown read.faults.large read.faults.deep c.passes_limit-past.result read.faults.misfits read.faults.leaves
    e (ap (λ (p : Place). p.begun) place ∙ sym c.begun.ensures) c.in_ok-again.ensures.again has.twice has.unknown has.large has.deep points has.rules
    c.passes_limit-past.ensures has.fits has.stays in
    let none = six_none (c.in_ok-again.again || read.faults.twice) read.faults.unknown read.faults.large (read.faults.deep || c.passes_limit-past.result) read.faults.misfits read.faults.leaves
    Twice Unknown WeightText Count Arity Label (sym c.statement_kind.ensures ∙ c.in_default-statement_kind.is) in
    let well = sound read.faults.unknown read.faults.large read.faults.deep c.passes_limit-past.result none.0 none.1 none.2 in
    record {
      kind = sym c.in_default-statement_kind.is ∙ told;
      taken =
          statement_taken w above l old h c.add_line.new.self label s c.args.line c.points_of-points.result read.rules c.see_label.new.seen read.statement
          e number c.in_ok-again.ensures.names points has.rules (sym c.passes_limit-past.ensures ∙ well.1) (has.value well.0)
          (c.in_ok-add_line.ensures ∙ ap (λ o. record old {
            seen_labels = c.see_label.new.seen;
            points = old.points + c.points_of-points.result;
            rules = old.rules + read.rules;
            procs = on_last (with_body (body_line c.args.line o read.statement)) old.procs;
          }) c.in_ok-label_text.ensures);
    }
