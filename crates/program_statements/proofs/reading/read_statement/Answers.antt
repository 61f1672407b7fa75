use Rattle.std.proofs.Common.{◌≡◌, Some, refl, sym, ap, ◌∙◌, subst}
use Rattle.program_forms.specs.Forms.{StatementForm, SkipForm}
use Rattle.program_lines.proofs.CallerLemmas.{assign_said, goto_said, call_said, return_said}
use Rattle.program_lines.specs.Texts.{statement_said}
use Rattle.program_statements.specs.Statements.{HasStatement}
use Rattle.program_statements.proofs.reading.read_statement.Goals as goal

pub returns-in-Skip : goal.returns-in-Skip
returns-in-Skip c = λ w s t said.
    let names = c.args.scope.now.names in
    let n = c.args.scope.now.returns in
    let h : Some SkipForm ≡ Some s = ap statement_said (sym c.in-Skip.is) ∙ said in
    let is : SkipForm ≡ s = cc h in
    (c.skip.result, refl, subst (λ k. HasStatement w names c.args.begun n k c.skip.result) is (c.skip.ensures w names c.args.begun n))

pub returns-in_ok-read_assign-in-Assign : goal.returns-in_ok-read_assign-in-Assign
returns-in_ok-read_assign-in-Assign c = λ w s t said.
    let n = c.args.scope.now.returns in
    let read = c.in_ok-read_assign-in-Assign.field-0 in
    let p = assign_said c.in-Assign.targets c.in-Assign.values s (ap statement_said (sym c.in-Assign.is) ∙ said) in (
      read,
      refl,
      subst (λ k. HasStatement w c.args.scope.now.names c.args.begun n k read) (sym p.4)
          (c.in_ok-read_assign-in-Assign.ensures w c.args.begun n p.0 p.1 p.2 p.3),
    )

pub returns-in_ok-goto-in-Goto : goal.returns-in_ok-goto-in-Goto
returns-in_ok-goto-in-Goto c = λ w s t said.
    let names = c.args.scope.now.names in
    let n = c.args.scope.now.returns in
    let read = c.in_ok-goto-in-Goto.field-0 in
    let p = goto_said c.in-Goto.labels s (ap statement_said (sym c.in-Goto.is) ∙ said) in (
      read,
      refl,
      subst (λ k. HasStatement w names c.args.begun n k read) (sym p.2)
          (c.in_ok-goto-in-Goto.ensures w names c.args.begun n p.0 (c.in_ok-read_labels-in-Goto.ensures w p.0 t p.1)),
    )

pub returns-in_ok-read_call-in-Call : goal.returns-in_ok-read_call-in-Call
returns-in_ok-read_call-in-Call c = λ w s t said.
    let n = c.args.scope.now.returns in
    let read = c.in_ok-read_call-in-Call.field-0 in
    let p = call_said c.in-Call.targets c.in-Call.callee c.in-Call.arguments s (ap statement_said (sym c.in-Call.is) ∙ said) in (
      read,
      refl,
      subst (λ k. HasStatement w c.args.scope.now.names c.args.begun n k read) (sym p.4)
          (c.in_ok-read_call-in-Call.ensures w c.args.begun n p.0 p.1 t p.2 p.3),
    )

pub returns-in_ok-choices-in-Return : goal.returns-in_ok-choices-in-Return
returns-in_ok-choices-in-Return c = λ w s t said.
    let names = c.args.scope.now.names in
    let n = c.args.scope.now.returns in
    let read = c.returned.result in
    let p = return_said c.in-Return.values s (ap statement_said (sym c.in-Return.is) ∙ said) in (
      read,
      refl,
      subst (λ k. HasStatement w names c.args.begun n k read) (sym p.2)
          (c.returned.ensures w names c.args.begun p.0 (c.in_ok-choices-in-Return.ensures p.0 p.1)),
    )
