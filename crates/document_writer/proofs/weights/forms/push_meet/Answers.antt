use Rattle.std.proofs.Common.{◌≡◌, ◌||◌, true, is_some, arith}
use Rattle.std.proofs.lemmas.Grind.{common_steps}
use Rattle.document_forms.specs.Writing.{members}
use Rattle.document_writer.specs.private.Rows.{has_some}
use Rattle.document_writer.proofs.FormLemmas.{form_some}
use Rattle.document_writer.proofs.weights.forms.push_meet.Goals as goal

pub returns-then-branch : goal.returns-then-branch
returns-then-branch c =
    let names = c.args.names.now in
    let bits = c.args.from in
    let some : (is_some c.args.constant || has_some (members names bits)) ≡ true =
    cc (c.is_some.ensures, c.in_ok-push_members.ensures.some, c.if-branch.true)
    in
    grind (arith, common_steps, form_some names c.args.constant bits some)
