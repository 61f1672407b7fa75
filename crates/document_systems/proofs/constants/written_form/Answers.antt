use Rattle.std.proofs.Common.{[], ◌++◌, ap, sym, ◌∙◌, codes}
use Rattle.std.specs.List.{join_with_byte}
use Rattle.copy_weights.specs.Forms.{has}
use Rattle.document_systems.specs.CopyWeights.{form_text}
use Rattle.document_systems.specs.ValueTexts.{names_where, or_one}
use Rattle.document_systems.proofs.ConstantLemmas.{constant_is}
use Rattle.document_systems.proofs.constants.written_form.Goals as goal

pub returns-in_ok-push_if_none-in-Meet : goal.returns-in_ok-push_if_none-in-Meet
returns-in_ok-push_if_none-in-Meet c =
    let names = c.args.items.now in
    let one = c.in_ok-push_constant-in-Meet.ensures 44 [] c.new-row.ensures in
    let two = c.in_ok-push_variables-in-Meet.ensures 44 _ one in
    let three = c.in_ok-push_if_none-in-Meet.ensures 44 _ two in
    c.into_text.ensures 44 _ three
    ∙ ap (λ ts. join_with_byte 44 (or_one (codes "undef") (ts ++ names_where names (has c.in-Meet.from)))) (constant_is names c.in-Meet.constant)
    ∙ sym (ap (form_text names) c.in-Meet.is)
