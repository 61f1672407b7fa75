use Rattle.std.proofs.Common.{option_map, Ok, Err, subst, sym, ap, ◌∙◌}
use Rattle.truth_tables.specs.Texts.{IsAnswer}
use Rattle.truth_tables.specs.Stacks.{tree_of}
use Rattle.truth_tables.specs.Grammar.{has_large_table}
use Rattle.truth_tables.specs.private.Kept.{IsBuilding}
use Rattle.truth_tables.specs.declared.stop.Stop.TheVariants.{Form, Excess}
use Rattle.truth_tables.proofs.BuildLemmas.{answer_read, answer_form, answer_unbuilt}
use Rattle.truth_tables.proofs.reading.read_expr.Goals as goal

pub returns-in-Ok : goal.returns-in-Ok
returns-in-Ok c =
    let words = c.args.words.now in
    answer_read c.args.depth words c.in-Ok.parts c.reborrow.ensures.lawful
    (subst (λ ws. IsBuilding c.args.depth ws (Ok c.in-Ok.parts)) c.reborrow.ensures.same c.in-Ok.ensures)

pub returns-in-Err-Form : goal.returns-in-Err-Form
returns-in-Err-Form c =
    let words = c.args.words.now in
    let built = rw c.in-Err-Form.field-0-is at c.in-Err-Form.ensures in
    answer_form c.args.depth words (subst (λ ws. IsBuilding c.args.depth ws (Err Form)) c.reborrow.ensures.same built)

pub returns-in_ok-large_table-in-Err-Excess : goal.returns-in_ok-large_table-in-Err-Excess
returns-in_ok-large_table-in-Err-Excess c =
    let words = c.args.words.now in
    let built = rw c.in-Err-Excess.field-0-is at c.in-Err-Excess.ensures in
    let unread = subst (λ ws. IsBuilding c.args.depth ws (Err Excess)) c.reborrow.ensures.same built in
    let large = c.in_ok-large_table-in-Err-Excess.ensures ∙ ap (λ ws. option_map has_large_table (tree_of ws)) c.reborrow-in-Err-Excess.ensures.same in
    subst (IsAnswer words c.args.depth) (sym c.unbuilt.ensures) (answer_unbuilt c.args.depth words _ c.reborrow.ensures.lawful unread large)
