use Rattle.std.proofs.Common.{◌∷◌, [], ◌++◌, replicate, sym, ap, ◌∙◌, append-nil, append_assoc, arith}
use Rattle.program_traces.proofs.WidthLemmas.{replicate_next}
use Rattle.program_traces.proofs.widths.push_copies.Goals as goal

pub loop-done-init : goal.loop-done-init
loop-done-init c = sym (append-nil c.args.list.now.items)

pub loop-done-preserved : goal.loop-done-preserved
loop-done-preserved c =
    c.in_ok-push.ensures.items
    ∙ ap (λ l. l ++ c.args.value ∷ []) c.loop-done.invariant
    ∙ append_assoc c.args.list.now.items (replicate c.loop-done._done c.args.value) (c.args.value ∷ [])
    ∙ ap (λ l. c.args.list.now.items ++ l) (sym (replicate_next c.loop-done._done c.args.value))

pub returns : goal.returns
returns c =
    c.loop-done.invariant ∙ ap (λ n. c.args.list.now.items ++ replicate n c.args.value) (omega arith)
