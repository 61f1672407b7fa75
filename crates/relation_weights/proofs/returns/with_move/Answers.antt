use Rattle.std.proofs.Common.{◌*◌, ◌&&◌, sym, ap, ◌∙◌}
use Rattle.std.specs.Prelude.{nat_eq}
use Rattle.std.proofs.lemmas.Result.{IfOk-weaker}
use Rattle.std.proofs.lemmas.Bool.{ne_eqb}
use Rattle.diagram_ops.specs.Relations.{of_states, relates}
use Rattle.relation_weights.specs.private.Moves.{far_bit}
use Rattle.relation_weights.proofs.DiagramLemmas.{moved_value}
use Rattle.relation_weights.proofs.returns.with_move.Goals as goal

pub returns-in_ok-new-in-Callee-clause-pairs : goal.returns-in_ok-new-in-Callee-clause-pairs
returns-in_ok-new-in-Callee-clause-pairs c =
    IfOk-weaker c.apply_table3.result _ _ (λ d h x y.
    h (of_states x y)
    ∙ moved_value (relates c.args.made x y) (relates c.in_ok-new-in-Callee.new x y) (relates c.in_ok-old-in-Callee.old x y)
    (y c.args.number) (x c.in-Callee.from) (nat_eq c.in-Callee.from c.args.number)
    (c.in_ok-new-in-Callee.ensures.value x y) (c.in_ok-old-in-Callee.ensures.value x y ∙ ap x c.from-in-Callee.ensures)
    (ne_eqb c.in-Callee.from c.args.number (λ e. c.if-from-number.true (c.from.ensures ∙ e)))
    ∙ ap (λ s. relates c.args.made x y && far_bit c.args.number s x (y c.args.number)) (sym c.in-Callee.is)) c.apply_table3.ensures.value

pub returns-in_ok-new-in-Callee-clause-variables : goal.returns-in_ok-new-in-Callee-clause-variables
returns-in_ok-new-in-Callee-clause-variables c =
    IfOk-weaker c.apply_table3.result _ _ (λ d h. h (2 * c.args.n) c.requires.variables c.in_ok-new-in-Callee.ensures.variables c.in_ok-old-in-Callee.ensures.variables) c.apply_table3.ensures.variables
