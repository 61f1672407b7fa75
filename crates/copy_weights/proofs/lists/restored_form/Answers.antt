use Rattle.std.proofs.Common.{sym, ◌∙◌}
use Rattle.std.proofs.lemmas.Bool.{cond-true, cond-false}
use Rattle.copy_weights.specs.Forms.{has, itself}
use Rattle.copy_weights.proofs.LoopLemmas.{has_shifted, has_not_shifted}
use Rattle.copy_weights.proofs.lists.restored_form.Goals as goal

pub returns-then-vars-k-eq1 : goal.returns-then-vars-k-eq1
returns-then-vars-k-eq1 c = c.itself.ensures ∙ sym (cond-true (has c.args.vars c.args.k) (itself c.args.k) c.args.f (has_shifted c.args.vars c.args.k c.if-vars-k-eq1.true))

pub returns : goal.returns
returns c = sym (cond-false (has c.args.vars c.args.k) (itself c.args.k) c.args.f (has_not_shifted c.args.vars c.args.k c.if-vars-k-eq1.false))
