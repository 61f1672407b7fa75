use Rattle.std.proofs.Common.{refl, sym, ◌∙◌, arith}
use Rattle.copy_weights.specs.Forms.{itself, form}
use Rattle.copy_weights.specs.CopyLaws.{forms_by_places}
use Rattle.copy_weights.proofs.LoopLemmas.{alike_next}
use Rattle.copy_weights.proofs.lists.is_identity.Goals as goal

pub loop-k-preserved : goal.loop-k-preserved
unfolding form
loop-k-preserved c =
    alike_next c.loop-k.k itself (form c.args.a.now) c.loop-k.invariant (sym c.itself.ensures ∙ c.is_same.ensures.0 c.if-not-is_same.false)

pub returns : goal.returns
returns c = λ _. sym (forms_by_places _ itself c.args.a.now refl (λ i b. c.loop-k.invariant i (omega arith)))
