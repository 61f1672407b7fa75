use Rattle.std.proofs.Common.{ℕ, refl, sym, ap, ◌∙◌, arith}
use Rattle.copy_weights.specs.Forms.{meet, form}
use Rattle.copy_weights.specs.CopyLaws.{forms_by_places, form_tabulate}
use Rattle.copy_weights.proofs.LoopLemmas.{alike_next}
use Rattle.copy_weights.proofs.lists.has_meets.Goals as goal

pub returns-then-not-has_form : goal.returns-then-not-has_form
unfolding form
returns-then-not-has_form c =
    let f = λ (i : ℕ). meet (form c.args.a.now i) (form c.args.b.now i) in (
      λ e. cc,
      λ all.
          let same = c.has_form.ensures.1 (sym (form_tabulate _ f c.loop-k.k c.loop-k-test.true) ∙ ap (λ fs. form fs c.loop-k.k) all) in
          let other = c.if-not-has_form.true in
          cc,
    )

pub loop-k-preserved : goal.loop-k-preserved
unfolding form
loop-k-preserved c =
    alike_next c.loop-k.k (λ i. meet (form c.args.a.now i) (form c.args.b.now i)) (form c.args.a.now) c.loop-k.invariant (c.has_form.ensures.0 c.if-not-has_form.false)

pub returns : goal.returns
returns c =
    (λ _. forms_by_places _ (λ i. meet (form c.args.a.now i) (form c.args.b.now i)) c.args.a.now refl (λ i b. c.loop-k.invariant i (omega arith)), λ _. refl)
