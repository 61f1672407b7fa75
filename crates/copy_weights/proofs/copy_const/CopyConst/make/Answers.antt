use Rattle.std.proofs.Common.{◌≡◌, ℕ, sym, ap, subst, ◌∙◌}
use Rattle.std.specs.Prelude.{IsTrue}
use Rattle.std.proofs.lemmas.Result.{IfOk-weaker}
use Rattle.copy_weights.specs.declared.form.CopyW.{CopyW}
use Rattle.copy_weights.specs.declared.form.CopyW.TheVariants.{Map}
use Rattle.copy_weights.specs.Forms.{changes_of}
use Rattle.copy_weights.specs.CopyConst.{weight_fits}
use Rattle.copy_weights.proofs.MakingLemmas.{changes_fit, changes_whole}
use Rattle.copy_weights.proofs.copy_const.CopyConst.make.Goals as goal

pub returns-clause-whole : goal.returns-clause-whole
returns-clause-whole c all =
    let n : ℕ = c.args.self.now in
    let cs = c.args.changes.now in
    let Q : ℕ → Type 0 = λ m. c.in_ok-forms.forms.items ≡ changes_of m cs in
    let made : c.in_ok-forms.forms.items ≡ changes_of n cs = subst Q c.self.view_is c.in_ok-forms.ensures in
    IfOk-weaker c.map_of.result _ _ (λ w is. is ∙ ap Map (made ∙ changes_whole n cs all)) c.map_of.ensures

pub returns-clause-fits : goal.returns-clause-fits
returns-clause-fits c =
    let n : ℕ = c.args.self.now in
    let cs = c.args.changes.now in
    let Q : ℕ → Type 0 = λ m. c.in_ok-forms.forms.items ≡ changes_of m cs in
    let P : CopyW → Type 0 = λ w. IsTrue (weight_fits n w) in
    let made : c.in_ok-forms.forms.items ≡ changes_of n cs = subst Q c.self.view_is c.in_ok-forms.ensures in
    IfOk-weaker c.map_of.result _ _ (λ w is. subst P (sym (is ∙ ap Map made)) (changes_fit n cs)) c.map_of.ensures
