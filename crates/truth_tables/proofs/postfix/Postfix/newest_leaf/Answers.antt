use Rattle.std.proofs.Common.{◌≡◌, ◌-◌, length, Some, None, sym, ap, ◌∙◌}
use Rattle.std.specs.Prelude.{slice_get}
use Rattle.std.specs.Option.{option_copied}
use Rattle.truth_tables.specs.Postfix.{newest_leaf}
use Rattle.truth_tables.proofs.PostfixLemmas.{no_leaf, leaf_of_last}
use Rattle.truth_tables.proofs.postfix.Postfix.newest_leaf.Goals as goal

pub returns-in-Some : goal.returns-in-Some
returns-in-Some c =
    let parts = c.self.inside.parts.items in
    let last : Some c.in-Some.part.now ≡ slice_get parts (length parts - 1) =
    sym (ap option_copied c.in-Some.is) ∙ c.last.ensures.value ∙ ap (λ ps. slice_get ps (length ps - 1)) c.deref.ensures.value in
    c.leaf.ensures ∙ leaf_of_last parts c.in-Some.part.now last ∙ ap newest_leaf c.self.view_is

pub returns-in-None : goal.returns-in-None
returns-in-None c =
    let parts = c.self.inside.parts.items in
    let last : None ≡ slice_get parts (length parts - 1) =
    sym (ap option_copied c.in-None.is) ∙ c.last.ensures.value ∙ ap (λ ps. slice_get ps (length ps - 1)) c.deref.ensures.value in
    no_leaf parts last ∙ ap newest_leaf c.self.view_is
