use Rattle.std.proofs.Common.{refl, ap, ◌∙◌}
use Rattle.program_forms.specs.Forms.{Stating}
use Rattle.program_lines.specs.Texts.{label_said}
use Rattle.program_tables.proofs.WalkLemmas.{takes_nothing}
use Rattle.program_tables.proofs.tables.Tables.take_statement.Goals as goal

pub returns-in-Some : goal.returns-in-Some
returns-in-Some c = λ ls l s h t e n b.
    c.take_label.ensures ls l s h t (e ∙ ap (λ x. Stating (label_said x) s) c.in-Some.is) n b

pub returns-in-None : goal.returns-in-None
returns-in-None c = λ ls l s h t e n b.
    takes_nothing ls l c.args.self.now _ h (e ∙ ap (λ x. Stating (label_said x) s) c.in-None.is) refl (λ k. refl) (λ m. refl)
