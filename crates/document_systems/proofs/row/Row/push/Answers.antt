use Rattle.std.proofs.Common.{ap, refl, ◌∙◌, ◌++◌}
use Rattle.document_systems.specs.declared.row.Row.{Row}
use Rattle.document_systems.proofs.RowLemmas.{first_text, next_text}
use Rattle.document_systems.proofs.row.Row.push.Goals.{then-self+in_ok-push, else-self}
use Rattle.document_systems.proofs.row.Row.push.Goals as goal

pub returns : goal.returns
returns c = λ mark texts is. elim c.if-self.branch [
  | then-self+in_ok-push w ↦
      next_text mark texts c.args.self.now _ c.args.text.now is w.if-self.true (ap (λ (r : Row). r.mark) w.self-is)
      (c.in_ok-extend_from_slice.ensures.items ∙ ap (λ (r : Row). r.text.items ++ c.args.text.now) w.self-is ∙ ap (λ xs. xs ++ c.args.text.now) w.in_ok-push.ensures.items) refl
  | else-self w ↦
      first_text mark texts c.args.self.now _ c.args.text.now is w.if-self.false (ap (λ (r : Row). r.mark) w.self-is)
      (c.in_ok-extend_from_slice.ensures.items ∙ ap (λ (r : Row). r.text.items ++ c.args.text.now) w.self-is) refl
]
