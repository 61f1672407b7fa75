use Rattle.std.proofs.Common.{◌≡◌, refl, sym, ◌∙◌, arith}
use Rattle.program_tables.proofs.WalkLemmas.{takes_label, same_label}
use Rattle.program_tables.proofs.tables.Tables.take_label.Goals as goal

pub returns : goal.returns
returns c = λ ls l s h t e n b.
    let line : c.in_ok-map_err.field-0 ≡ c.args.line = grind arith in
    takes_label ls l c.args.self.now _ c.args.name.now s _ _ h e
    (same_label l s c.in_ok-map_err.field-0 c.args.begun _ (line ∙ sym n) b (c.is_assert.ensures s t))
    refl c.in_ok-add.ensures refl refl refl
