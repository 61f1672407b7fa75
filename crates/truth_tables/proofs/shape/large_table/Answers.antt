use Rattle.std.proofs.Common.{ap, sym, ◌∙◌, ◌||◌, subst, reverse, true, false}
use Rattle.truth_tables.specs.Stacks.{tree_of}
use Rattle.truth_tables.specs.declared.shape.Place.TheVariants.{Wanted}
use Rattle.truth_tables.specs.private.Shapes.{is_whole}
use Rattle.truth_tables.proofs.ShapeLemmas.{Leaves, at_first, word_more, word_too_many, at_the_end}
use Rattle.truth_tables.proofs.shape.large_table.Goals as goal

pub loop-lexeme-init : goal.loop-lexeme-init
loop-lexeme-init c =
    subst (λ s. Leaves s Wanted false c.args.words (tree_of c.args.words)) (sym c.new-stack.ensures.items) (at_first c.args.words)

pub returns-in-None : goal.returns-in-None
returns-in-None c =
    word_too_many c.loop-lexeme.stack.items c.step.new.stack.items c.loop-lexeme.place c.loop-lexeme.large c.loop-lexeme.left (tree_of c.args.words) _ _
    c.loop-lexeme.invariant c.in-Some.ensures _ c.in-None.is c.in_ok-next.ensures

pub loop-lexeme-preserved : goal.loop-lexeme-preserved
loop-lexeme-preserved c =
    subst (λ b. Leaves c.step.new.stack.items c.in-Some-2.next (c.loop-lexeme.large || b) c.in-Some.rest (tree_of c.args.words))
    (sym c.is_large-large.ensures)
    (word_more c.loop-lexeme.stack.items c.step.new.stack.items c.loop-lexeme.place c.loop-lexeme.large c.loop-lexeme.left (tree_of c.args.words) _ _
    c.loop-lexeme.invariant c.in-Some.ensures _ _ c.in-Some-2.is c.in_ok-next.ensures)

pub returns-then-may_end : goal.returns-then-may_end
returns-then-may_end c =
    let whole = sym c.if-may_end.true ∙ c.may_end.ensures ∙ ap (λ xs. is_whole (reverse xs, c.loop-lexeme.place)) c.deref.ensures.value in
    at_the_end true c.loop-lexeme.stack.items c.loop-lexeme.place c.loop-lexeme.large c.loop-lexeme.left (tree_of c.args.words)
    c.loop-lexeme.invariant c.in_default.ensures whole

pub returns : goal.returns
returns c =
    let whole = sym c.if-may_end.false ∙ c.may_end.ensures ∙ ap (λ xs. is_whole (reverse xs, c.loop-lexeme.place)) c.deref.ensures.value in
    at_the_end false c.loop-lexeme.stack.items c.loop-lexeme.place c.loop-lexeme.large c.loop-lexeme.left (tree_of c.args.words)
    c.loop-lexeme.invariant c.in_default.ensures whole
