use Rattle.std.proofs.Common.{◌≡◌, ◌<◌, ℕ, ◌+◌, Bool, true, false, List, [], ◌∷◌, ◌++◌, length, set, refl, sym, ap, ◌∙◌, subst, arith}
use Rattle.std.specs.Prelude.{Some, None, IfSome, slice_get}
use Rattle.std.proofs.Common.{rules}
use Rattle.std.proofs.lemmas.Grind.{common_steps}
use Rattle.weight_tables.proofs.CellLemmas.{waits-written, length-waits}
use Rattle.weight_tables.proofs.MarkLemmas.{marked_stay, marked_push}
use Rattle.weight_tables.specs.private.Marks.{AreMarked}
use Rattle.weight_tables.specs.private.Cells.{waits_in, written}
use Rattle.std.specs.Prelude.{slice_index_or}
use Rattle.weight_tables.proofs.cell.write_cell.Goals as goal

pub returns-then-set_cell-clause-cells : goal.returns-then-set_cell-clause-cells
returns-then-set_cell-clause-cells g c = first_of (search rules, grind (arith, common_steps))

pub returns-then-set_cell-clause-marked : goal.returns-then-set_cell-clause-marked
returns-then-set_cell-clause-marked g c =
    let there : slice_index_or (waits_in c.args.cells.now.items) c.args.t false ≡ true = first_of (search rules, grind (arith, common_steps)) in
    subst (AreMarked _) (sym (ap waits_in (returns-then-set_cell-clause-cells g c) ∙ waits-written c.args.t c.args.weight c.args.cells.now.items))
    (marked_stay c.args.t c.args.waiting.now.items (waits_in c.args.cells.now.items) c.requires.marked there)

pub returns-clause-cells : goal.returns-clause-cells
returns-clause-cells g c = first_of (search rules, grind (arith, common_steps))

pub returns-clause-marked : goal.returns-clause-marked
returns-clause-marked g c =
    let none : slice_index_or (waits_in c.args.cells.now.items) c.args.t false ≡ false = first_of (search rules, grind (arith, common_steps)) in
    let absent = sym (c.requires.marked.marks c.args.t) ∙ none in
    let below : c.args.t < length (waits_in c.args.cells.now.items) = subst (λ n. c.args.t < n) (sym (length-waits c.args.cells.now.items)) c.requires.number in
    subst (AreMarked _) (sym (ap waits_in (returns-clause-cells g c) ∙ waits-written c.args.t c.args.weight c.args.cells.now.items))
    (subst (λ q. AreMarked q (set (waits_in c.args.cells.now.items) c.args.t true)) (sym c.push_back_reserved.ensures.items)
    (marked_push c.args.t c.args.waiting.now.items (waits_in c.args.cells.now.items) c.requires.marked below absent))
