use Rattle.std.proofs.Common.{◌≡◌, ◌<◌, ℕ, ◌+◌, Bool, true, false, List, [], ◌∷◌, ◌++◌, length, set, refl, sym, ap, ◌∙◌, subst, arith}
use Rattle.std.specs.Prelude.{Some, None, IfSome, slice_get}
use Rattle.std.proofs.Common.{rules}
use Rattle.std.proofs.lemmas.Grind.{common_steps}
use Rattle.weight_tables.proofs.CellLemmas.{waits-cleared, length-waits}
use Rattle.weight_tables.proofs.MarkLemmas.{marked_pop, first_marked, marked_there, marked_within}
use Rattle.weight_tables.specs.private.Marks.{AreMarked}
use Rattle.weight_tables.specs.private.Cells.{waits_in, cleared}
use Rattle.std.proofs.lemmas.Option.{slice_get_within}
use Rattle.weight_tables.proofs.cell.take_cell.Goals as goal

pub clear_cell-requires : goal.clear_cell-requires
clear_cell-requires g c =
    let items : c.args.waiting.now.items ≡ c.in_ok-t.t ∷ c.pop_front.new.self.items = c.in_ok-t.ensures.items in
    let marked = subst (λ q. AreMarked q (waits_in c.args.cells.now.items)) items c.requires in
    let below : c.in_ok-t.t < length c.args.cells.now.items = subst (λ n. c.in_ok-t.t < n) (length-waits c.args.cells.now.items) (marked_within (waits_in c.args.cells.now.items) c.in_ok-t.t (first_marked c.in_ok-t.t c.pop_front.new.self.items (waits_in c.args.cells.now.items) marked)) in
    subst (λ n. c.in_ok-t.t < n) (ap length (sym c.deref_mut.ensures.value)) below

pub returns-clause-waited : goal.returns-clause-waited
returns-clause-waited g c =
    let items : c.args.waiting.now.items ≡ c.in_ok-t.t ∷ c.pop_front.new.self.items = c.in_ok-t.ensures.items in
    let marked = subst (λ q. AreMarked q (waits_in c.args.cells.now.items)) items c.requires in
    marked_there (waits_in c.args.cells.now.items) c.in_ok-t.t (first_marked c.in_ok-t.t c.pop_front.new.self.items (waits_in c.args.cells.now.items) marked)

pub returns-clause-cells : goal.returns-clause-cells
returns-clause-cells g c = first_of (search rules, grind (arith, common_steps))

pub returns-clause-marked : goal.returns-clause-marked
returns-clause-marked g c =
    let items : c.args.waiting.now.items ≡ c.in_ok-t.t ∷ c.pop_front.new.self.items = c.in_ok-t.ensures.items in
    let marked = subst (λ q. AreMarked q (waits_in c.args.cells.now.items)) items c.requires in
    subst (AreMarked _) (sym (ap waits_in (returns-clause-cells g c) ∙ waits-cleared c.in_ok-t.t c.args.cells.now.items))
    (marked_pop c.in_ok-t.t c.pop_front.new.self.items (waits_in c.args.cells.now.items) marked)

pub returns-in_err-t-clause-marked : goal.returns-in_err-t-clause-marked
returns-in_err-t-clause-marked g c = subst (λ q. AreMarked q (waits_in c.args.cells.now.items)) c.in_err-t.ensures.items c.requires
