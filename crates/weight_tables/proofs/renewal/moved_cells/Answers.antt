use Rattle.std.proofs.Common.{◌≡◌, ◌+◌, List, [], ◌∷◌, ◌++◌, take, sym, ap, ◌∙◌, subst}
use Rattle.std.proofs.lemmas.List.{take_more, take_all}
use Rattle.weight_tables.specs.declared.cell.Cell.{Cell}
use Rattle.weight_tables.specs.private.Renewed.{AreMoved}
use Rattle.weight_tables.proofs.RenewalLemmas.{grows_itself, grows_then, known_in, moved_grown, moved_next, none_moved}
use Rattle.weight_tables.proofs.renewal.moved_cells.Goals as goal

pub loop-cell-init : goal.loop-cell-init
loop-cell-init g c = record {
  grows = grows_itself c.args.into.now;
  moved = none_moved (g.M.Weigher.Knows c.args.into.now) (g.M.Weigher.worth c.args.from.now) (g.M.Weigher.worth c.args.into.now) c.new-list.result.items c.new-list.ensures.items;
}

pub moved_cell-requires-clause-weight : goal.moved_cell-requires-clause-weight
moved_cell-requires-clause-weight g c =
    subst (λ (d : Cell _). g.M.Weigher.Knows c.args.from.now d.weight) (sym c.cell-item.is)
    (known_in (g.M.Weigher.Knows c.args.from.now) c.args.cells.now c.loop-cell.cell-index c.cell-item.result c.requires.cells c.loop-cell-test.true)

pub loop-cell-preserved : goal.loop-cell-preserved
loop-cell-preserved g c =
    let k = c.loop-cell.cell-index in
    let before = g.M.Weigher.worth c.args.from.now in
    let after = g.M.Weigher.worth c.moved_cell.new.into in
    let more : take (k + 1) c.args.cells.now ≡ take k c.args.cells.now ++ c.cell-item.result ∷ [] =
    take_more c.args.cells.now k c.cell-item.result c.loop-cell-test.true ∙ ap (λ d. take k c.args.cells.now ++ d ∷ []) (sym c.cell-item.is) in
    record {
      grows = grows_then c.args.into.now c.loop-cell.into c.moved_cell.new.into c.loop-cell.invariant.grows c.moved_cell.ensures.grows;
      moved = moved_next (g.M.Weigher.Knows c.moved_cell.new.into) before after (take k c.args.cells.now) c.loop-cell.list.items c.cell-item.result c.in_ok-next.next
          (moved_grown before c.loop-cell.into c.moved_cell.new.into c.moved_cell.ensures.grows (take k c.args.cells.now) c.loop-cell.list.items c.loop-cell.invariant.moved)
          c.in_ok-next.ensures.known c.in_ok-next.ensures.worth (take (k + 1) c.args.cells.now) c.push.new.self.items more c.in_ok-push.ensures.items;
    }

pub returns-clause-moved : goal.returns-clause-moved
returns-clause-moved g c =
    subst (λ cs. AreMoved (g.M.Weigher.Knows c.loop-cell.into) (g.M.Weigher.worth c.args.from.now) (g.M.Weigher.worth c.loop-cell.into) cs c.loop-cell.list.items)
    (take_all c.loop-cell.cell-index c.args.cells.now c.loop-cell-test.false) c.loop-cell.invariant.moved
