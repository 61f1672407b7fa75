use Rattle.std.proofs.Common.{◌≡◌, rules, sym, ap, ◌∙◌, subst, ◌∷◌, [], ◌++◌}
use Rattle.std.specs.Prelude.{Some, option_map}
use Rattle.key_rows.specs.Rows.{AreLinked}
use Rattle.key_rows.specs.Cells.{ends_in, row_number, with_ends, get}
use Rattle.key_rows.specs.declared.rows.Ends.{Ends}
use Rattle.key_rows.proofs.RowLemmas.{first_of}
use Rattle.key_rows.proofs.CellLemmas.{rows_push, cell_kept}
use Rattle.key_rows.proofs.RowNumbers.{get_set, says, written_ends, content}
use Rattle.key_rows.proofs.rows.link.Goals as goal
use Rattle.key_rows.proofs.rows.link.Goals.{in-Some-ends, in-None}

pub returns-clause-rows : goal.returns-clause-rows
returns-clause-rows g c = λ ks before.
    let ends : Ends = record { first = c.match-row.first; last = c.len-number.result } in
    let number : row_number g.K.Ord.cmp c.args.key c.args.cells.now.members ≡ Some c.in-Some.k = sym c.find_made.ensures.number ∙ c.in-Some.is in
    let written : c.replace.new.self.members ≡ with_ends c.in-Some.k ends c.args.cells.now.members =
    c.replace.ensures.members ∙ written_ends c.args.cells.now.members c.in-Some.k ends c.get-row.result.now c.get-row.ensures in
    subst (AreLinked g.K.Ord.cmp (ks ++ Some c.args.key ∷ []) c.replace.new.self.members) (sym c.push_reserved.ensures.items)
    (rows_push g.K.Ord.cmp g.met.K.Ord.total ks c.args.key c.args.cells.now.members c.replace.new.self.members c.args.gaps.now.items before c.match-row.first c.len-number.result c.get-row.result.now.ends c.put_gap.new.gaps.items
    (search rules)
    (sym (ap content (says g.K.Ord.cmp c.args.cells.now.members c.args.key c.in-Some.k c.get-row.result.now.ends number (ap (option_map ends_in) c.get-row.ensures))))
    (elim c.match-row.branch [
      | in-Some-ends w ↦ w.first-is ∙ ap (λ o. first_of o c.len-number.result) (sym w.in-Some-ends.is)
      | in-None w ↦ w.first-is ∙ ap (λ o. first_of o c.len-number.result) (sym w.in-None.is)
    ])
    (λ s. ap (λ rs. get g.K.Ord.cmp rs s) written ∙ get_set g.K.Ord.cmp g.met.K.Ord.total c.args.cells.now.members c.args.key c.in-Some.k ends number s)
    c.put_gap.ensures.gaps)

pub returns-clause-kept : goal.returns-clause-kept
returns-clause-kept g c = λ k had.
    let ends : Ends = record { first = c.match-row.first; last = c.len-number.result } in
    let number : row_number g.K.Ord.cmp c.args.key c.args.cells.now.members ≡ Some c.in-Some.k = sym c.find_made.ensures.number ∙ c.in-Some.is in
    let written : c.replace.new.self.members ≡ with_ends c.in-Some.k ends c.args.cells.now.members =
    c.replace.ensures.members ∙ written_ends c.args.cells.now.members c.in-Some.k ends c.get-row.result.now c.get-row.ensures in
    cell_kept g.K.Ord.cmp c.args.cells.now.members c.replace.new.self.members c.args.key k (Some ends)
    (ap (λ rs. get g.K.Ord.cmp rs k) written ∙ get_set g.K.Ord.cmp g.met.K.Ord.total c.args.cells.now.members c.args.key c.in-Some.k ends number k) had
