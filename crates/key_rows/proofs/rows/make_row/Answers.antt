use Rattle.std.proofs.Common.{ap, sym, subst}
use Rattle.key_rows.specs.Cells.{cell, ContainsKey}
use Rattle.key_rows.proofs.RowNumbers.{made_unless, if_ok, either_way}
use Rattle.key_rows.proofs.rows.make_row.Goals as goal

pub returns-clause-cells : goal.returns-clause-cells
returns-clause-cells g c = λ k.
    either_way c.make.result c.make.ensures.members c.make.ensures.stays
    (λ made. (made_unless g.K.Ord.cmp g.met.K.Ord.total c.args.cells.now.members c.make.new.self.members c.args.key made).cells k)
    (λ stays. ap (λ rs. cell g.K.Ord.cmp rs k) stays)

pub returns-clause-kept : goal.returns-clause-kept
returns-clause-kept g c = λ k had.
    either_way c.make.result c.make.ensures.members c.make.ensures.stays
    (λ made. (made_unless g.K.Ord.cmp g.met.K.Ord.total c.args.cells.now.members c.make.new.self.members c.args.key made).kept k had)
    (λ stays. subst (λ rs. ContainsKey g.K.Ord.cmp rs k) (sym stays) had)

pub returns-clause-made : goal.returns-clause-made
returns-clause-made g c =
    if_ok c.make.result c.make.ensures.members
    (λ made. (made_unless g.K.Ord.cmp g.met.K.Ord.total c.args.cells.now.members c.make.new.self.members c.args.key made).there)
