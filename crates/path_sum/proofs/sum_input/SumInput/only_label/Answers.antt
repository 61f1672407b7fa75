use Rattle.std.proofs.Common.{sym, ap, ◌∙◌, subst, arith, length, ◌≤◌}
use Rattle.std.specs.Prelude.{slice_get}
use Rattle.std.proofs.lemmas.Option.{IfSome_then}
use Rattle.path_sum.specs.Sums.{ways_of}
use Rattle.path_sum.specs.private.Work.{ReadsAlone}
use Rattle.path_sum.proofs.ReadLemmas.{nothing_past, one_alone}
use Rattle.path_sum.proofs.sum_input.SumInput.only_label.Goals as goal

pub returns-then-state-items : goal.returns-then-state-items
returns-then-state-items g c =
    let p = c.args.self.now.pattern in
    let past : length p.items ≤ c.args.state = omega (arith, c.if-state-items.true, c.items.ensures.count) in
    nothing_past p c.items.ensures.valid c.args.state (λ y at. sym c.if-reads_on.false ∙ c.reads_on.ensures y at) past

pub returns : goal.returns
returns g c =
    let p = c.args.self.now.pattern in
    let i = c.args.state in
    let y = c.item.result.now in
    let there = sym (ap (λ v. slice_get v.pattern.items i) c.self.view_is) ∙ c.item.ensures.item in
    IfSome_then c.one_symbol.result c.one_symbol.ensures (λ l is.
    subst (ReadsAlone (ways_of p).edges i) (sym is.2)
    (one_alone p c.items.ensures.valid i (λ z at. sym c.if-reads_on.false ∙ c.reads_on.ensures z at) y is.1 there is.0 is.3))
