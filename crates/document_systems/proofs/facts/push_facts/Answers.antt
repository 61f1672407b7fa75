use Rattle.std.proofs.Common.{◌++◌, not, sym, ◌∙◌, subst, ap, ◌∷◌, []}
use Rattle.document_systems.specs.private.Facts.{has_effect}
use Rattle.document_systems.specs.private.Rows.{IsRow, has_some}
use Rattle.document_systems.proofs.RowLemmas.{names_below, name_passes, name_stays_out, some_now, with_name, without_name}
use Rattle.document_forms.specs.Names.{name}
use Rattle.document_systems.proofs.facts.push_facts.Goals as goal

pub loop-number-preserved-then-not-has : goal.loop-number-preserved-then-not-has
loop-number-preserved-then-not-has g c =
    let names = c.args.items.now in
    let test = has_effect g.row.N c.args.effect c.args.weight.now in
    let k = c.loop-number.number in
    let fails = sym c.has.ensures ∙ c.if-not-has.true in (
      c.loop-number.invariant.0 ∙ ap (λ ns. not (has_some ns)) (sym (name_stays_out names test k fails)),
      λ mark texts is. without_name names test k mark texts c.loop-number.row fails (c.loop-number.invariant.1 mark texts is),
    )

pub loop-number-preserved : goal.loop-number-preserved
loop-number-preserved g c =
    let names = c.args.items.now in
    let test = has_effect g.row.N c.args.effect c.args.weight.now in
    let k = c.loop-number.number in
    let passes = sym c.has.ensures ∙ c.if-not-has.false in
    let found = names_below names test k in (
      sym (ap (λ ns. not (has_some ns)) (name_passes names test k passes) ∙ ap not (some_now found (name names k))),
      λ mark texts is.
          with_name names test k mark texts c.loop-number.row c.push.new.self passes (c.loop-number.invariant.1 mark texts is)
          (λ before. subst (λ t. IsRow mark ((texts ++ found) ++ t ∷ []) c.push.new.self) c.name_of.ensures (c.in_ok-push.ensures mark (texts ++ found) before)),
    )
