use Rattle.std.proofs.Common.{Bool, List, sym, ◌∙◌, subst}
use Rattle.semiring_laws.specs.Semiring.{FitsMap}
use Rattle.pushdown_rules.specs.RunValue.{Frame}
use Rattle.diagram_store.specs.Meaning.{bits_of}
use Rattle.relation_laws.specs.Building.{Parts}
use Rattle.relation_weights.specs.declared.rel_map.RelMap.{RelMap}
use Rattle.relation_weights.specs.Relations.{relation_operations}
use Rattle.run_settings.specs.private.Links.{Joins}
use Rattle.run_settings.proofs.JoinLemmas.{fits_here, made_product, product_fits, return_fits, cut_made, cut_return}
use Rattle.run_settings.proofs.returns.before_return.Goals as goal

pub after-requires-clause-weight : goal.after-requires-clause-weight
after-requires-clause-weight c =
    let m = c.args.relations.now in
    let w = c.in_ok-whole.whole in
    fits_here m c.args.n c.requires.n w (product_fits m c.args.n c.requires.n c.args.value.now c.args.weight.now w c.requires.value c.requires.weight c.in_ok-whole.ensures)

pub pick_middle-requires-clause-second : goal.pick_middle-requires-clause-second
pick_middle-requires-clause-second c =
    let m = c.args.relations.now in
    let w = c.in_ok-whole.whole in
    return_fits m c.args.n c.requires.n c.call.inside.map.now w c.in_ok-returned.returned
    (subst (λ (f : Frame Parts RelMap). FitsMap (relation_operations c.args.n) f.map) (sym c.call.view_is) c.requires.map)
    (product_fits m c.args.n c.requires.n c.args.value.now c.args.weight.now w c.requires.value c.requires.weight c.in_ok-whole.ensures)
    c.in_ok-returned.ensures

pub pick_middle-requires-clause-there : goal.pick_middle-requires-clause-there
pick_middle-requires-clause-there c =
    cut_return c.args.relations.now c.args.n c.requires.n c.args.call.now (record { saved = c.call.inside.saved; map = c.call.inside.map.now }) c.args.value.now c.args.weight.now c.in_ok-whole.whole c.in_ok-returned.returned
    c.call.view_is c.requires.saved c.requires.map c.requires.value c.requires.weight c.in_ok-whole.ensures c.in_ok-returned.ensures
    (bits_of c.args.below.now) (bits_of c.args.behind.now) c.requires.joins

pub ended-requires-clause-value : goal.ended-requires-clause-value
ended-requires-clause-value c =
    let w = c.in_ok-whole.whole in
    product_fits c.args.relations.now c.args.n c.requires.n c.args.value.now c.args.weight.now w c.requires.value c.requires.weight c.in_ok-whole.ensures

pub pick_middle-requires-2-clause-there : goal.pick_middle-requires-2-clause-there
pick_middle-requires-2-clause-there c =
    let n = c.args.n in
    let w = c.in_ok-whole.whole in
    let joins = c.in_ok-ended.ensures.joins in
    cut_made n c.args.value.now c.args.weight.now w c.requires.value c.requires.weight
    (made_product c.args.relations.now n c.requires.n c.args.value.now c.args.weight.now w c.in_ok-whole.ensures)
    (bits_of c.as_slice-2.result.now) (bits_of c.as_slice-3.result.now)
    (subst (λ (y : List Bool). Joins w y c.as_slice-3.result.now) (c.as_slice.ensures ∙ sym c.as_slice-2.ensures)
    (subst (λ (z : List Bool). Joins w c.as_slice.result.now z) (sym c.as_slice-3.ensures) joins))
