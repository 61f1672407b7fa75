use Rattle.std.proofs.Common.{◌+◌, sym, ap, ◌∙◌, subst, arith}
use Rattle.std.proofs.lemmas.Option.{slice_get_read}
use Rattle.semiring_laws.specs.Semiring.{Fits}
use Rattle.pushdown_rules.specs.RunValue.{Frame}
use Rattle.relation_laws.specs.Building.{Parts}
use Rattle.relation_weights.specs.declared.rel_map.RelMap.{RelMap}
use Rattle.relation_weights.specs.Relations.{relation_operations}
use Rattle.relation_weights.specs.RelationLaws.{relation_laws}
use Rattle.run_settings.specs.private.Walks.{ArePartial}
use Rattle.run_settings.proofs.EndLemmas.{partial_fits, partial_next, partial_push}
use Rattle.run_settings.proofs.ends.partial_products.Goals as goal

pub extend-requires-clause-right : goal.extend-requires-clause-right
extend-requires-clause-right c =
    let s = relation_operations c.args.relations.now in
    let m = c.args.machine.now in
    let k = c.loop-k.k in
    let at = slice_get_read c.loop-k.values.items (k + 1) k c.index.result.now (sym c.loop-k.invariant.count) (omega arith) c.index.ensures in
    let is = c.loop-k.invariant.each k c.index.result.now at in
    subst (Fits s) (sym is) (partial_fits s (relation_laws c.args.relations.now) m.frames m.accumulator c.requires.frames c.requires.accumulator k)

pub loop-k-preserved : goal.loop-k-preserved
loop-k-preserved c =
    let s = relation_operations c.args.relations.now in
    let m = c.args.machine.now in
    let k = c.loop-k.k in
    let at = slice_get_read c.loop-k.values.items (k + 1) k c.index.result.now (sym c.loop-k.invariant.count) (omega arith) c.index.ensures in
    let is = c.loop-k.invariant.each k c.index.result.now at in
    let f = c.call_at-call.result.now in
    let saved = ap (λ (x : Frame Parts RelMap). x.saved) c.call.view_is in
    subst (ArePartial s m.frames m.accumulator ((k + 1) + 1)) (sym c.in_ok-push-2.ensures.items)
    (partial_push s m.frames m.accumulator (k + 1) c.loop-k.values.items c.in_ok-value.value c.loop-k.invariant
    (c.in_ok-value.ensures
    ∙ ap (λ w. s.extend w c.index.result.now) saved
    ∙ ap (s.extend f.saved) is
    ∙ sym (partial_next s m.frames m.accumulator k f c.call_at-call.ensures)))
