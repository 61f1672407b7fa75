use Rattle.std.proofs.Common.{◌≡◌, Bool, false, ◌||◌, ◌&&◌, get_or, refl, ◌∙◌, arith}
use Rattle.config_patterns.proofs.SetTestLemmas.{or_then, or_else, and_then, and_else}
use Rattle.config_patterns.proofs.PlaceLemmas.{end_turn}
use Rattle.config_patterns.proofs.matching.may_end.Goals as goal
use Rattle.config_patterns.proofs.matching.may_end.Goals.{then-reached, else-reached, then-places-i, else-places-i}

pub loop-i-preserved : goal.loop-i-preserved
loop-i-preserved c =
    let items = c.args.items.now in
    let places = c.args.places.now in
    let i = c.loop-i.i in
    let x = c.index-items-i.result in
    let b : Bool = get_or places i false in
    let value : c.if-reached.value ≡ (c.loop-i.reached || b) =
    elim c.if-reached.branch [ then-reached w ↦ or_then c.loop-i.reached b c.if-reached.value w.if-reached.true (w.value-is ∙ w.if-reached.true) | else-reached w ↦ or_else c.loop-i.reached b c.if-reached.value w.if-reached.false w.value-is ] in
    let after : c.if-places-i.reached ≡ (c.if-reached.value && x.star) =
    elim c.if-places-i.branch [ then-places-i w ↦ and_then c.if-reached.value x.star c.if-places-i.reached w.if-places-i.true w.reached-is | else-places-i w ↦ and_else c.if-reached.value x.star c.if-places-i.reached w.if-places-i.false (w.reached-is ∙ w.if-places-i.false) ] in
    end_turn c.loop-i.reached c.if-places-i.reached items places i x b c.if-reached.value _ c.loop-i-test.true (omega arith) c.index-items-i.is refl value after c.loop-i.invariant
