use Rattle.std.proofs.Common.{sym, ◌∙◌, refl}
use Rattle.saturation_laws.proofs.CallerLemmas.{none_more, none_at_all, some_there, not_some}
use Rattle.saturation_core.proofs.hands.none_out.Goals as goal

pub loop-h-preserved : goal.loop-h-preserved
loop-h-preserved g c =
    none_more c.args.out.now c.loop-h.h-index c.h-item.result c.loop-h.invariant c.h-item.is c.loop-h-test.true (not_some c.h-item.result (sym c.is_some.ensures ∙ c.if-is_some.false))

pub returns-then-is_some : goal.returns-then-is_some
returns-then-is_some g c =
    (λ e. cc, λ none. absurd (some_there c.args.out.now c.loop-h.h-index c.h-item.result c.h-item.is c.loop-h-test.true (sym c.is_some.ensures ∙ c.if-is_some.true) none))

pub returns : goal.returns
returns g c = (λ _. none_at_all c.args.out.now c.loop-h.h-index c.loop-h.invariant c.loop-h-test.false, λ _. refl)
