use Rattle.std.proofs.Common.{[], sym, ap, ◌∙◌}
use Rattle.saturation_core.specs.private.Plans.{put_all}
use Rattle.saturation_core.specs.private.Steps.{with_hands}
use Rattle.saturation_core.proofs.PlanEqualsApply.{next_place, step_on, with_front}
use Rattle.saturation_core.proofs.found.Found.lower_all.Goals as goal

pub lower-requires-clause-place : goal.lower-requires-clause-place
lower-requires-clause-place g c =
    next_place c.in-Some.step c.pop_front.new.self.items _ c.steps.self _
    (with_front c.steps.rest.items c.pop_front.new.self.items c.in-Some.step _ c.steps.self _ c.in-Some.ensures.items c.steps.invariant.1)

pub steps-preserved : goal.steps-preserved
steps-preserved g c =
    let now = with_front c.steps.rest.items c.pop_front.new.self.items c.in-Some.step _ c.steps.self _ c.in-Some.ensures.items c.steps.invariant.1 in (
      λ hands. ap (put_all c.pop_front.new.self.items) (c.lower.ensures.state hands)
          ∙ ap (λ ls. put_all ls (with_hands c.steps.self hands)) (sym c.in-Some.ensures.items)
          ∙ c.steps.invariant.0 hands,
      step_on c.in-Some.step c.pop_front.new.self.items _ c.steps.self _ now c.lower.new.self
          c.lower.ensures.room (ap (λ st. st.nodes) (c.lower.ensures.state [])) c.lower.ensures.spare c.lower.ensures.side c.lower.ensures.queue c.lower.ensures.marks,
    )
