use Rattle.std.proofs.Common.{◌≡◌, true, false, length, get_or, sym, ap, ◌∙◌, arith}
use Rattle.std.specs.Prelude.{Some}
use Rattle.key_rows.specs.Rows.{index_where}
use Rattle.weighted_automata.specs.Places.{has_place}
use Rattle.saturation_core.proofs.GoalLemmas.{is_of, has_first, place_added, place_passed}
use Rattle.saturation_core.proofs.plan.Plan.goals.Goals as goal
use Rattle.saturation_core.proofs.plan.Plan.goals.Goals.{then-is_first+in_ok-push, else-is_first}

pub loop-k-preserved : goal.loop-k-preserved
loop-k-preserved g c =
    let ls = c.args.self.now in
    let k = c.loop-k.k in
    let d = c.step-item.result in
    let read : d ≡ get_or ls k d = c.step-item.is ∙ ap (λ ms. get_or ms k d) (c.deref-step-items.ensures.value ∙ c.self.view_is) in
    elim c.if-is_first.branch [
      | then-is_first+in_ok-push w ↦ λ x j first less.
          ap (λ v. has_place x v.items) w.places-is
          ∙ ap (has_place x) w.in_ok-push.ensures.items
          ∙ place_added ls k d read c.loop-k.places.items c.loop-k.invariant x j first less
      | else-is_first w ↦ λ x j first less.
          let other : index_where (is_of d.goal) ls ≡ Some k → ⊥ = λ e. let f : true ≡ false = sym (c.is_first.ensures.1 e) ∙ w.if-is_first.false in cc in
          ap (λ v. has_place x v.items) w.places-is
          ∙ place_passed ls k d read c.loop-k.places.items c.loop-k.invariant other x j first less
    ]

pub returns : goal.returns
returns g c = λ x named.
    let there = has_first x c.args.self.now named in
    c.loop-k.invariant x there.0 there.1 (omega (arith, there.2, c.loop-k-test.false, ap length (c.deref-step-items.ensures.value ∙ c.self.view_is)))
