use Rattle.std.proofs.Common.{◌+◌, ◌++◌, ◌∷◌, [], ap, ◌∙◌, arith}
use Rattle.saturation_laws.specs.declared.opening.Opening.{Opening}
use Rattle.pattern_openings.specs.JointOpenings.{joint_edges, joint_finals, items_of}
use Rattle.pattern_openings.proofs.JointLemmas.{edges_next, finals_next, items_next}
use Rattle.pattern_openings.proofs.joint.joint_opening.Goals as goal

pub loop-pattern-preserved : goal.loop-pattern-preserved
loop-pattern-preserved c =
    let patterns = c.args.patterns.now in
    let l = c.loop-pattern in
    let d = c.pattern-item.result in
    let few = c.items-states.ensures.limit in
    let so_far = l.invariant.few in
    record {
      few = omega (arith, few, so_far);
      states = items_next l.states c.items-states.result l.pattern-index patterns d (c.args.first + items_of patterns)
          c.loop-pattern-test.true c.pattern-item.is c.items-states.ensures.value l.invariant.states;
      edges = edges_next l.states c.items-states.result l.pattern-index patterns d l.edges.items c.extend_from_slice.new.self.items (joint_edges c.args.first patterns)
          c.loop-pattern-test.true c.pattern-item.is c.items-states.ensures.value l.invariant.edges
          (c.in_ok-extend_from_slice.ensures.items ∙ ap (λ ys. l.edges.items ++ ys) (c.as_slice.ensures ∙ ap (λ (o : Opening). o.edges) c.in_ok-opening.ensures));
      finals = finals_next l.states c.items-states.result l.pattern-index patterns d l.finals.items c.push.new.self.items (joint_finals c.args.first patterns)
          c.loop-pattern-test.true c.pattern-item.is c.items-states.ensures.value l.invariant.finals
          (c.in_ok-push.ensures.items ∙ ap (λ (o : Opening). l.finals.items ++ o.finals ∷ []) c.in_ok-opening.ensures);
    }
