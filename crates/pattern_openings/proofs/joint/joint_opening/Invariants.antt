use Rattle.std.proofs.Common.{◌≡◌, ◌++◌, ◌+◌, ◌*◌, ◌≤◌, drop}
use Rattle.pattern_openings.specs.JointOpenings.{joint_edges, joint_finals, items_of}
use Rattle.pattern_openings.proofs.joint.joint_opening.Given as goal

abbrev pub invariant-loop-pattern : goal.invariant-loop-pattern
invariant-loop-pattern l = record {
  few : l.states ≤ l.first + 1000 * l.pattern-index;
  states : l.states + items_of (drop l.pattern-index l.patterns) ≡ l.first + items_of l.patterns;
  edges : l.edges.items ++ joint_edges l.states (drop l.pattern-index l.patterns) ≡ joint_edges l.first l.patterns;
  finals : l.finals.items ++ joint_finals l.states (drop l.pattern-index l.patterns) ≡ joint_finals l.first l.patterns;
}
