use Rattle.std.proofs.Common.{◌-◌, ◌≤◌, length, take}
use Rattle.query_answers.specs.private.Answered.{AreAnswered}
use Rattle.query_answers.proofs.joint.joint_values.Given as goal

abbrev pub invariant-loop-place : goal.invariant-loop-place
invariant-loop-place g l = (l.place ≤ length l.tos) × AreAnswered g.S.Semiring.operations l.system l.from (take l.place l.tos) l.values.items

abbrev pub decreases-loop-place : goal.decreases-loop-place
decreases-loop-place g l = length l.tos - l.place
