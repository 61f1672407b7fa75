use Rattle.std.proofs.Common.{◌≡◌, ◌+◌, ◌++◌, length, drop}
use Rattle.saturation_laws.specs.Openings.{AreKept}
use Rattle.saturation_core.specs.private.Plans.{changes_with, put_from, plan_of}
use Rattle.saturation_core.proofs.plan.plan_jobs.Given as goal

abbrev pub invariant-loop-k : goal.invariant-loop-k
invariant-loop-k g l =
    (plan_of (g.S.Semiring.operations l.semiring) (changes_with l.done.jobs l.done.candidates) l.nodes l.transitions.transitions
    ≡ l.plan ++ plan_of (g.S.Semiring.operations l.semiring) (changes_with (drop l.k l.done.jobs) (drop l.k l.done.candidates)) (l.nodes + length l.plan) (put_from l.nodes l.plan l.transitions.transitions))
    × AreKept (g.S.Semiring.operations l.semiring) (put_from l.nodes l.plan l.transitions.transitions) (l.nodes + length l.plan)
