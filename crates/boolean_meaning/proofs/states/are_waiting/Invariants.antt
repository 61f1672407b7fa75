use Rattle.std.proofs.Common.{◌≡◌, ◌-◌, length, drop}
use Rattle.boolean_programs.specs.Programs.{program_of}
use Rattle.boolean_meaning.specs.private.HeldTests.{are_held_waiting}
use Rattle.boolean_meaning.proofs.states.are_waiting.Given as goal

abbrev pub decreases-loop-place : goal.decreases-loop-place
decreases-loop-place l = length l.frames - l.place

abbrev pub invariant-loop-place : goal.invariant-loop-place
invariant-loop-place l = are_held_waiting (program_of l.program) l.callee (drop l.place l.frames) ≡ are_held_waiting (program_of l.program) l.fn.callee (drop 1 l.frames)
