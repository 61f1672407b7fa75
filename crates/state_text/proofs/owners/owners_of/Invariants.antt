use Rattle.std.proofs.Common.{◌≡◌, ◌++◌, drop}
use Rattle.state_text.specs.private.Owners.{owners_from}
use Rattle.state_text.proofs.owners.owners_of.Given as goal

abbrev pub invariant-loop-place : goal.invariant-loop-place
invariant-loop-place l = owners_from 0 l.program.procs ≡ l.owners.items ++ owners_from l.place (drop l.place l.program.procs)
