use Rattle.std.proofs.Common.{◌≡◌, map}
use Rattle.boolean_syntax.specs.private.Opened.{proc_now}
use Rattle.boolean_syntax.proofs.procs.Procs.into_list.Given as goal

-- The list has the procedures so far.
abbrev pub invariant-loop-open : goal.invariant-loop-open
invariant-loop-open l = l.list.items ≡ map proc_now l.yielded
