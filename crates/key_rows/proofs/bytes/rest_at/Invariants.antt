use Rattle.std.proofs.Common.{◌≡◌, drop}
use Rattle.key_rows.specs.Keys.{spelled}
use Rattle.key_rows.proofs.bytes.rest_at.Given as goal

abbrev pub invariant-loop-i : goal.invariant-loop-i
invariant-loop-i l = spelled l.word (drop l.i l.bytes) ≡ spelled 1 (drop l.fn.start l.bytes)
