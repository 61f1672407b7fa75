use Rattle.std.proofs.Common.{◌≡◌, drop}
use Rattle.std.specs.Prelude.{bytes_eq}
use Rattle.key_rows.proofs.bytes.same_rest.Given as goal

abbrev pub invariant-loop-i : goal.invariant-loop-i
invariant-loop-i l = bytes_eq (drop l.i l.a) (drop l.i l.b) ≡ bytes_eq (drop l.fn.start l.a) (drop l.fn.start l.b)
