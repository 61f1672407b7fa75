use Rattle.std.proofs.Common.{◌≡◌, ◌*◌, drop}
use Rattle.std.specs.Prelude.{bytes_eq}
use Rattle.key_rows.proofs.bytes.same_bytes.Given as goal

abbrev pub invariant-loop-k : goal.invariant-loop-k
invariant-loop-k l = bytes_eq (drop (8 * l.k) l.a) (drop (8 * l.k) l.b) ≡ bytes_eq l.a l.b
