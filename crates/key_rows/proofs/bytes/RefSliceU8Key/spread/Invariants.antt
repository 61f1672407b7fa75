use Rattle.std.proofs.Common.{◌≡◌, ◌*◌, drop}
use Rattle.key_rows.specs.Keys.{first_mixed, bytes_mixed}
use Rattle.key_rows.proofs.bytes.RefSliceU8Key.spread.Given as goal

abbrev pub invariant-loop-k : goal.invariant-loop-k
invariant-loop-k l = bytes_mixed l.hash (drop (8 * l.k) l.self) ≡ bytes_mixed (first_mixed l.round) l.self
