use Rattle.std.proofs.Common.{◌≡◌, ◌++◌, take, drop}
use Rattle.wpds_port.specs.Tokens.{bytes_while, goes_on_name}
use Rattle.wpds_port.proofs.cutting.name_len.Given as goal

abbrev pub invariant-loop-b : goal.invariant-loop-b
invariant-loop-b l = record { count : l.n ≡ l.b-index; bytes : take l.n l.text ++ bytes_while goes_on_name (drop l.n l.text) ≡ bytes_while goes_on_name l.text }
