use Rattle.std.proofs.Common.{◌≡◌, ◌++◌, take, drop}
use Rattle.wpds_port.specs.Tokens.{bytes_while, is_digit}
use Rattle.wpds_port.proofs.cutting.digits_len.Given as goal

abbrev pub invariant-loop-b : goal.invariant-loop-b
invariant-loop-b l = record { count : l.n ≡ l.b-index; bytes : take l.n l.text ++ bytes_while is_digit (drop l.n l.text) ≡ bytes_while is_digit l.text }
