use Rattle.std.proofs.Common.{◌≡◌, ◌≤◌, drop}
use Rattle.truth_tables.specs.Grammar.{number_of, number_onto}
use Rattle.truth_tables.proofs.numbers.table_number.Given as goal

abbrev pub invariant-loop-digit : goal.invariant-loop-digit
invariant-loop-digit l = record { small : l.number ≤ l.most; same : number_onto l.number (drop l.digit-index l.digits) ≡ number_of l.digits }
