use Rattle.std.proofs.Common.{◌≡◌, ◌<◌, ◌^◌, drop}
use Rattle.truth_tables.specs.Grammar.{number_of, number_onto}
use Rattle.rule_reader.proofs.digits.number.Given as goal

abbrev pub invariant-loop-digit : goal.invariant-loop-digit
invariant-loop-digit l = record {
  narrow : l.number < 2 ^ 64;
  same : number_onto l.number (drop l.digit-index l.digits) ≡ number_of l.digits;
}
