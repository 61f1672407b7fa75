use Rattle.std.proofs.Common.{◌≡◌, [], ◌++◌, take, drop, reverse, map}
use Rattle.line_jumps.specs.Jumps.{others}
use Rattle.boolean_programs.specs.Lines.{instructions}
use Rattle.boolean_lowering.specs.private.Spots.{instruction_of}
use Rattle.boolean_lowering.proofs.spot.push_body.Given as goal

abbrev pub invariant-loop-place : goal.invariant-loop-place
invariant-loop-place l = record {
  spots : map instruction_of l.initial.spots.items ++ instructions l.procedure [] l.body ≡ map instruction_of l.spots.items ++ instructions l.procedure (reverse (take l.place l.body)) (drop l.place l.body);
  jumps : drop l.place l.jumps ≡ others (reverse (take l.place l.body)) (drop l.place l.body);
}
