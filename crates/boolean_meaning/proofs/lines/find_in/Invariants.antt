use Rattle.std.proofs.Common.{◌≡◌, []}
use Rattle.boolean_programs.specs.Lines.{instructions}
use Rattle.boolean_meaning.specs.private.Spots.{found_in}
use Rattle.boolean_meaning.proofs.SpotLemmas.{from_place}
use Rattle.boolean_meaning.proofs.lines.find_in.Given as goal

abbrev pub invariant-loop-place : goal.invariant-loop-place
invariant-loop-place l = found_in (instructions l.procedure [] l.body) l.number ≡ found_in (from_place l.procedure l.body l.place) l.number
