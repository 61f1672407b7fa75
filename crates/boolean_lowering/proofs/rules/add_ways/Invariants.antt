use Rattle.std.proofs.Common.{take, map}
use Rattle.lowering_laws.specs.Lowering.{jump_rule}
use Rattle.boolean_lowering.specs.private.Ways.{way_of}
use Rattle.boolean_lowering.specs.private.Made.{program_in, AreAdded}
use Rattle.boolean_lowering.proofs.rules.add_ways.Given as goal

abbrev pub invariant-loop-way : goal.invariant-loop-way
invariant-loop-way l = AreAdded (program_in l.making) l.initial.system l.system (map (jump_rule (program_in l.making) l.head) (map way_of (take l.way-index l.ways)))
