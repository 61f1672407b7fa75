use Rattle.std.proofs.Common.{◌≡◌}
use Rattle.diagram_store.specs.Meaning.{bits_of}
use Rattle.boolean_meaning.specs.Bits.{number_of}
use Rattle.program_traces.proofs.ShownLemmas.{highest}
use Rattle.program_traces.proofs.shown.number_at.Given as goal

abbrev pub invariant-loop-done : goal.invariant-loop-done
invariant-loop-done l = l.number ≡ number_of (highest (bits_of l.setting) l.from l.count l.done)
