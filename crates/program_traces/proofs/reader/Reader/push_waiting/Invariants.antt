use Rattle.std.proofs.Common.{◌≡◌, ◌+◌, ◌++◌, map, drop, reverse}
use Rattle.diagram_store.specs.Meaning.{bits_of}
use Rattle.boolean_meaning.specs.HeldStates.{held_frame}
use Rattle.lowering_laws.specs.States.{waiting_of}
use Rattle.program_traces.specs.private.Readers.{program_in}
use Rattle.program_traces.proofs.reader.Reader.push_waiting.Given as goal

abbrev pub invariant-loop-place : goal.invariant-loop-place
invariant-loop-place l =
    l.frames.items ++ map held_frame (waiting_of (program_in l.self) (drop (l.place + 1) l.stack.stack) (drop l.place (map bits_of (reverse l.saved))))
    ≡ l.fn.frames.items ++ map held_frame (waiting_of (program_in l.self) (drop 1 l.stack.stack) (map bits_of (reverse l.saved)))
