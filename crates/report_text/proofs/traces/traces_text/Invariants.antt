use Rattle.std.proofs.Common.{◌≡◌, take}
use Rattle.std.specs.Prelude.{string_bytes}
use Rattle.std.specs.List.{flat_map}
use Rattle.report_text.specs.Traces.{run_line}
use Rattle.report_text.proofs.traces.traces_text.Given as goal

abbrev pub invariant-loop-run : goal.invariant-loop-run
invariant-loop-run l = string_bytes l.text ≡ flat_map run_line (take l.run-index l.run-items)
