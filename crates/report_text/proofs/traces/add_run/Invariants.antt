use Rattle.std.proofs.Common.{◌≡◌, ◌++◌, take}
use Rattle.std.specs.Prelude.{codes, string_bytes}
use Rattle.std.specs.List.{flat_map}
use Rattle.report_text.specs.Listings.{rule_text}
use Rattle.report_text.proofs.traces.add_run.Given as goal

abbrev pub invariant-loop-rule : goal.invariant-loop-rule
invariant-loop-rule l = string_bytes l.text ≡ string_bytes l.initial.text ++ flat_map (λ r. codes ", " ++ rule_text r) (take l.rule-index l.rest)
