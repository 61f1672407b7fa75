use Rattle.std.proofs.Common.{◌≡◌, ◌++◌, ◌≤◌, ◌-◌, drop, length, option_map}
use Rattle.wpds_port.specs.Tokens.{tokens_from, tokens as tokens_of}
use Rattle.wpds_port.proofs.cutting.cut.Given as goal

abbrev pub decreases-loop-place : goal.decreases-loop-place
decreases-loop-place l = length l.line - l.place

abbrev pub invariant-loop-place : goal.invariant-loop-place
invariant-loop-place l = record { within : l.place ≤ length l.line; same : option_map (λ ts. l.found.items ++ ts) (tokens_from l.place 0 (drop l.place l.line)) ≡ tokens_of l.line }
