use Rattle.std.proofs.Common.{◌≡◌, ◌≤◌, replicate}
use Rattle.std.specs.Prelude.{None, vec_capacity}
use Rattle.key_rows.proofs.keyed.empty_chains.Given as goal

abbrev pub invariant-loop : goal.invariant-loop
invariant-loop l = (l.heads.items ≡ replicate l.counter None) × (l.count ≤ vec_capacity l.heads)
