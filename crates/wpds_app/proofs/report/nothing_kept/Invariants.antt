use Rattle.std.proofs.Common.{◌≡◌, All, None, length}
use Rattle.wpds_app.proofs.report.nothing_kept.Given as goal

abbrev pub invariant-loop : goal.invariant-loop
invariant-loop l = (length l.kept.items ≡ l.counter) × All (λ lines. lines ≡ None) l.kept.items
