use Rattle.std.proofs.Common.{◌≡◌, ◌++◌, drop}
use Rattle.report_text.specs.Listings.{set_lines}
use Rattle.report_text.proofs.listing.add_sets.Given as goal

abbrev pub invariant-loop-number : goal.invariant-loop-number
invariant-loop-number l = l.initial.text.items ++ set_lines l.side 0 l.nodes ≡ l.text.items ++ set_lines l.side l.number (drop l.number l.nodes)
