use Rattle.std.proofs.Common.{◌≡◌, length, map}
use Rattle.document_forms.specs.Forms.{Symbols}
use Rattle.document_forms.specs.FirstRefusal.{counted}
use Rattle.document_reader.specs.private.Readings.{names_in}
use Rattle.document_reader.proofs.symbols.are_declared.Given as goal

-- The lines that were walked declare no symbols.
abbrev pub invariant-loop-line : goal.invariant-loop-line
invariant-loop-line l = names_in Symbols (map counted l.fn.left.lines) ≡ names_in Symbols (map counted l.lines.lines)

abbrev pub decreases-loop-line : goal.decreases-loop-line
decreases-loop-line l = length l.lines.lines
