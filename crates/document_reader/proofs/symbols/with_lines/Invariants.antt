use Rattle.std.proofs.Common.{◌≡◌, ◌++◌, length, map}
use Rattle.document_forms.specs.Forms.{Symbols}
use Rattle.document_forms.specs.Names.{once}
use Rattle.document_forms.specs.FirstRefusal.{counted}
use Rattle.document_reader.specs.private.Readings.{names_in}
use Rattle.document_reader.proofs.symbols.with_lines.Given as goal

-- The names so far and those of the lines that are left are all names.
abbrev pub invariant-loop-line : goal.invariant-loop-line
invariant-loop-line l = record {
  each_once : once l.all ≡ l.all;
  whole : once (l.all ++ names_in Symbols (map counted l.lines.lines)) ≡ once (l.fn.symbols ++ names_in Symbols (map counted l.fn.left.lines));
}

abbrev pub decreases-loop-line : goal.decreases-loop-line
decreases-loop-line l = length l.lines.lines
