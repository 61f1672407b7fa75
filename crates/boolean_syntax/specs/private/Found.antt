-- What is found of the lines of a text.
use Rattle.std.specs.Prelude.{◌≡◌, ℕ, ◌+◌, List, [], ◌∷◌, ◌++◌, length, map, Option, None}
use Rattle.wpds_base.specs.Faults.{first_fault}
use Rattle.wpds_port.specs.declared.Refusal.{Refusal}
use Rattle.document_forms.specs.Lines.{Line, lines}
use Rattle.document_reader.specs.LinesLeft.{Left}
use Rattle.program_forms.specs.Places.{Place, Said, said, at_top, Stated, Judged, judged_from, stated}
use Rattle.program_forms.specs.Declared.{Whole, whole}
use Rattle.program_forms.specs.Above.{begun}
use Rattle.program_forms.specs.FirstRefusal.{said_lines, header_conditions, first_refused, body_refusal}
use Rattle.program_tables.specs.Judging.{AreJudged}
use Rattle.program_tables.specs.Tables.{AreTablesOf}
use Rattle.program_tables.specs.declared.tables.Tables.{Tables}
use Rattle.program_tables.specs.declared.walk.StatedLines.{StatedLines}

-- the lines behind the header, each with its place or its kind
abbrev pub judged_lines : List Line → List Judged
judged_lines ls = judged_from at_top (map said ls)

abbrev pub stated_lines : List Line → List Stated
stated_lines ls = stated (judged_lines ls)

-- their first refusal, where the line after the last has this number
abbrev pub found_in : ℕ → List Line → Option Refusal
found_in after ls = body_refusal after (whole (stated_lines ls)) (judged_lines ls)

-- The bytes have a header, and these lines are left behind it.
pub record IsBehindHeader (bytes : List ℕ) (rest : Left) : Type 0 where
  pub header : Said
  pub split : said_lines bytes ≡ header ∷ map said rest.lines
  pub kind : first_fault (header_conditions header) ≡ None
  pub after : rest.after ≡ length (lines bytes) + 1

-- Of all lines these were taken, and those that are left are judged from this place on.
pub record IsOnTheWay (w : Whole) (all : List Line) (place : Place) (left : List Line)
    (above : List Stated) : Type 0 where
  pub begun : place.begun ≡ begun above
  pub stated : stated_lines all ≡ above ++ stated (judged_from place (map said left))
  pub refused : first_refused w [] (judged_lines all)
      ≡ first_refused w above (judged_from place (map said left))

-- The first walk over these lines gave these tables, and kept this of them.
pub record AreWalked (ls : List Line) (tables : Tables) (kept : StatedLines) : Type 0 where
  pub declared : AreTablesOf (whole (stated_lines ls)) tables
  pub judged : AreJudged at_top ls kept.lines.items kept.refused
