-- A walk over lines.
use Rattle.std.specs.Prelude.{◌≡◌, List, ◌∷◌, ◌++◌, Option, Some, None, map}
use Rattle.wpds_port.specs.declared.Refusal.{Refusal}
use Rattle.document_forms.specs.Lines.{Line}
use Rattle.program_forms.specs.Places.{Place, said, at_top, Stated, judged_from, stated}
use Rattle.program_forms.specs.Declared.{whole}
use Rattle.program_tables.specs.Judging.{AreJudged}
use Rattle.program_tables.specs.Tables.{AreTablesOf}
use Rattle.program_tables.specs.declared.tables.Tables.{Tables}
use Rattle.program_tables.specs.declared.walk.StatedLine.{StatedLine}

-- Behind a line the tables have the lines that had stood, and this one if it may stand there.
pub record HasWalked
    (done : List Stated) (from to : Place) (l : Line) (t : Tables) : Type 0 where
  pub lines : List Stated
  pub tables : AreTablesOf (whole lines) t
  pub rest : (ls : List Line)
      → done ++ stated (judged_from from (map said (l ∷ ls)))
      ≡ lines ++ stated (judged_from to (map said ls))

-- All lines were judged down to a place, where these are left: with what they are judged to be it is
-- all of them, unless one was refused already.
abbrev pub AreJudgedAbove :
    List Line → Place → List Line → List StatedLine → Option Refusal → Type 0
AreJudgedAbove all p left above None =
    (below : List StatedLine) (r : Option Refusal)
    → AreJudged p left below r → AreJudged at_top all (above ++ below) r
AreJudgedAbove all p left above (Some r) = AreJudged at_top all above (Some r)
