-- What judging lines gives.
use Rattle.std.specs.Prelude.{◌≡◌, List, [], ◌∷◌, Option, Some, None, Result, Ok, Err}
use Rattle.wpds_port.specs.declared.Kind.{Kind}
use Rattle.wpds_port.specs.declared.Refusal.{Refusal}
use Rattle.wpds_port.specs.Refusals.{refusal}
use Rattle.document_forms.specs.Lines.{Line}
use Rattle.program_forms.specs.Forms.{LineForm}
use Rattle.program_forms.specs.Places.{Place, said, judged, place_behind}
use Rattle.program_lines.specs.Texts.{line_said}
use Rattle.program_lines.specs.declared.texts.LineText.{LineText}
use Rattle.program_tables.specs.declared.walk.StatedLine.{StatedLine}

-- A line at a place may stand there and says this text, or is refused by this kind.
abbrev pub IsJudged : Place → Line → Result LineText Kind → Type 0
IsJudged p l (Ok text) =
    (f : LineForm) × (line_said text ≡ Some f)
    × (judged p (said l) ≡ Ok (record { number = l.number; form = f; place = p }))
IsJudged p l (Err k) = judged p (said l) ≡ Err (l.number, k)

-- A line at a place may stand there, and it is this one.
pub record IsStated (p : Place) (l : Line) (t : StatedLine) : Type 0 where
  pub number : t.number ≡ l.number
  pub judged : IsJudged p l (Ok t.text)

-- A line at a place is refused, and so it is told.
pub record IsRefused (p : Place) (l : Line) (r : Option Refusal) : Type 0 where
  pub kind : Kind
  pub judged : IsJudged p l (Err kind)
  pub told : r ≡ Some (refusal l.number kind)

-- Of lines from a place on those may stand up to the first that is refused, if one is.
abbrev pub AreJudged : Place → List Line → List StatedLine → Option Refusal → Type 0
AreJudged p [] ts r = (ts ≡ []) × (r ≡ None)
AreJudged p (l ∷ ls) [] r = IsRefused p l r
AreJudged p (l ∷ ls) (t ∷ ts) r =
    IsStated p l t × AreJudged (place_behind p (judged p (said l))) ls ts r
