-- The first refusal of a program's text: of the lines that count the first that has a kind below
-- those above it, and of its kinds the lowest.
use Rattle.std.specs.Prelude.{ℕ, ◌+◌, true, false, not, nat_lt, ◌==◌, List, [], ◌∷◌, ◌++◌, length, filter, fold, map, Option, Some, None, option_map, Ok, Err, is_none, codes}
use Rattle.wpds_base.specs.Faults.{first_fault}
use Rattle.wpds_port.specs.declared.Kind.{Kind}
use Rattle.wpds_port.specs.declared.Kind.TheVariants.{TooLong, NotText, Header, Form, Unknown, NothingAsked}
use Rattle.wpds_port.specs.declared.Refusal.{Refusal}
use Rattle.wpds_port.specs.Refusals.{refusal}
use Rattle.document_forms.specs.Lines.{lines, numbered, counts}
use Rattle.document_forms.specs.Kinds.{Conditions}
use Rattle.document_forms.specs.Refused
use Rattle.document_forms.specs.Refused.{Format, is_short}
use Rattle.program_forms.specs.Forms.{LineForm}
use Rattle.program_forms.specs.Places.{Said, said, Place, at_top, fits, next_place, Stated, Judged, judged_from, stated}
use Rattle.program_forms.specs.Declared.{proc_named, Whole, whole}
use Rattle.program_forms.specs.Above.{begun, closed, queries}
use Rattle.program_forms.specs.Kinds.{conditions}

-- ---- the lines that count

abbrev pub said_lines : List ℕ → List Said
said_lines bytes = map said (filter (λ l. counts l.bytes) (numbered 1 (lines bytes)))

-- the lines behind the header, each with its place or its kind
abbrev pub body : List Said → List Judged
body [] = []
body (h ∷ ls) = judged_from at_top ls

-- ---- the kinds of a line

-- the place below these lines
abbrev pub place_below : List Stated → Place
place_below above = fold (λ p l. next_place p l.form) at_top above

-- Below these lines: that the line has a form which may stand there, and the conditions of the
-- form, where the lines of the text declare all this.
abbrev pub form_conditions : Whole → (above : List Stated) → Option LineForm → Conditions
form_conditions w above None = (true, Form) ∷ []
form_conditions w above (Some f) =
    let p = place_below above in
    (not (fits p f), Form) ∷ conditions w above p.begun f

-- The first line is the header. Of the lines above another those count that may stand where they
-- do.
abbrev pub conditions_below : Whole → (above : List Said) → Said → Conditions
conditions_below w [] l = (not l.header, Header) ∷ []
conditions_below w (h ∷ above) l = form_conditions w (stated (body (h ∷ above))) l.form

abbrev pub line_conditions : Whole → (above : List Said) → Said → Conditions
line_conditions w above l = (not l.text, NotText) ∷ conditions_below w above l

-- What may be missing behind the last line: the `end` of a procedure, of which each has one; the
-- procedure `main`; a query.
abbrev pub end_conditions : Whole → List Stated → Conditions
end_conditions w ls =
    (nat_lt (closed ls) (begun ls), Form)
    ∷ (is_none (proc_named w.procs (codes "main")), Unknown)
    ∷ (queries ls == 0, NothingAsked)
    ∷ []

-- and a header, where no line counts
abbrev pub missing_conditions : Whole → List Said → Conditions
missing_conditions w [] = (true, Header) ∷ []
missing_conditions w (h ∷ ls) = end_conditions w (stated (body (h ∷ ls)))

-- the format of programs whose lines declare all this
abbrev pub program_format : Whole → Format Said
program_format w = record {
  number = λ l. l.number;
  conditions = line_conditions w;
  missing = missing_conditions w;
}

-- ---- the first refusal

-- what the lines of a text declare, all together
abbrev pub declared_in : List Said → Whole
declared_in ls = whole (stated (body ls))

-- The first refusal of the bytes.
abbrev pub FirstRefusal : List ℕ → Refusal → Type 0
FirstRefusal bytes r =
    let ls = said_lines bytes in
    Refused.FirstRefusal (program_format (declared_in ls)) bytes ls r

-- ---- found line by line, where each line is judged once

-- the kind that counts, of a line that may stand where it does
abbrev pub kind_below : Whole → List Stated → Stated → Option Kind
kind_below w above l = first_fault (conditions w above l.place.begun l.form)

-- the first of the lines that has a kind, with the lowest, below those above it and one another
abbrev pub first_refused : Whole → (above : List Stated) → List Judged → Option Refusal
first_refused w above [] = None
first_refused w above (Err r ∷ js) = Some (refusal r.0 r.1)
first_refused w above (Ok l ∷ js) = elim (kind_below w above l) [
  | Some k ↦ Some (refusal l.number k)
  | None ↦ first_refused w (above ++ l ∷ []) js
]

-- of the lines behind the header, where the line after the last has this number
abbrev pub body_refusal : ℕ → Whole → List Judged → Option Refusal
body_refusal after w js = elim (first_refused w [] js) [
  | Some r ↦ Some r
  | None ↦ option_map (refusal after) (first_fault (end_conditions w (stated js)))
]

-- the kind of the first line
abbrev pub header_conditions : Said → Conditions
header_conditions l = (not l.text, NotText) ∷ (not l.header, Header) ∷ []

abbrev pub lines_refusal : ℕ → List Said → Option Refusal
lines_refusal after [] = Some (refusal after Header)
lines_refusal after (h ∷ ls) = elim (first_fault (header_conditions h)) [
  | Some k ↦ Some (refusal h.number k)
  | None ↦ let js = judged_from at_top ls in body_refusal after (whole (stated js)) js
]

-- the first refusal of the bytes, if they have one: a law says that it is the `FirstRefusal`
abbrev pub refusal_of : List ℕ → Option Refusal
refusal_of bytes = elim (is_short bytes) [
  | false ↦ Some (refusal 0 TooLong)
  | true ↦ lines_refusal (length (lines bytes) + 1) (said_lines bytes)
]
