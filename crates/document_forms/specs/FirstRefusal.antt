-- The first refusal of a document: of the lines that count the first that has a kind below those
-- above it, and of its kinds the lowest.
use Rattle.std.specs.Prelude.{ℕ, ◌+◌, Bool, true, false, not, List, [], ◌∷◌, length, drop, filter, filter_map, map, Option, Some, None, option_map, option_and_then, unwrap_or}
use Rattle.std.specs.List.{list_any}
use Rattle.wpds_base.specs.Faults.{first_fault}
use Rattle.wpds_port.specs.declared.Word.{Word}
use Rattle.document_forms.specs.Lines.{Line, lines, numbered, counts, is_text}
use Rattle.document_forms.specs.Forms.{Symbols, LineForm, form_of, line_words, is_header}
use Rattle.wpds_port.specs.declared.Kind.{Kind}
use Rattle.wpds_port.specs.declared.Kind.TheVariants.{NotText, Header, Form, NothingAsked}
use Rattle.wpds_port.specs.declared.Refusal.{Refusal}
use Rattle.document_forms.specs.Above.{declared, is_query, above_of}
use Rattle.document_forms.specs.Kinds.{Conditions, weights_conditions, conditions}
use Rattle.document_forms.specs.Refused
use Rattle.document_forms.specs.Refused.{Format}
pub use Rattle.document_forms.specs.Refused.{is_short}

-- ---- the lines that count

-- A line that counts: its number, whether it is text, its words, and the form that they have.
pub record Counted : Type 0 where
  pub number : ℕ
  pub text : Bool
  pub words : Option (List Word)
  pub form : Option LineForm

abbrev pub counted_with : Line → Option (List Word) → Counted
counted_with l ws = record {
  number = l.number;
  text = is_text l.bytes;
  words = ws;
  form = option_and_then form_of ws;
}

abbrev pub counted : Line → Counted
counted l = counted_with l (line_words l.bytes)

abbrev pub counted_lines : List ℕ → List Counted
counted_lines bytes = map counted (filter (λ l. counts l.bytes) (numbered 1 (lines bytes)))

-- the forms of those that have one
abbrev pub forms : List Counted → List LineForm
forms ls = filter_map (λ l. l.form) ls

-- how many symbols a document declares, on all its lines
abbrev pub all_symbols : List Counted → ℕ
all_symbols ls = length (declared Symbols (forms (drop 2 ls)))

-- ---- the kinds of a line

abbrev pub is_header_line : Counted → Bool
is_header_line l = unwrap_or (option_map is_header l.words) false

-- the conditions of the line's form, and that it has one
abbrev pub by_form : (LineForm → Conditions) → Option LineForm → Conditions
by_form test None = (true, Form) ∷ []
by_form test (Some f) = test f

-- The first line is the header, and the second the weights line.
abbrev pub conditions_below : ℕ → List Counted → Counted → Conditions
conditions_below all [] l = (not (is_header_line l), Header) ∷ []
conditions_below all (h ∷ []) l = by_form weights_conditions l.form
conditions_below all (h ∷ w ∷ above) l =
    by_form (conditions all (above_of (forms (w ∷ above)))) l.form

abbrev pub line_conditions : ℕ → List Counted → Counted → Conditions
line_conditions all above l = (not l.text, NotText) ∷ conditions_below all above l

-- What may be missing behind the last line: a header, or a query.
abbrev pub end_conditions : List Counted → Conditions
end_conditions [] = (true, Header) ∷ []
end_conditions (h ∷ ls) = (not (list_any is_query (forms ls)), NothingAsked) ∷ []

-- the format of documents that declare so many symbols
abbrev pub document_format : ℕ → Format Counted
document_format all = record {
  number = λ l. l.number;
  conditions = line_conditions all;
  missing = end_conditions;
}

-- The line has this kind, where the document declares so many symbols.
abbrev pub HasKind : ℕ → List Counted → Counted → Kind → Type 0
HasKind all above l k = Refused.HasKind (line_conditions all above l) k

-- It is the lowest of the kinds that the line has.
abbrev pub IsLowest : ℕ → List Counted → Counted → Kind → Type 0
IsLowest all above l k = Refused.IsLowest (line_conditions all above l) k

-- ---- the first refusal

-- No line has a kind below those above it.
abbrev pub AreAccepted : ℕ → List Counted → Type 0
AreAccepted all ls = Refused.AreAccepted (document_format all) ls

-- The first refusal of the bytes.
abbrev pub FirstRefusal : List ℕ → Refusal → Type 0
FirstRefusal bytes r =
    let ls = counted_lines bytes in
    Refused.FirstRefusal (document_format (all_symbols ls)) bytes ls r

-- ---- found line by line

-- the kind that counts
abbrev pub kind_below : ℕ → List Counted → Counted → Option Kind
kind_below all above l = first_fault (line_conditions all above l)

-- what is missing behind the last line
abbrev pub missing : List Counted → Option Kind
missing ls = first_fault (end_conditions ls)

-- the first of the lines that has a kind, below those above and one another
abbrev pub first_refused : ℕ → (above ls : List Counted) → Option Refusal
first_refused all above ls = Refused.first_refused (document_format all) above ls

abbrev pub refusal_in : List ℕ → List Counted → Option Refusal
refusal_in bytes ls =
    Refused.refusal_in (document_format (all_symbols ls)) (length (lines bytes) + 1) ls

abbrev pub refusal_of : List ℕ → Option Refusal
refusal_of bytes =
    let ls = counted_lines bytes in
    Refused.refusal_of (document_format (all_symbols ls)) bytes ls
