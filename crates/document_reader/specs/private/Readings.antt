-- What a reading has of the lines that were read.
use Rattle.std.specs.Prelude.{◌≡◌, ℕ, false, not, List, [], ◌∷◌, ◌++◌, length, map, Option, None, Some, option_map, unwrap_or, flat_map}
use Rattle.wpds_base.specs.Faults.{first_fault}
use Rattle.wpds_port.specs.declared.Kind.{Kind}
use Rattle.wpds_port.specs.declared.Kind.TheVariants.{NotText, Header}
use Rattle.document_forms.specs.declared.weight.WeightsLine.{WeightsLine}
use Rattle.document_forms.specs.Lines.{Line, is_text}
use Rattle.document_forms.specs.Names.{once}
use Rattle.document_forms.specs.Forms.{WeightsForm, Class, Symbols, LineForm, OfWeights, line_words, line_form, is_header}
use Rattle.document_forms.specs.Above.{weights_line, Above, above_of, with_line, names_on}
use Rattle.document_forms.specs.Kinds.{weights_conditions, conditions}
use Rattle.document_forms.specs.FirstRefusal.{Counted, counted, forms, by_form, first_refused}
use Rattle.document_forms.specs.Documents.{Document, rules_on, queries_on, gathered, body}
use Rattle.rule_reader.specs.RuleReads.{above_in}
use Rattle.document_reader.specs.declared.reading.Reading.{Reading}

-- ---- one line

-- the kind by which a line behind the second is refused, where this is said above it
abbrev pub kind_on : ℕ → Above → List ℕ → Option Kind
kind_on all a line =
    first_fault ((not (is_text line), NotText) ∷ by_form (conditions all a) (line_form line))

-- the kinds of the first two lines

abbrev pub header_kind_on : List ℕ → Option Kind
header_kind_on line =
    let said = unwrap_or (option_map is_header (line_words line)) false in
    first_fault ((not (is_text line), NotText) ∷ (not said, Header) ∷ [])

abbrev pub weights_kind_on : List ℕ → Option Kind
weights_kind_on line =
    first_fault ((not (is_text line), NotText) ∷ by_form weights_conditions (line_form line))

-- The line has the form of a weights line, and declares these weights.
abbrev pub SaysWeights : List ℕ → WeightsLine → Type 0
SaysWeights line weights =
    (w : WeightsForm) × (line_form line ≡ Some (OfWeights w)) × (weights ≡ weights_line w)

-- the names of the class that a line declares
abbrev pub declared_on : Class → List ℕ → List (List ℕ)
declared_on c line = unwrap_or (option_map (names_on c) (line_form line)) []

-- the names of the class that lines declare, as often as they stand
abbrev pub names_in : Class → List Counted → List (List ℕ)
names_in c ls = flat_map (names_on c) (forms ls)

-- how many symbols there are, of these names and those of lines
abbrev pub symbols_with : List (List ℕ) → List Line → ℕ
symbols_with symbols ls = length (once (symbols ++ names_in Symbols (map counted ls)))

-- the same, where a line of this form, or of none, stands before the lines
abbrev pub all_behind : List (List ℕ) → Option LineForm → List Line → ℕ
all_behind symbols form ls =
    let here = unwrap_or (option_map (names_on Symbols) form) [] in
    length (once (symbols ++ (here ++ names_in Symbols (map counted ls))))

-- what a reading says above the next line
abbrev pub above_now : Reading → Above
above_now r = above_in r.scope (length r.rules.items) (length r.queries.items)

-- what a weights line says
abbrev pub only_weights : WeightsLine → Above
only_weights w = record {
  weights = w;
  controls = [];
  symbols = [];
  items = [];
  rules = 0;
  queries = 0;
}

-- A reading after it took a line of this form.
pub record TakesForm (old new : Reading) (f : LineForm) : Type 0 where
  pub above : above_now new ≡ with_line (above_now old) f
  pub rules : new.rules.items ≡ old.rules.items ++ rules_on (above_now old) f
  pub queries : new.queries.items ≡ old.queries.items ++ queries_on (above_now old) f

abbrev pub Takes : (old new : Reading) → List ℕ → Type 0
Takes old new line = (f : LineForm) × (line_form line ≡ Some f) × TakesForm old new f

-- ---- all lines so far

-- The reading has what these lines say. They are accepted: a header, a weights line, and what
-- stands below.
pub record HasRead (all : ℕ) (ls : List Counted) (r : Reading) : Type 0 where
  pub begun : (w : WeightsForm) × (fs : List LineForm) × (body ls ≡ OfWeights w ∷ fs)
  pub accepted : first_refused all [] ls ≡ None
  pub above : above_now r ≡ above_of (body ls)
  pub rules : r.rules.items ≡ gathered rules_on [] (body ls)
  pub queries : r.queries.items ≡ gathered queries_on [] (body ls)

-- The reading has the first two of these lines, and those behind are left.
pub record HasFirstTwo (lines left : List Line) (r : Reading) : Type 0 where
  pub first : Line
  pub second : Line
  pub split : lines ≡ first ∷ second ∷ left
  pub read : (all : ℕ) → HasRead all (counted first ∷ counted second ∷ []) r

-- the document of what was read
abbrev pub document_now : Reading → Document
document_now r = record {
  weights = r.scope.weights;
  controls = r.scope.controls;
  symbols = r.scope.symbols;
  items = r.scope.items;
  rules = r.rules.items;
  queries = r.queries.items;
}
