-- What reading a line behind the weights line gives, by the form of the line.
use Rattle.std.specs.Prelude.{◌≡◌, ℕ, List, Option, Some, option_map, IfNone}
use Rattle.wpds_base.specs.Faults.{first_fault}
use Rattle.wpds_port.specs.declared.Kind.{Kind}
use Rattle.wpds_port.specs.declared.Word.{Word}
use Rattle.document_forms.specs.Forms.{Class, LineForm, OfNames, names_of}
use Rattle.document_forms.specs.Kinds.{conditions}
use Rattle.document_forms.specs.FirstRefusal.{by_form}
use Rattle.document_reader.specs.declared.reading.Reading.{Reading}
use Rattle.document_reader.specs.private.Readings.{above_now, TakesForm}

-- A line of this form, or of none, is refused by its kind below the reading, or else it is taken.
pub record IsAnswered
    (all : ℕ) (old new : Reading) (form : Option LineForm) (k : Option Kind) : Type 0 where
  pub kind : k ≡ first_fault (by_form (conditions all (above_now old)) form)
  pub taken : IfNone k ((f : LineForm) × (form ≡ Some f) × TakesForm old new f)

-- A line is answered that has these words behind the word of a class.
abbrev pub AreAnswered : (old new : Reading) → Class → List Word → Option Kind → Type 0
AreAnswered old new c ws k =
    (all : ℕ) → IsAnswered all old new (option_map (OfNames c) (names_of ws)) k
