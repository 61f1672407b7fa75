-- What words begin with, and the two sides of `:=`.
use Rattle.std.specs.Prelude.{Bool, true, false, List, ◌∷◌, Option}
use Rattle.wpds_port.specs.declared.Mark.TheVariants.{Colon, Open}
use Rattle.wpds_port.specs.declared.Word.{Word}
use Rattle.wpds_port.specs.declared.Word.TheVariants.{Name, Mark as Sign}
use Rattle.document_forms.specs.Words.{◌>>=◌}
use Rattle.program_forms.specs.Forms.{StatementForm, list_of, becomes_of}

abbrev pub begins_with_label : List Word → Bool
begins_with_label (Name l ∷ Sign Colon ∷ ws) = true
begins_with_label _ = false

abbrev pub begins_with_call : List Word → Bool
begins_with_call (Name f ∷ Sign Open ∷ ws) = true
begins_with_call _ = false

-- the statement with these words before `:=` and behind it
abbrev pub sides_of : (front back : List Word) → Option StatementForm
sides_of front back = list_of front >>= λ xs. becomes_of xs back
