-- The language of a document, by the first line that counts.
use Rattle.std.specs.Prelude.{ℕ, if◌then◌else◌, List, [], ◌∷◌, Option, Some, None, option_and_then, codes}
use Rattle.wpds_port.specs.declared.Word.{Word}
use Rattle.document_forms.specs.declared.language.Language.{Language}
use Rattle.document_forms.specs.declared.language.Language.TheVariants.{System, Program}
use Rattle.document_forms.specs.Forms.{is_header, is_first_version}
use Rattle.document_forms.specs.FirstRefusal.{Counted, counted_lines}

-- the language whose header the words are
abbrev pub language_named : List Word → Option Language
language_named ws =
    if is_header ws then Some System
    else (if is_first_version (codes "bool") ws then Some Program else None)

abbrev pub language_on : List Counted → Option Language
language_on [] = None
language_on (l ∷ ls) = option_and_then language_named l.words

abbrev pub language_of : List ℕ → Option Language
language_of bytes = language_on (counted_lines bytes)
