-- The pieces that words are cut into.
use Rattle.std.specs.Prelude.{List, [], Option, None, Some}
use Rattle.wpds_port.specs.declared.Word.{Word}
use Rattle.document_forms.specs.Words.{is_comma, is_semicolon, parted, parted_outside}
use Rattle.rule_reader.specs.declared.weights.pieces.Cut.{Cut}
use Rattle.rule_reader.specs.declared.weights.pieces.Cut.TheVariants.{Commas, Semicolons, OutsideCommas}

abbrev pub pieces_of : Cut → List Word → List (List Word)
pieces_of Commas ws = parted is_comma ws
pieces_of Semicolons ws = parted is_semicolon ws
pieces_of OutsideCommas ws = parted_outside 0 is_comma ws

-- those of words that are left, if some are
abbrev pub pieces_left : Cut → Option (List Word) → List (List Word)
pieces_left cut None = []
pieces_left cut (Some ws) = pieces_of cut ws
