-- Where the text of a pair ends: at the next `X =`, or with all words.
use Rattle.std.specs.Prelude.{Bool, true, false, List, [], ◌∷◌, Option, None, Some, cond, option_map, bytes_eq, codes}
use Rattle.wpds_port.specs.declared.Mark.TheVariants.{Comma, Question}
use Rattle.wpds_port.specs.declared.Word.{Word}
use Rattle.wpds_port.specs.declared.Word.TheVariants.{Name, Number, Mark as Sign}
use Rattle.document_forms.specs.Lines.{in_front}
use Rattle.document_forms.specs.Words.{is_comma, begins_pair, pairs, parted, each}
use Rattle.document_forms.specs.Weights.{PartForm, PairForm, part_of, pair_of}

abbrev pub up_to_pair : List Word → List Word
up_to_pair [] = []
up_to_pair (w ∷ ws) = cond (begins_pair (w ∷ ws)) [] (w ∷ up_to_pair ws)

abbrev pub from_pair : List Word → List Word
from_pair [] = []
from_pair (w ∷ ws) = cond (begins_pair (w ∷ ws)) (w ∷ ws) (from_pair ws)

abbrev pub begins_number : List Word → Bool
begins_number (Number n ∷ ws) = true
begins_number _ = false

-- no word comes before the next pair
abbrev pub is_at_pair : List Word → Bool
is_at_pair [] = true
is_at_pair (w ∷ ws) = begins_pair (w ∷ ws)

-- the texts of pairs, of words that begin with one
abbrev pub pair_texts : List Word → List (List Word)
pair_texts [] = []
pair_texts (w ∷ ws) = in_front w (pairs ws)

-- the pairs that the words are, if they begin with one
abbrev pub some_pairs : List Word → Option (List PairForm)
some_pairs ws = cond (begins_pair ws) (each pair_of (pair_texts ws)) None

-- the parts up to the next pair
abbrev pub parts_in : List Word → Option (List PartForm)
parts_in ws = each part_of (parted is_comma (up_to_pair ws))

-- the same, with a part that was read before the words
abbrev pub parts_behind : PartForm → List Word → Option (List PartForm)
parts_behind p [] = Some (p ∷ [])
parts_behind p (Sign Comma ∷ ws) = option_map (λ ps. p ∷ ps) (parts_in ws)
parts_behind p (w ∷ ws) = cond (begins_pair (w ∷ ws)) (Some (p ∷ [])) None

-- `?` or `undef` alone
abbrev pub is_whole : List Word → Bool
is_whole (Sign Question ∷ []) = true
is_whole (Name x ∷ []) = bytes_eq x (codes "undef")
is_whole _ = false
