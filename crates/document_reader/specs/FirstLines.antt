-- The first line of a document that counts.
use Rattle.std.specs.Prelude.{ℕ, List, [], ◌∷◌}
use Rattle.document_forms.specs.FirstRefusal.{Counted, counted_lines}

abbrev pub first_number : List Counted → ℕ
first_number [] = 0
first_number (l ∷ ls) = l.number

-- its number, from 1, and 0 where there is none
abbrev pub first_line : List ℕ → ℕ
first_line bytes = first_number (counted_lines bytes)
