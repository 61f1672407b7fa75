-- What is left of a document that is read line by line.
use Rattle.std.specs.Prelude.{ℕ, ◌+◌, Bool, ◌==◌, List, length, filter}
use Rattle.document_forms.specs.Lines.{Line, lines, numbered, counts}

-- the lines that count, of bytes whose first line has this number
abbrev pub counting : ℕ → List ℕ → List Line
counting n bytes = filter (λ l. counts l.bytes) (numbered n (lines bytes))

-- The lines that count, and the number of the line after the last.
pub record Left : Type 0 where
  pub lines : List Line
  pub after : ℕ

-- what bytes are whose first line has this number
abbrev pub left : ℕ → List ℕ → Left
left n bytes = record { lines = counting n bytes; after = length (lines bytes) + n }

abbrev pub is_feed : ℕ → Bool
is_feed b = b == 10
