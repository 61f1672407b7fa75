-- How values are written by the names of facts or variables.
use Rattle.std.specs.Prelude.{ℕ, Bool, List, [], ◌∷◌, filter, length, map}
use Rattle.std.specs.List.{range_with_len}
use Rattle.document_forms.specs.Names.{name}

-- the names whose numbers pass a test, in order
abbrev pub names_where : List (List ℕ) → (ℕ → Bool) → List (List ℕ)
names_where names test = map (name names) (filter test (range_with_len 0 (length names)))

-- this text in place of none
abbrev pub or_one : List ℕ → List (List ℕ) → List (List ℕ)
or_one text [] = text ∷ []
or_one text (t ∷ ts) = t ∷ ts
