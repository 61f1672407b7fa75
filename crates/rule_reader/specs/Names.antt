-- The number of a name, and the names with which words begin.
use Rattle.std.specs.Prelude.{ℕ, Bool, true, false, List, [], ◌∷◌, if◌then◌else◌, Option, Some, None}
use Rattle.wpds_port.specs.declared.Word.{Word}
use Rattle.wpds_port.specs.declared.Word.TheVariants.{Name}
use Rattle.document_forms.specs.Names.{is_among, number_in}

-- the number of a name, if it is there
abbrev pub number_among : List (List ℕ) → List ℕ → Option ℕ
number_among names x = if is_among names x then Some (number_in names x) else None

abbrev pub begins_with_name : List Word → Bool
begins_with_name (Name x ∷ ws) = true
begins_with_name _ = false

-- the names in front, up to the first word that is none
abbrev pub names_in_front : List Word → List (List ℕ)
names_in_front (Name x ∷ ws) = x ∷ names_in_front ws
names_in_front _ = []

-- the words behind them
abbrev pub behind_names : List Word → List Word
behind_names (Name x ∷ ws) = behind_names ws
behind_names ws = ws
