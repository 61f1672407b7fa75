-- Texts in a row, as they are kept.
use Rattle.std.specs.Prelude.{◌≡◌, ℕ, Bool, true, false, List, [], ◌∷◌}
use Rattle.std.specs.List.{join_with_byte}
use Rattle.document_systems.specs.declared.row.Row.{Row}

abbrev pub has_some : List (List ℕ) → Bool
has_some [] = false
has_some (t ∷ ts) = true

-- these texts, with this mark between
pub record IsRow (mark : ℕ) (texts : List (List ℕ)) (row : Row) : Type 0 where
  pub between : row.mark ≡ mark
  pub text : row.text.items ≡ join_with_byte mark texts
  pub some : row.some ≡ has_some texts
