-- Names that a line declares.
use Rattle.std.specs.Prelude.{◌≡◌, ℕ, Bool, false, not, ◌||◌, nat_lt, List, [], ◌∷◌, ◌++◌, length, filter_map, Option, None, Some}
use Rattle.std.specs.List.{list_any}
use Rattle.wpds_base.specs.Faults.{first_fault}
use Rattle.wpds_port.specs.declared.Kind.{Kind}
use Rattle.wpds_port.specs.declared.Kind.TheVariants.{Form, Twice, Count}
use Rattle.wpds_port.specs.declared.Word.{Word}
use Rattle.wpds_port.specs.declared.Word.TheVariants.{Name}
use Rattle.document_forms.specs.Forms.{names_of}
use Rattle.document_forms.specs.Names.{is_among, has_twice, once, is_reserved}
use Rattle.document_forms.specs.Words.{name_of}

-- the names among words
abbrev pub names_in : List Word → List (List ℕ)
names_in ws = filter_map name_of ws

-- a name that may be declared
abbrev pub is_free : Word → Bool
is_free (Name x) = not (is_reserved x)
is_free _ = false

-- The names of a class with these more, and whether one of them stood there or stands twice.
pub record HasAdded (old new more : List (List ℕ)) (repeated : Bool) : Type 0 where
  pub names : new ≡ once (old ++ more)
  pub twice : repeated ≡ (has_twice more || list_any (is_among old) more)

-- the kind of words behind the word of a class that has these names, and so many at most
abbrev pub kind_of_names : List (List ℕ) → (most : ℕ) → Option (List (List ℕ)) → Option Kind
kind_of_names known most None = Some Form
kind_of_names known most (Some xs) =
    first_fault
    ((has_twice xs || list_any (is_among known) xs, Twice)
    ∷ (nat_lt most (length (once (known ++ xs))), Count) ∷ [])

-- A class has declared the names of the words.
abbrev pub Declares : (old new : List (List ℕ)) → List Word → Type 0
Declares old new ws = (xs : List (List ℕ)) × (names_of ws ≡ Some xs) × (new ≡ old ++ xs)
