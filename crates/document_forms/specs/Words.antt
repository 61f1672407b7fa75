-- Cutting the words of a line at marks.
use Rattle.std.specs.Prelude.{ℕ, Bool, true, false, ◌&&◌, ◌==◌, List, [], ◌∷◌, Option, Some, None, option_map, codes, cond}
use Rattle.wpds_port.specs.declared.Mark.TheVariants.{Comma, Colon, Semicolon, Equal, Implies, Becomes}
use Rattle.wpds_port.specs.declared.Word.{Word}
use Rattle.wpds_port.specs.declared.Word.TheVariants.{Name, Mark as Sign}
use Rattle.wpds_port.specs.Words.{brackets_after}
pub use Rattle.wpds_port.specs.Words.{before, behind}
use Rattle.truth_tables.specs.Texts.{is_name}
use Rattle.document_forms.specs.Lines.{in_front}

-- ---- the marks that cut

abbrev pub is_comma : Word → Bool
is_comma (Sign Comma) = true
is_comma _ = false

abbrev pub is_semicolon : Word → Bool
is_semicolon (Sign Semicolon) = true
is_semicolon _ = false

abbrev pub is_colon : Word → Bool
is_colon (Sign Colon) = true
is_colon _ = false

abbrev pub is_equal : Word → Bool
is_equal (Sign Equal) = true
is_equal _ = false

abbrev pub is_becomes : Word → Bool
is_becomes (Sign Becomes) = true
is_becomes _ = false

abbrev pub is_implies : Word → Bool
is_implies (Sign Implies) = true
is_implies _ = false

abbrev pub is_return : Word → Bool
is_return w = is_name (codes "return") w

abbrev pub is_move : Word → Bool
is_move w = is_name (codes "move") w

-- ---- the cutting

-- The pieces between the words at which the test holds. There is one more than there are such
-- words.
abbrev pub parted : (Word → Bool) → List Word → List (List Word)
parted test [] = [] ∷ []
parted test (w ∷ ws) = cond (test w) ([] ∷ parted test ws) (in_front w (parted test ws))

-- the same, cut only where no bracket is open
abbrev pub parted_outside : ℕ → (Word → Bool) → List Word → List (List Word)
parted_outside d test [] = [] ∷ []
parted_outside d test (w ∷ ws) = elim (d == 0 && test w) [
  | true ↦ [] ∷ parted_outside d test ws
  | false ↦ in_front w (parted_outside (brackets_after d w) test ws)
]

-- a name with `=` behind it stands in front
abbrev pub begins_pair : List Word → Bool
begins_pair (Name x ∷ w ∷ ws) = is_equal w
begins_pair _ = false

-- What stands before the first `X =`, and then each `X =` with what follows it up to the next one.
abbrev pub pairs : List Word → List (List Word)
pairs [] = [] ∷ []
pairs (w ∷ ws) =
    cond (begins_pair (w ∷ ws)) ([] ∷ in_front w (pairs ws)) (in_front w (pairs ws))

-- ---- forms of parts

-- a name alone
abbrev pub name_of : Word → Option (List ℕ)
name_of (Name x) = Some x
name_of _ = None

-- what a function gives of each item, if it gives something of each
abbrev pub each : {A B : Type 0} → (A → Option B) → List A → Option (List B)
each f [] = Some []
each f (x ∷ xs) = elim (f x) [ None ↦ None | Some y ↦ option_map (λ ys. y ∷ ys) (each f xs) ]

-- the same, of one item at least
abbrev pub each_of_some : {A B : Type 0} → (A → Option B) → List A → Option (List B)
each_of_some f [] = None
each_of_some f (x ∷ xs) = each f (x ∷ xs)

abbrev pub guarded : {A : Type 0} → Bool → Option A → Option A
guarded true x = x
guarded false x = None

infixl 10 ◌>>=◌
abbrev pub ◌>>=◌ : {A B : Type 0} → Option A → (A → Option B) → Option B
None >>= f = None
(Some x) >>= f = f x
