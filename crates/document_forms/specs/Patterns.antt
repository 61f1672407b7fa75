-- Patterns as they are written: `CONTROL : ITEM ..`.
use Rattle.std.specs.Prelude.{◌≡◌, IsTrue, ℕ, Bool, true, false, List, [], ◌∷◌, ◌++◌, Option, Some, None, option_map, map}
use Rattle.std.specs.List.{list_all}
use Rattle.wpds_port.specs.declared.Mark.TheVariants.{Colon, Dot, Star, OpenBrace, CloseBrace}
use Rattle.wpds_port.specs.declared.Word.{Word}
use Rattle.wpds_port.specs.declared.Word.TheVariants.{Name, Mark as Sign}
use Rattle.document_forms.specs.Words.{◌>>=◌}

pub data SetForm : Type 0 where
  -- `.`
  Dotted : SetForm
  -- a symbol
  Bare : List ℕ → SetForm
  -- `{ SYMBOL .. }`
  Braced : List (List ℕ) → SetForm

pub record ItemForm : Type 0 where
  pub set : SetForm
  pub star : Bool

pub record PatternForm : Type 0 where
  pub control : List ℕ
  pub items : List ItemForm

-- an item's set with a star, or without one
abbrev pub item : SetForm → Bool → ItemForm
item s star = record { set = s; star = star }

-- ---- which words are which items

abbrev pub set_words : SetForm → List Word
set_words Dotted = Sign Dot ∷ []
set_words (Bare x) = Name x ∷ []
set_words (Braced xs) = Sign OpenBrace ∷ map Name xs ++ Sign CloseBrace ∷ []

abbrev pub star_words : Bool → List Word
star_words true = Sign Star ∷ []
star_words false = []

abbrev pub items_words : List ItemForm → List Word
items_words [] = []
items_words (i ∷ is) = set_words i.set ++ star_words i.star ++ items_words is

-- braces hold one symbol at least
abbrev pub is_set : SetForm → Bool
is_set Dotted = true
is_set (Bare x) = true
is_set (Braced []) = false
is_set (Braced (x ∷ xs)) = true

abbrev pub are_items : List ItemForm → Bool
are_items is = list_all (λ i. is_set i.set) is

-- The words are these items.
abbrev pub AreItems : List Word → List ItemForm → Type 0
AreItems ws is = IsTrue (are_items is) × (items_words is ≡ ws)

-- ---- from the words to the items

-- The items of words, read from the right: what stands before is an item that wants a star or
-- not, or a set that wants its brace.
pub data ItemsReading : Type 0 where
  -- items
  Items : List ItemForm → ItemsReading
  -- a star, and then items
  Starred : List ItemForm → ItemsReading
  -- symbols, a closing brace with a star or not, and then items
  InBraces : List (List ℕ) → Bool → List ItemForm → ItemsReading

abbrev pub item_before : Word → ItemsReading → Option ItemsReading
item_before (Sign Star) (Items is) = Some (Starred is)
item_before (Sign Dot) (Items is) = Some (Items (item Dotted false ∷ is))
item_before (Sign Dot) (Starred is) = Some (Items (item Dotted true ∷ is))
item_before (Name x) (Items is) = Some (Items (item (Bare x) false ∷ is))
item_before (Name x) (Starred is) = Some (Items (item (Bare x) true ∷ is))
item_before (Sign CloseBrace) (Items is) = Some (InBraces [] false is)
item_before (Sign CloseBrace) (Starred is) = Some (InBraces [] true is)
item_before (Name x) (InBraces xs star is) = Some (InBraces (x ∷ xs) star is)
item_before (Sign OpenBrace) (InBraces (x ∷ xs) star is) =
    Some (Items (item (Braced (x ∷ xs)) star ∷ is))
item_before _ _ = None

abbrev pub items_reading : List Word → Option ItemsReading
items_reading [] = Some (Items [])
items_reading (w ∷ ws) = items_reading ws >>= item_before w

abbrev pub items_in : ItemsReading → Option (List ItemForm)
items_in (Items is) = Some is
items_in _ = None

abbrev pub items_of : List Word → Option (List ItemForm)
items_of ws = items_reading ws >>= items_in

abbrev pub pattern_of : List Word → Option PatternForm
pattern_of (Name x ∷ Sign Colon ∷ ws) =
    option_map (λ is. record { control = x; items = is }) (items_of ws)
pattern_of _ = None
