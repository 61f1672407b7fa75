-- What a text begins with, and how a loop over its words goes on.
use Rattle.std.specs.Prelude.{◌≡◌, ◌≤◌, ◌<◌, IsTrue, ℕ, Bool, false, List, [], ◌∷◌, ◌++◌, Option, None, Some, is_some, drop, length}
use Rattle.std.specs.List.{list_all}
use Rattle.wpds_port.specs.Tokens.{is_blank, Word}
use Rattle.wpds_port.specs.Words.{text_words, lawful_words, word_of, before, behind, before_outside, behind_outside, IsNext}
use Rattle.wpds_port.specs.declared.words.Front.{Front}
use Rattle.wpds_port.specs.declared.words.Front.TheVariants.{End, Unknown, Word as WordFront}

abbrev pub IsFront : List ℕ → Front → Type 0
IsFront text End = IsTrue (list_all is_blank text)
IsFront text Unknown = text_words text ≡ None
IsFront text (WordFront l rest) = IsNext text (word_of l) rest.now

-- A front of the text, so long, that leaves the question whether it is cut wholly into words which a
-- form takes to the rest; without one the answer is no.
abbrev pub IsLawfulStart : List ℕ → Option ℕ → Type 0
IsLawfulStart text None = is_some (lawful_words text) ≡ false
IsLawfulStart text (Some n) =
    (0 < n) × (n ≤ length text) × (is_some (lawful_words text) ≡ is_some (lawful_words (drop n text)))

-- Reading these words of the text leads to the rest.
abbrev pub Reaches : List ℕ → List Word → List ℕ → Type 0
Reaches text [] rest = text ≡ rest
Reaches text (w ∷ ws) rest = (middle : List ℕ) × IsNext text w middle × Reaches middle ws rest

-- How a text is cut in two: the words of its front and, where it is cut, those behind.
pub record Cutting : Type 0 where
  pub front : List Word → List Word
  pub back : List Word → Option (List Word)

-- What a search has read of a text up to a place: words behind which it is cut as it was at first,
-- or as it is cut now.
pub record HasPassed (first now : Cutting) (text : List ℕ) (place : ℕ) : Type 0 where
  pub within : place ≤ length text
  pub words : List Word
  pub reached : Reaches text words (drop place text)
  pub front : (ws : List Word) → first.front (words ++ ws) ≡ words ++ now.front ws
  pub back : (ws : List Word) → first.back (words ++ ws) ≡ now.back ws

-- at the first word at which a test holds
abbrev pub at_first : (Word → Bool) → Cutting
at_first test = record { front = before test; back = behind test }

-- at the first one outside brackets, where so many are open
abbrev pub outside : ℕ → (Word → Bool) → Cutting
outside d test = record { front = before_outside d test; back = behind_outside d test }
