-- The words of a text, and where it is cut at a word.
use Rattle.std.specs.Prelude.{◌≡◌, IsTrue, ℕ, ◌+◌, ◌-◌, Bool, true, false, ◌&&◌, ◌==◌, if◌then◌else◌, List, [], ◌∷◌, ◌++◌, map, Option, Some, None, option_map, option_and_then, bytes_eq, cond}
use Rattle.std.specs.List.{list_all}
use Rattle.wpds_port.specs.Tokens.{Open, Close, Word, Name, Number, Sign, Token, is_blank, mark_text, word_text, is_word, stops, is_lawful_word, tokens}
use Rattle.wpds_port.specs.declared.lexeme.Lexeme.{Lexeme}
use Rattle.wpds_port.specs.declared.lexeme.Lexeme.TheVariants.{Name as NameLexeme, Number as NumberLexeme, Mark as MarkLexeme}

abbrev pub words_of : List Token → List Word
words_of ts = map (λ t. t.word) ts

-- the words of a text, if it is cut wholly into tokens
abbrev pub text_words : List ℕ → Option (List Word)
text_words text = option_map words_of (tokens text)

abbrev pub if_lawful : List Word → Option (List Word)
if_lawful ws = if list_all is_lawful_word ws then Some ws else None

-- the same, if a form takes each of them
abbrev pub lawful_words : List ℕ → Option (List Word)
lawful_words text = option_and_then if_lawful (text_words text)

-- the word whose bytes are borrowed
abbrev pub word_of : Lexeme → Word
word_of (NameLexeme bytes) = Name bytes.now
word_of (NumberLexeme bytes) = Number bytes.now
word_of (MarkLexeme m) = Sign m

abbrev pub same_word : Word → Word → Bool
same_word (Name x) (Name y) = bytes_eq x y
same_word (Number x) (Number y) = bytes_eq x y
same_word (Sign m) (Sign n) = bytes_eq (mark_text m) (mark_text n)
same_word _ _ = false

-- ---- cutting at the first word at which a test holds

-- the words before it, and all of them where there is none
abbrev pub before : (Word → Bool) → List Word → List Word
before test [] = []
before test (w ∷ ws) = cond (test w) [] (w ∷ before test ws)

-- the words behind it, if there is one
abbrev pub behind : (Word → Bool) → List Word → Option (List Word)
behind test [] = None
behind test (w ∷ ws) = cond (test w) (Some ws) (behind test ws)

-- ---- the same, only where no bracket is open

-- brackets that are open behind a word
abbrev pub brackets_after : ℕ → Word → ℕ
brackets_after d (Sign Open) = d + 1
brackets_after d (Sign Close) = d - 1
brackets_after d _ = d

abbrev pub before_outside : ℕ → (Word → Bool) → List Word → List Word
before_outside d test [] = []
before_outside d test (w ∷ ws) = elim (d == 0 && test w) [
  | true ↦ []
  | false ↦ w ∷ before_outside (brackets_after d w) test ws
]

abbrev pub behind_outside : ℕ → (Word → Bool) → List Word → Option (List Word)
behind_outside d test [] = None
behind_outside d test (w ∷ ws) = elim (d == 0 && test w) [
  | true ↦ Some ws
  | false ↦ behind_outside (brackets_after d w) test ws
]

-- ---- where a word stands in front

-- Behind blanks the text begins with the word, as long as it can be, and then comes the rest.
pub record IsNext (text : List ℕ) (w : Word) (rest : List ℕ) : Type 0 where
  pub blanks : List ℕ
  pub blank : IsTrue (list_all is_blank blanks)
  pub joined : text ≡ blanks ++ (word_text w ++ rest)
  pub word : IsTrue (is_word w)
  pub stop : IsTrue (stops w rest)
