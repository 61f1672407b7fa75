-- How a line is cut into tokens.
use Rattle.std.specs.Prelude.{◌≡◌, ◌++◌, IsTrue, ◌≢◌, ℕ, zero, suc, ◌+◌, ◌-◌, ◌≤◌, ◌<◌, Bool, true, false, not, ◌||◌, ◌&&◌, ◌==◌, nat_le, nat_eq, if◌then◌else◌, List, [], ◌∷◌, length, take, drop, find, Option, Some, None, option_map, codes, cond}
use Rattle.std.specs.List.{starts_with, list_all}
use Rattle.wpds_base.specs.Limits.{longest_name}
pub use Rattle.wpds_port.specs.declared.token.Mark.{Mark}
pub use Rattle.wpds_port.specs.declared.token.Mark.TheVariants.{Arrow, Implies, Becomes, Differs, Colon, Semicolon, Comma, Dot, Star, Plus, Minus, Equal, Question, Not, And, Or, Xor, Open, Close, OpenBrace, CloseBrace}
pub use Rattle.wpds_port.specs.declared.token.Word.{Word}
pub use Rattle.wpds_port.specs.declared.token.Word.TheVariants.{Name, Number, Mark as Sign}
pub use Rattle.wpds_port.specs.declared.token.Token.{Token}

-- space and tab
abbrev pub is_blank : ℕ → Bool
is_blank b = b == 32 || b == 9

abbrev pub mark_text : Mark → List ℕ
mark_text Arrow = codes "->"
mark_text Implies = codes "=>"
mark_text Becomes = codes ":="
mark_text Differs = codes "!="
mark_text Colon = codes ":"
mark_text Semicolon = codes ";"
mark_text Comma = codes ","
mark_text Dot = codes "."
mark_text Star = codes "*"
mark_text Plus = codes "+"
mark_text Minus = codes "-"
mark_text Equal = codes "="
mark_text Question = codes "?"
mark_text Not = codes "!"
mark_text And = codes "&"
mark_text Or = codes "|"
mark_text Xor = codes "^"
mark_text Open = codes "("
mark_text Close = codes ")"
mark_text OpenBrace = codes "{"
mark_text CloseBrace = codes "}"

-- all marks, the longer ones first
abbrev pub marks : List Mark
marks = Arrow ∷ Implies ∷ Becomes ∷ Differs ∷ Colon ∷ Semicolon ∷ Comma ∷ Dot ∷ Star ∷ Plus ∷ Minus ∷ Equal ∷ Question ∷ Not ∷ And ∷ Or ∷ Xor ∷ Open ∷ Close ∷ OpenBrace ∷ CloseBrace ∷ []

abbrev pub word_text : Word → List ℕ
word_text (Name bytes) = bytes
word_text (Number bytes) = bytes
word_text (Sign m) = mark_text m

abbrev pub is_digit : ℕ → Bool
is_digit b = nat_le 48 b && nat_le b 57

-- a letter or `_`
abbrev pub begins_name : ℕ → Bool
begins_name b = (nat_le 65 b && nat_le b 90) || (nat_le 97 b && nat_le b 122) || b == 95

-- these, digits, `$` and `@`
abbrev pub goes_on_name : ℕ → Bool
goes_on_name b = begins_name b || is_digit b || b == 36 || b == 64

-- ---- what a token is, and that it is the longest

abbrev pub is_name_text : List ℕ → Bool
is_name_text [] = false
is_name_text (b ∷ bs) = begins_name b && list_all goes_on_name bs

abbrev pub is_number_text : List ℕ → Bool
is_number_text [] = false
is_number_text (b ∷ bs) = is_digit b && list_all is_digit bs

abbrev pub is_word : Word → Bool
is_word (Name bytes) = is_name_text bytes
is_word (Number bytes) = is_number_text bytes
is_word (Sign m) = true

-- with this byte behind it a word begins a longer one
abbrev pub goes_on : Word → ℕ → Bool
goes_on (Name bytes) b = goes_on_name b
goes_on (Number bytes) b = is_digit b
goes_on (Sign Minus) b = b == 62
goes_on (Sign Equal) b = b == 62
goes_on (Sign Colon) b = b == 61
goes_on (Sign Not) b = b == 61
goes_on (Sign _) b = false

abbrev pub stops : Word → List ℕ → Bool
stops w [] = true
stops w (b ∷ bs) = not (goes_on w b)

-- ---- what a form takes of words

-- a zero in front of another digit
abbrev pub has_leading_zero : List ℕ → Bool
has_leading_zero (d ∷ e ∷ ds) = d == 48
has_leading_zero _ = false

-- a name that is not too long, a number without a leading zero, or a mark
abbrev pub is_lawful_word : Word → Bool
is_lawful_word (Name bytes) = nat_le (length bytes) longest_name
is_lawful_word (Number bytes) = not (has_leading_zero bytes)
is_lawful_word (Sign m) = true

-- ---- the cutting

-- the first mark of the list that the text begins with: the longest
abbrev pub mark_at : List ℕ → Option Mark
mark_at text = find (λ m. starts_with nat_eq text (mark_text m)) marks

-- the bytes at the front at which the test holds
abbrev pub bytes_while : (ℕ → Bool) → List ℕ → List ℕ
bytes_while test [] = []
bytes_while test (b ∷ bs) = cond (test b) (b ∷ bytes_while test bs) []

-- the longest token that the text begins with
abbrev pub word_at : List ℕ → Option Word
word_at [] = None
word_at (b ∷ bs) =
    if begins_name b then Some (Name (bytes_while goes_on_name (b ∷ bs)))
    else (if is_digit b then Some (Number (bytes_while is_digit (b ∷ bs))) else option_map Sign (mark_at (b ∷ bs)))

abbrev pub token : ℕ → Word → Token
token place w = record { word = w; start = place; end = place + length (word_text w) }

-- The tokens of a text that begins at a place of the line, and whose first bytes, so many of them, belong to the token before.
abbrev pub tokens_from : ℕ → ℕ → List ℕ → Option (List Token)
tokens_from place _ [] = Some []
tokens_from place (suc k) (b ∷ bs) = tokens_from (place + 1) k bs
tokens_from place zero (b ∷ bs) = elim (is_blank b) [
  | true ↦ tokens_from (place + 1) 0 bs
  | false ↦ elim (word_at (b ∷ bs)) [
    | None ↦ None
    | Some w ↦ option_map (λ ts. token place w ∷ ts) (tokens_from (place + 1) (length (word_text w) - 1) bs)
  ]
]

-- the tokens of a line, if it is cut wholly into tokens
abbrev pub tokens : List ℕ → Option (List Token)
tokens line = tokens_from 0 0 line

-- ---- what the tokens of a text are that begins at a place

-- A token behind blanks: the text is the blanks, the token's text and a rest that does not go on the token.
pub record IsFirst (place : ℕ) (text : List ℕ) (t : Token) (blanks rest : List ℕ) : Type 0 where
  pub blank : IsTrue (list_all is_blank blanks)
  pub joined : text ≡ blanks ++ (word_text t.word ++ rest)
  pub word : IsTrue (is_word t.word)
  pub stop : IsTrue (stops t.word rest)
  pub at : t ≡ token (place + length blanks) t.word

abbrev pub AreTokens : ℕ → List ℕ → List Token → Type 0
AreTokens place text [] = IsTrue (list_all is_blank text)
AreTokens place text (t ∷ ts) = (blanks : List ℕ) × (rest : List ℕ) × IsFirst place text t blanks rest × AreTokens t.end rest ts

-- ---- where tokens stand in their line

-- no word that the text begins with is longer than this one, behind which the rest comes
abbrev pub IsLongest : Word → List ℕ → Type 0
IsLongest w rest = (v : Word) (more : List ℕ) → IsTrue (is_word v) → word_text w ++ rest ≡ word_text v ++ more → length (word_text v) ≤ length (word_text w)

-- the bytes of the line from the token's start up to its end are its text
pub record StandsIn (line : List ℕ) (t : Token) : Type 0 where
  pub some : t.start < t.end
  pub within : t.end ≤ length line
  pub text : take (t.end - t.start) (drop t.start line) ≡ word_text t.word

-- each token begins where the one before ends or behind, the first one at the place or behind
abbrev pub AreInOrder : ℕ → List Token → Type 0
AreInOrder place [] = Unit {0}
AreInOrder place (t ∷ ts) = (place ≤ t.start) × AreInOrder t.end ts

-- ---- where the cutting stops at a byte that begins no token

-- a byte that is no blank is there
abbrev pub begins_said : List ℕ → Bool
begins_said [] = false
begins_said (b ∷ bs) = not (is_blank b)

-- No token is a front of the text, which begins with a byte that is no blank.
pub record BeginsNoToken (text : List ℕ) : Type 0 where
  pub here : IsTrue (begins_said text)
  pub none : (w : Word) (rest : List ℕ) → IsTrue (is_word w) → text ≢ word_text w ++ rest

-- Behind these tokens and blanks comes what begins no token.
abbrev pub StopsBehind : ℕ → List ℕ → List Token → Type 0
StopsBehind place text [] = (blanks : List ℕ) × (rest : List ℕ) × IsTrue (list_all is_blank blanks) × (text ≡ blanks ++ rest) × BeginsNoToken rest
StopsBehind place text (t ∷ ts) = (blanks : List ℕ) × (rest : List ℕ) × IsFirst place text t blanks rest × StopsBehind t.end rest ts

abbrev pub IsStuck : List ℕ → Type 0
IsStuck line = (ts : List Token) × StopsBehind 0 line ts
