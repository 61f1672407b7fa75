-- How a document is cut into lines, and which of them count.
use Rattle.std.specs.Prelude.{◌≡◌, ◌≢◌, ◌⊎◌, ◌++◌, IsTrue, ℕ, ◌+◌, Bool, false, not, ◌||◌, ◌&&◌, ◌==◌, nat_le, if◌then◌else◌, List, [], ◌∷◌, map}
use Rattle.std.specs.List.{list_all}
use Rattle.wpds_port.specs.Tokens.{is_blank}

-- ---- the cutting

-- an item in front of the first piece
abbrev pub in_front : {A : Type 0} → A → List (List A) → List (List A)
in_front x [] = (x ∷ []) ∷ []
in_front x (p ∷ ps) = (x ∷ p) ∷ ps

-- The pieces that line feeds end. What stands behind the last line feed is a piece too, if it
-- isn't empty.
abbrev pub pieces : List ℕ → List (List ℕ)
pieces [] = []
pieces (b ∷ bs) = if b == 10 then [] ∷ pieces bs else in_front b (pieces bs)

abbrev pub has_no_feed : List ℕ → Bool
has_no_feed p = list_all (λ b. not (b == 10)) p

-- A piece that a line feed ends, and what its rest is cut into.
abbrev pub IsEnded : List ℕ → List ℕ → (List ℕ → Type 0) → Type 0
IsEnded bytes p Rest = (rest : List ℕ) × (bytes ≡ p ++ 10 ∷ rest) × Rest rest

-- The last piece, which isn't empty, without a line feed behind it.
abbrev pub IsLast : List ℕ → List ℕ → List (List ℕ) → Type 0
IsLast bytes p ps = (bytes ≡ p) × (p ≢ []) × (ps ≡ [])

-- The bytes are these pieces: none holds a line feed, and each but perhaps the last is ended by
-- one.
abbrev pub IsCut : List ℕ → List (List ℕ) → Type 0
IsCut bytes [] = bytes ≡ []
IsCut bytes (p ∷ ps) =
    IsTrue (has_no_feed p) × (IsEnded bytes p (λ rest. IsCut rest ps) ⊎ IsLast bytes p ps)

-- without the carriage return at the end, if one is there
abbrev pub without_return : List ℕ → List ℕ
without_return [] = []
without_return (b ∷ []) = if b == 13 then [] else b ∷ []
without_return (b ∷ c ∷ bs) = b ∷ without_return (c ∷ bs)

abbrev pub lines : List ℕ → List (List ℕ)
lines bytes = map without_return (pieces bytes)

-- ---- which lines count

abbrev pub past_blanks : List ℕ → List ℕ
past_blanks [] = []
past_blanks (b ∷ bs) = if is_blank b then past_blanks bs else b ∷ bs

-- something is there, and it is no `#`
abbrev pub is_said : List ℕ → Bool
is_said [] = false
is_said (b ∷ bs) = not (b == 35)

-- the line is neither blank nor a remark
abbrev pub counts : List ℕ → Bool
counts line = is_said (past_blanks line)

-- tab, and the bytes from 32 to 126
abbrev pub is_allowed : ℕ → Bool
is_allowed b = b == 9 || (nat_le 32 b && nat_le b 126)

abbrev pub is_text : List ℕ → Bool
is_text line = list_all is_allowed line

-- A line with its number, from 1.
pub record Line : Type 0 where
  pub number : ℕ
  pub bytes : List ℕ

abbrev pub numbered : ℕ → List (List ℕ) → List Line
numbered n [] = []
numbered n (l ∷ ls) = record { number = n; bytes = l } ∷ numbered (n + 1) ls
