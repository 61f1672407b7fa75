-- Bytes that are read eight at a time.
use Rattle.std.proofs.Common.{◌≡◌, ℕ, ◌+◌, ◌<◌, ◌≤◌, false, List, [], ◌∷◌, ◌++◌, length, take, drop, refl, sym, ap, ap₂, ◌∙◌, w64, arith}
use Rattle.std.specs.Prelude.{bytes_eq, ◌&&◌}
use Rattle.std.specs.Int.{from_le_bytes}
use Rattle.std.proofs.lemmas.Bool.{eq-eqb, false_from_ne_true}
use Rattle.std.proofs.lemmas.List.{take-append-drop, drop-drop}
use Rattle.std.proofs.lemmas.Slice.Eq.{bytes_eq-Decides}
use Rattle.key_rows.specs.Keys.{mixed, spelled, bytes_mixed}

-- the first eight bytes are mixed in, and the others behind them
word_mixed : (hash : ℕ) (bytes : List ℕ) → 8 ≤ length bytes
    → bytes_mixed hash bytes ≡ bytes_mixed (mixed hash (from_le_bytes w64 (take 8 bytes))) (drop 8 bytes)
word_mixed hash [] long = absurd (omega arith)
word_mixed hash (a ∷ []) long = absurd (omega arith)
word_mixed hash (a ∷ b ∷ []) long = absurd (omega arith)
word_mixed hash (a ∷ b ∷ c ∷ []) long = absurd (omega arith)
word_mixed hash (a ∷ b ∷ c ∷ d ∷ []) long = absurd (omega arith)
word_mixed hash (a ∷ b ∷ c ∷ d ∷ e ∷ []) long = absurd (omega arith)
word_mixed hash (a ∷ b ∷ c ∷ d ∷ e ∷ f ∷ []) long = absurd (omega arith)
word_mixed hash (a ∷ b ∷ c ∷ d ∷ e ∷ f ∷ g ∷ []) long = absurd (omega arith)
word_mixed hash (a ∷ b ∷ c ∷ d ∷ e ∷ f ∷ g ∷ h ∷ bytes) long = refl

-- fewer than eight bytes are mixed in as one word
pub rest_mixed : (hash : ℕ) (bytes : List ℕ) → length bytes < 8 → bytes_mixed hash bytes ≡ mixed hash (spelled 1 bytes)
rest_mixed hash [] few = refl
rest_mixed hash (a ∷ []) few = refl
rest_mixed hash (a ∷ b ∷ []) few = refl
rest_mixed hash (a ∷ b ∷ c ∷ []) few = refl
rest_mixed hash (a ∷ b ∷ c ∷ d ∷ []) few = refl
rest_mixed hash (a ∷ b ∷ c ∷ d ∷ e ∷ []) few = refl
rest_mixed hash (a ∷ b ∷ c ∷ d ∷ e ∷ f ∷ []) few = refl
rest_mixed hash (a ∷ b ∷ c ∷ d ∷ e ∷ f ∷ g ∷ []) few = refl
rest_mixed hash (a ∷ b ∷ c ∷ d ∷ e ∷ f ∷ g ∷ h ∷ bytes) few = absurd (omega arith)

same_front : (front xs ys : List ℕ) → bytes_eq (front ++ xs) (front ++ ys) ≡ bytes_eq xs ys
same_front [] xs ys = refl
same_front (x ∷ front) xs ys = ap (λ t. t && bytes_eq (front ++ xs) (front ++ ys)) (eq-eqb x x refl) ∙ same_front front xs ys

-- behind eight bytes that are the same on both sides
module _ (a b : List ℕ) (i : ℕ) where
  pub behind_word : take 8 (drop i a) ≡ take 8 (drop i b)
      → bytes_eq (drop i a) (drop i b) ≡ bytes_eq (drop (i + 8) a) (drop (i + 8) b)
  behind_word same =
      sym (ap₂ bytes_eq (take-append-drop 8 (drop i a)) (take-append-drop 8 (drop i b)))
      ∙ ap (λ front. bytes_eq (front ++ drop 8 (drop i a)) (take 8 (drop i b) ++ drop 8 (drop i b))) same
      ∙ same_front (take 8 (drop i b)) (drop 8 (drop i a)) (drop 8 (drop i b))
      ∙ ap₂ bytes_eq (drop-drop 8 i a) (drop-drop 8 i b)

  -- where the next eight differ
  pub other_word : (take 8 (drop i a) ≡ take 8 (drop i b) → ⊥) → bytes_eq (drop i a) (drop i b) ≡ false
  other_word apart = false_from_ne_true (bytes_eq (drop i a) (drop i b)) (λ e. apart (ap (take 8) ((bytes_eq-Decides (drop i a) (drop i b)).0 e)))

-- the next eight bytes are mixed in
pub word_mixed_at : (hash : ℕ) (bytes : List ℕ) (i : ℕ) → 8 ≤ length (drop i bytes)
    → bytes_mixed hash (drop i bytes) ≡ bytes_mixed (mixed hash (from_le_bytes w64 (take 8 (drop i bytes)))) (drop (i + 8) bytes)
word_mixed_at hash bytes i long =
    word_mixed hash (drop i bytes) long ∙ ap (bytes_mixed (mixed hash (from_le_bytes w64 (take 8 (drop i bytes))))) (drop-drop 8 i bytes)
