-- A word of a text stops exactly where no longer word begins the text.
use Rattle.std.proofs.Common.{◌≡◌, ◌↔◌, ℕ, ◌≤◌, Bool, true, false, not, List, [], ◌∷◌, ◌++◌, length, Some, refl, sym, ap, ◌∙◌, subst, arith, append_assoc, length-append}
use Rattle.std.specs.Prelude.{◌==◌, IfSome}
use Rattle.std.specs.List.{list_all}
use Rattle.std.proofs.lemmas.Bool.{and_parts, and_from, eqb-true}
use Rattle.wpds_port.specs.Tokens.{Mark, Arrow, Implies, Becomes, Differs, Colon, Minus, Equal, Not, mark_text, Word, Name, Number, Sign, word_text, word_at, bytes_while, is_digit, begins_name, goes_on_name, is_word, stops, IsLongest}
use Rattle.wpds_port.proofs.WordLemmas.{digit_begins_no_name, word_again, word_cut, IsCutOff}
use Rattle.wpds_port.proofs.TokenLemmas.{word_some}

-- ---- a word that stops is the longest

front_within : (test : ℕ → Bool) (xs more : List ℕ) → list_all test xs ≡ true → length xs ≤ length (bytes_while test (xs ++ more))
front_within test [] more h = omega arith
front_within test (x ∷ xs) more h =
    let k = and_parts (test x) (list_all test xs) h in
    let l : length xs ≤ length (bytes_while test (xs ++ more)) = front_within test xs more k.1 in
    rw k.0 (omega arith)

name_goes_on : (b : ℕ) → begins_name b ≡ true → goes_on_name b ≡ true
name_goes_on b h = rw h refl

some_at_front : (text : List ℕ) (w : Word) → word_at text ≡ Some w → 1 ≤ length (word_text w)
some_at_front text w e =
    let i = subst (λ o. IfSome o (λ w. (rest : List ℕ) × IsCutOff text w rest)) e (word_cut text) in
    word_some w i.1.word

not_longer : (v w : Word) (more : List ℕ) → is_word v ≡ true → word_at (word_text v ++ more) ≡ Some w → length (word_text v) ≤ length (word_text w)
not_longer (Name []) w more h e = cc
not_longer (Name (b ∷ bs)) w more h e =
    let k = and_parts (begins_name b) (list_all goes_on_name bs) h in
    let all : list_all goes_on_name (b ∷ bs) ≡ true = and_from (goes_on_name b) (list_all goes_on_name bs) (name_goes_on b k.0) k.1 in
    let there : word_at (b ∷ (bs ++ more)) ≡ Some (Name (bytes_while goes_on_name (b ∷ (bs ++ more)))) = rw k.0 refl in
    let same : w ≡ Name (bytes_while goes_on_name (b ∷ (bs ++ more))) = cc in
    subst (λ x. length (b ∷ bs) ≤ length (word_text x)) (sym same) (front_within goes_on_name (b ∷ bs) more all)
not_longer (Number []) w more h e = cc
not_longer (Number (b ∷ bs)) w more h e =
    let k = and_parts (is_digit b) (list_all is_digit bs) h in
    let there : word_at (b ∷ (bs ++ more)) ≡ Some (Number (bytes_while is_digit (b ∷ (bs ++ more)))) = rw (digit_begins_no_name b k.0, k.0) refl in
    let same : w ≡ Number (bytes_while is_digit (b ∷ (bs ++ more))) = cc in
    subst (λ x. length (b ∷ bs) ≤ length (word_text x)) (sym same) (front_within is_digit (b ∷ bs) more h)
not_longer (Sign Arrow) w more h e = let same : w ≡ Sign Arrow = cc in subst (λ x. 2 ≤ length (word_text x)) (sym same) (omega arith)
not_longer (Sign Implies) w more h e = let same : w ≡ Sign Implies = cc in subst (λ x. 2 ≤ length (word_text x)) (sym same) (omega arith)
not_longer (Sign Becomes) w more h e = let same : w ≡ Sign Becomes = cc in subst (λ x. 2 ≤ length (word_text x)) (sym same) (omega arith)
not_longer (Sign Differs) w more h e = let same : w ≡ Sign Differs = cc in subst (λ x. 2 ≤ length (word_text x)) (sym same) (omega arith)
not_longer (Sign m) w more h e = some_at_front (mark_text m ++ more) w e

-- ---- a word that is the longest stops

list_all-last : (test : ℕ → Bool) (xs : List ℕ) (b : ℕ) → list_all test xs ≡ true → test b ≡ true → list_all test (xs ++ b ∷ []) ≡ true
list_all-last test [] b h e = and_from (test b) true e refl
list_all-last test (x ∷ xs) b h e =
    let k = and_parts (test x) (list_all test xs) h in
    and_from (test x) (list_all test (xs ++ b ∷ [])) k.0 (list_all-last test xs b k.1 e)

too_long : (xs : List ℕ) (b : ℕ) → length (xs ++ b ∷ []) ≤ length xs → ⊥
too_long xs b l = omega (arith, length-append xs (b ∷ []))

longer_name : (bytes : List ℕ) (b : ℕ) → is_word (Name bytes) ≡ true → goes_on_name b ≡ true → is_word (Name (bytes ++ b ∷ [])) ≡ true
longer_name [] b h e = cc
longer_name (x ∷ xs) b h e =
    let k = and_parts (begins_name x) (list_all goes_on_name xs) h in
    and_from (begins_name x) (list_all goes_on_name (xs ++ b ∷ [])) k.0 (list_all-last goes_on_name xs b k.1 e)

longer_number : (bytes : List ℕ) (b : ℕ) → is_word (Number bytes) ≡ true → is_digit b ≡ true → is_word (Number (bytes ++ b ∷ [])) ≡ true
longer_number [] b h e = cc
longer_number (x ∷ xs) b h e = list_all-last is_digit (x ∷ xs) b h e

-- the mark of one byte with the byte n behind it is another mark
stops_pair : (m longer : Mark) (a n b : ℕ) (bs : List ℕ) → mark_text m ≡ a ∷ [] → mark_text longer ≡ a ∷ n ∷ [] → IsLongest (Sign m) (b ∷ bs) → not (b == n) ≡ true
stops_pair m longer a n b bs one two longest = go (b == n) refl
  where
    go : (t : Bool) → (b == n) ≡ t → not t ≡ true
    go false e = refl
    go true e =
        let same : b ≡ n = eqb-true b n e in
        let front : mark_text m ++ (b ∷ bs) ≡ mark_text longer ++ bs = ap (λ x. x ++ (b ∷ bs)) one ∙ ap (λ x. a ∷ x ∷ bs) same ∙ ap (λ x. x ++ bs) (sym two) in
        let l : length (mark_text longer) ≤ length (mark_text m) = longest (Sign longer) bs refl front in
        absurd (omega (arith, ap length one, ap length two))

longest_stops : (w : Word) (rest : List ℕ) → is_word w ≡ true → IsLongest w rest → stops w rest ≡ true
longest_stops (Name bytes) [] h longest = refl
longest_stops (Name bytes) (b ∷ bs) h longest = go (goes_on_name b) refl
  where
    go : (t : Bool) → goes_on_name b ≡ t → not t ≡ true
    go false e = refl
    go true e = absurd (too_long bytes b (longest (Name (bytes ++ b ∷ [])) bs (longer_name bytes b h e) (sym (append_assoc bytes (b ∷ []) bs))))
longest_stops (Number bytes) [] h longest = refl
longest_stops (Number bytes) (b ∷ bs) h longest = go (is_digit b) refl
  where
    go : (t : Bool) → is_digit b ≡ t → not t ≡ true
    go false e = refl
    go true e = absurd (too_long bytes b (longest (Number (bytes ++ b ∷ [])) bs (longer_number bytes b h e) (sym (append_assoc bytes (b ∷ []) bs))))
longest_stops (Sign m) [] h longest = refl
longest_stops (Sign Minus) (b ∷ bs) h longest = stops_pair Minus Arrow 45 62 b bs refl refl longest
longest_stops (Sign Equal) (b ∷ bs) h longest = stops_pair Equal Implies 61 62 b bs refl refl longest
longest_stops (Sign Colon) (b ∷ bs) h longest = stops_pair Colon Becomes 58 61 b bs refl refl longest
longest_stops (Sign Not) (b ∷ bs) h longest = stops_pair Not Differs 33 61 b bs refl refl longest
longest_stops (Sign m) (b ∷ bs) h longest = refl

pub stops_exactly : (w : Word) (rest : List ℕ) → is_word w ≡ true → (stops w rest ≡ true) ↔ IsLongest w rest
stops_exactly w rest h = ((λ s v more k same. not_longer v w more k (ap word_at (sym same) ∙ word_again w rest h s)), longest_stops w rest h)
