-- A text and its first line.
use Rattle.std.proofs.Common.{◌≡◌, ◌≢◌, ◌↔◌, inl, inr, ℕ, zero, suc, ◌+◌, ◌-◌, ◌<◌, ◌≤◌, Bool, true, false, not, cond, List, [], ◌∷◌, ◌++◌, length, take, drop, get_or, map, Option, Some, None, refl, sym, ap, subst, ◌∙◌, arith, take-append-drop, drop-cons, add-one, length-drop}
use Rattle.std.proofs.Math.Seq.{take-length, drop-length}
use Rattle.std.specs.Prelude.{◌==◌, nat_lt}
use Rattle.std.specs.List.{position, position_or_len}
use Rattle.std.proofs.lemmas.List.Quantifiers.{position-Some}
use Rattle.std.proofs.lemmas.List.Sums.{fails_before_first, position_or_len_is}
use Rattle.std.proofs.lemmas.Bool.{and_from, false_from_ne_true, eqb-true, ltb-false}
use Rattle.memchr.specs.Find.{IsFirstByte, is_byte}
use Rattle.document_forms.specs.Lines.{pieces, lines, has_no_feed, without_return, IsCut}
use Rattle.std.proofs.lemmas.Bool.Decides.{nat_tests}
use Rattle.document_reader.specs.LinesLeft.{is_feed}

-- ---- the carriage return at the end

last : (n : ℕ) (p : List ℕ) → length p ≡ suc n → get_or p n 0 ≡ 13 → take n p ≡ without_return p
last n [] h e = cc
last zero (b ∷ []) h e = let s : b ≡ 13 = e in rw s refl
last (suc n) (b ∷ []) h e = absurd (omega arith)
last zero (b ∷ c ∷ bs) h e = absurd (omega arith)
last (suc n) (b ∷ c ∷ bs) h e = ap (λ l. b ∷ l) (last n (c ∷ bs) (omega arith) e)

other : (n : ℕ) (p : List ℕ) → length p ≡ suc n → get_or p n 0 ≢ 13 → p ≡ without_return p
other n [] h e = cc
other zero (b ∷ []) h e = rw (false_from_ne_true (b == 13) (λ s. e (eqb-true b 13 s))) refl
other (suc n) (b ∷ []) h e = absurd (omega arith)
other zero (b ∷ c ∷ bs) h e = absurd (omega arith)
other (suc n) (b ∷ c ∷ bs) h e = ap (λ l. b ∷ l) (other n (c ∷ bs) (omega arith) e)

pub return-last : (p : List ℕ) → 0 < length p → get_or p (length p - 1) 0 ≡ 13 → take (length p - 1) p ≡ without_return p
return-last p h e = last (length p - 1) p (omega arith) e

pub return-other : (p : List ℕ) → 0 < length p → get_or p (length p - 1) 0 ≢ 13 → p ≡ without_return p
return-other p h n = other (length p - 1) p (omega arith) n

pub return-nothing : (p : List ℕ) → length p ≤ 0 → p ≡ without_return p
return-nothing [] h = refl
return-nothing (b ∷ bs) h = absurd (omega arith)

-- ---- the first line feed

no_feed : (n : ℕ) (bytes : List ℕ) → n ≤ length bytes → ((k : ℕ) → k < n → is_feed (get_or bytes k 0) ≡ false) → has_no_feed (take n bytes) ≡ true
no_feed zero bytes h f = refl
no_feed (suc n) [] h f = absurd (omega arith)
no_feed (suc n) (b ∷ bs) h f =
    and_from (not (b == 10)) (has_no_feed (take n bs)) (ap not (f 0 (omega arith)))
    (no_feed n bs (omega arith) (λ k l. f (suc k) (omega arith)))

feed_nowhere : (bytes : List ℕ) → position is_feed bytes ≡ None → has_no_feed bytes ≡ true
feed_nowhere bytes e = go (nat_lt (position_or_len is_feed bytes) (length bytes)) refl e
  where
    go : (t : Bool) → nat_lt (position_or_len is_feed bytes) (length bytes) ≡ t → cond t (Some (position_or_len is_feed bytes)) None ≡ None → has_no_feed bytes ≡ true
    go true l s = cc
    go false l s =
        let past = ltb-false (position_or_len is_feed bytes) (length bytes) l in
        subst (λ p. has_no_feed p ≡ true) (take-length bytes)
        (no_feed (length bytes) bytes (omega arith) (λ k m. fails_before_first is_feed bytes k 0 (omega arith)))

-- ---- the first line, by the law on the cutting

abbrev pub OneCutting : Type 0
OneCutting = (bytes : List ℕ) (ps : List (List ℕ)) → (pieces bytes ≡ ps) ↔ IsCut bytes ps

split_at : (bytes : List ℕ) (n : ℕ) → n < length bytes → bytes ≡ take n bytes ++ get_or bytes n 0 ∷ drop (n + 1) bytes
split_at bytes n h = sym (take-append-drop n bytes) ∙ ap (λ l. take n bytes ++ l) (drop-cons bytes n 0 h ∙ ap (λ k. get_or bytes n 0 ∷ drop k bytes) (sym (add-one n)))

pub line-ended : OneCutting → (bytes : List ℕ) (n : ℕ) → position is_feed bytes ≡ Some n → lines bytes ≡ without_return (take n bytes) ∷ lines (drop (n + 1) bytes)
line-ended law bytes n e =
    let rest = drop (n + 1) bytes in
    let f = position-Some is_feed bytes n 0 e in
    let feed = eqb-true (get_or bytes n 0) 10 f.1 in
    let within = f.0 in
    let whole : bytes ≡ take n bytes ++ 10 ∷ rest = split_at bytes n within ∙ ap (λ b. take n bytes ++ b ∷ rest) feed in
    ap (map without_return) ((law bytes (take n bytes ∷ pieces rest)).1 (no_feed n bytes (omega arith) f.2, inl (rest, whole, (law rest (pieces rest)).0 refl)))

pub line-last : OneCutting → (bytes : List ℕ) → 0 < length bytes → position is_feed bytes ≡ None → lines bytes ≡ without_return bytes ∷ []
line-last law bytes h e =
    ap (map without_return) ((law bytes (bytes ∷ [])).1 (feed_nowhere bytes e, inr (refl, (λ s. some s), refl)))
  where
    some : bytes ≡ [] → ⊥
    some s = let z = ap length s in absurd (omega arith)

-- a slice from a place on
pub from-place : (n : ℕ) (bytes : List ℕ) → take (length bytes - n) (drop n bytes) ≡ drop n bytes
from-place n bytes = ap (λ k. take k (drop n bytes)) (sym (length-drop n bytes)) ∙ take-length (drop n bytes)

pub from-end : (bytes : List ℕ) → take (length bytes - length bytes) (drop (length bytes) bytes) ≡ []
from-end bytes = from-place (length bytes) bytes ∙ drop-length bytes

-- ---- the first line feed, as a search finds it

placed : (at long i : ℕ) → at ≡ i → i < long → cond (nat_lt at long) (Some at) None ≡ Some i
placed at long i e h = grind (arith, nat_tests)

missed : (at long : ℕ) → at ≡ long → cond (nat_lt at long) (Some at) None ≡ None
missed at long e = grind (arith, nat_tests)

pub feed_at : (bytes : List ℕ) (r : Option ℕ) → IsFirstByte (is_byte 10) bytes r → r ≡ position is_feed bytes
feed_at bytes None none =
    let n : ℕ = length bytes in
    let at : position_or_len is_feed bytes ≡ n = position_or_len_is is_feed bytes n 0 (omega arith)
    (λ k h. false_from_ne_true (is_feed (get_or bytes k 0)) (none k (omega arith) h)) (λ h. absurd (omega arith)) in
    sym (missed (position_or_len is_feed bytes) n at)
feed_at bytes (Some i) (first, stands) =
    let inside : i < length bytes = first.high in
    let at : position_or_len is_feed bytes ≡ i = position_or_len_is is_feed bytes i 0 (omega arith)
    (λ k h. false_from_ne_true (is_feed (get_or bytes k 0)) (first.before k (omega arith) h)) (λ h. stands) in
    sym (placed (position_or_len is_feed bytes) (length bytes) i at inside)
