-- The words of a text, one after the other.
use Rattle.std.proofs.Common.{◌≡◌, ℕ, zero, suc, ◌+◌, ◌-◌, ◌≤◌, ◌<◌, Bool, true, false, not, nat_le, List, [], ◌∷◌, ◌++◌, get_or, length, take, drop, Option, Some, None, option_map, refl, sym, ap, ◌∙◌, subst, arith, append-nil, length-append}
use Rattle.std.specs.Prelude.{if◌then◌else◌, option_and_then, unwrap_or, is_some, IsTrue, IfSome}
use Rattle.std.specs.List.{list_all}
use Rattle.std.proofs.lemmas.Bool.{not-true}
use Rattle.std.proofs.lemmas.Bool.Decides.{nat_tests}
use Rattle.std.proofs.lemmas.List.{take-append-drop, length-take-le}
use Rattle.std.proofs.Math.Seq.{drop-append_seam}
use Rattle.wpds_port.specs.Tokens.{is_blank, is_digit, begins_name, goes_on_name, bytes_while, has_leading_zero, Mark, mark_at, mark_text, Word, Name, Number, Sign, word_text, word_at, is_lawful_word, Token, token, tokens_from, begins_said}
use Rattle.wpds_port.specs.Words.{words_of, text_words, if_lawful, lawful_words, IsNext}
use Rattle.wpds_port.specs.private.Fronts.{IsLawfulStart}
use Rattle.wpds_port.proofs.TokenLemmas.{blanks_skipped, word_taken, word_some}
use Rattle.wpds_port.proofs.WordLemmas.{IsCutOff, word_cut}

-- ---- the words do not depend on the place

abbrev words_from : ℕ → ℕ → List ℕ → Option (List Word)
words_from place k bs = option_map words_of (tokens_from place k bs)

in_front : (t : Token) (o : Option (List Token)) → option_map words_of (option_map (λ ts. t ∷ ts) o) ≡ option_map (λ ws. t.word ∷ ws) (option_map words_of o)
in_front t None = refl
in_front t (Some ts) = refl

pub placeless : (bs : List ℕ) (p q k : ℕ) → words_from p k bs ≡ words_from q k bs
placeless [] p q zero = refl
placeless [] p q (suc k) = refl
placeless (b ∷ bs) p q (suc k) = placeless bs (p + 1) (q + 1) k
placeless (b ∷ bs) p q zero = go (is_blank b) (word_at (b ∷ bs)) (placeless bs (p + 1) (q + 1))
  where
    at : ℕ → Bool → Option Word → Option (List Token)
    at place t o = elim t [ true ↦ tokens_from (place + 1) 0 bs | false ↦ elim o [ None ↦ None | Some w ↦ option_map (λ ts. token place w ∷ ts) (tokens_from (place + 1) (length (word_text w) - 1) bs) ] ]

    go : (t : Bool) (o : Option Word) → ((k : ℕ) → words_from (p + 1) k bs ≡ words_from (q + 1) k bs) → option_map words_of (at p t o) ≡ option_map words_of (at q t o)
    go true o same = same 0
    go false None same = refl
    go false (Some w) same =
        let n : ℕ = length (word_text w) - 1 in
        in_front (token p w) (tokens_from (p + 1) n bs) ∙ ap (option_map (λ ws. w ∷ ws)) (same n) ∙ sym (in_front (token q w) (tokens_from (q + 1) n bs))

-- ---- a word in front

pub next_words : (text : List ℕ) (w : Word) (rest : List ℕ) → IsNext text w rest → text_words text ≡ option_map (λ ws. w ∷ ws) (text_words rest)
next_words text w rest n =
    let p : ℕ = length n.blanks in
    let q : ℕ = p + length (word_text w) in
    ap (λ x. words_from 0 0 x) n.joined
    ∙ ap (option_map words_of) (blanks_skipped 0 n.blanks (word_text w ++ rest) n.blank ∙ ap (λ k. tokens_from k 0 (word_text w ++ rest)) (omega arith) ∙ word_taken p w rest n.word n.stop)
    ∙ in_front (token p w) (tokens_from q 0 rest)
    ∙ ap (option_map (λ ws. w ∷ ws)) (placeless rest q 0 0)

pub blank_words : (text : List ℕ) → list_all is_blank text ≡ true → text_words text ≡ Some []
blank_words text h = ap (λ x. words_from 0 0 x) (sym (append-nil text)) ∙ ap (option_map words_of) (blanks_skipped 0 text [] h)

abbrev lawful_in : Option (List Word) → Option (List Word)
lawful_in o = option_and_then if_lawful o

lawful_more : (w : Word) (o : Option (List Word)) → is_lawful_word w ≡ true → lawful_in (option_map (λ ws. w ∷ ws) o) ≡ option_map (λ ws. w ∷ ws) (lawful_in o)
lawful_more w None h = refl
lawful_more w (Some ws) h = rw h (go (list_all is_lawful_word ws))
  where
    go : (t : Bool) → (if t then Some (w ∷ ws) else None) ≡ option_map (λ vs. w ∷ vs) (if t then Some ws else None)
    go true = refl
    go false = refl

lawless_more : (w : Word) (o : Option (List Word)) → is_lawful_word w ≡ false → lawful_in (option_map (λ ws. w ∷ ws) o) ≡ None
lawless_more w None h = refl
lawless_more w (Some ws) h = rw h refl

pub lawful_next : (text : List ℕ) (w : Word) (rest : List ℕ) → IsNext text w rest → is_lawful_word w ≡ true → lawful_words text ≡ option_map (λ ws. w ∷ ws) (lawful_words rest)
lawful_next text w rest n h = ap lawful_in (next_words text w rest n) ∙ lawful_more w (text_words rest) h

pub lawless_next : (text : List ℕ) (w : Word) (rest : List ℕ) → IsNext text w rest → is_lawful_word w ≡ false → lawful_words text ≡ None
lawless_next text w rest n h = ap lawful_in (next_words text w rest n) ∙ lawless_more w (text_words rest) h

-- ---- what a text begins with

-- The word that stands behind the blanks, and what is behind it.
pub record IsBegun (text said : List ℕ) (w : Word) : Type 0 where
  pub within : length (word_text w) ≤ length said
  pub next : IsNext text w (drop (length (word_text w)) said)

pub begun_by : (text said : List ℕ) (k : ℕ) (w : Word) → said ≡ drop k text → list_all is_blank (take k text) ≡ true → word_at said ≡ Some w → IsBegun text said w
begun_by text said k w s blank e =
    let i = subst (λ o. IfSome o (λ v. (rest : List ℕ) × IsCutOff said v rest)) e (word_cut said) in
    let whole : text ≡ take k text ++ said = sym (take-append-drop k text) ∙ ap (λ x. take k text ++ x) (sym s) in
    go i.0 i.1 whole
  where
    go : (rest : List ℕ) → IsCutOff said w rest → text ≡ take k text ++ said → IsBegun text said w
    go rest c whole =
        let d : drop (length (word_text w)) said ≡ rest = ap (drop (length (word_text w))) c.joined ∙ drop-append_seam (word_text w) rest in
        record {
          within = omega (arith, ap length c.joined ∙ length-append (word_text w) rest);
          next = subst (IsNext text w) (sym d) (record { blanks = take k text; blank = blank; joined = whole ∙ ap (λ x. take k text ++ x) c.joined; word = c.word; stop = c.stop });
        }

no_word : (place : ℕ) (said : List ℕ) → begins_said said ≡ true → word_at said ≡ None → tokens_from place 0 said ≡ None
no_word place [] h e = cc
no_word place (b ∷ bs) h e = go (is_blank b) (word_at (b ∷ bs)) (not-true (is_blank b) h) e
  where
    go : (t : Bool) (o : Option Word) → t ≡ false → o ≡ None
        → ◌≡◌ {A = Option (List Token)} (elim t [ true ↦ tokens_from (place + 1) 0 bs | false ↦ elim o [ None ↦ None | Some w ↦ option_map (λ ts. token place w ∷ ts) (tokens_from (place + 1) (length (word_text w) - 1) bs) ] ]) None
    go true o f i = cc
    go false None f i = refl
    go false (Some w) f i = cc

pub unknown_front : (text said : List ℕ) (k : ℕ) → said ≡ drop k text → list_all is_blank (take k text) ≡ true → begins_said said ≡ true → word_at said ≡ None → text_words text ≡ None
unknown_front text said k s blank h e =
    let whole : text ≡ take k text ++ said = sym (take-append-drop k text) ∙ ap (λ x. take k text ++ x) (sym s) in
    ap (λ x. words_from 0 0 x) whole
    ∙ ap (option_map words_of) (blanks_skipped 0 (take k text) said blank ∙ no_word (0 + length (take k text)) said h e)

-- ---- the words of a text that has them

-- The first word, and the words behind it.
pub record IsSplit (text : List ℕ) (w : Word) (rest : List ℕ) : Type 0 where
  pub lawful : IsTrue (is_some (lawful_words rest))
  pub words : unwrap_or (lawful_words text) [] ≡ w ∷ unwrap_or (lawful_words rest) []

pub split : (text : List ℕ) (w : Word) (rest : List ℕ) → IsNext text w rest → is_some (lawful_words text) ≡ true → IsSplit text w rest
split text w rest n h = go (is_lawful_word w) refl (lawful_words rest) refl
  where
    go : (t : Bool) → is_lawful_word w ≡ t → (o : Option (List Word)) → lawful_words rest ≡ o → IsSplit text w rest
    go false e o f = let none : is_some (lawful_words text) ≡ false = ap is_some (lawless_next text w rest n e) in cc
    go true e None f = let none : is_some (lawful_words text) ≡ false = ap is_some (lawful_next text w rest n e ∙ ap (option_map (λ ws. w ∷ ws)) f) in cc
    go true e (Some ws) f =
        record {
          lawful = ap is_some f;
          words = ap (λ o. unwrap_or o []) (lawful_next text w rest n e ∙ ap (option_map (λ vs. w ∷ vs)) f) ∙ ap (λ o. w ∷ unwrap_or o []) (sym f);
        }

pub no_words : (text : List ℕ) → list_all is_blank text ≡ true → unwrap_or (lawful_words text) [] ≡ []
no_words text h = ap (λ o. unwrap_or (lawful_in o) []) (blank_words text h)

pub never_unknown : (text : List ℕ) → text_words text ≡ None → is_some (lawful_words text) ≡ true → ⊥
never_unknown text e h = let none : is_some (lawful_words text) ≡ false = ap (λ o. is_some (lawful_in o)) e in cc

pub next_shorter : (text : List ℕ) (w : Word) (rest : List ℕ) → IsNext text w rest → length rest < length text
next_shorter text w rest n =
    let some : 1 ≤ length (word_text w) = word_some w n.word in
    omega (arith, ap length n.joined ∙ length-append n.blanks (word_text w ++ rest), length-append (word_text w) rest)

pub lawful_end : (text : List ℕ) → list_all is_blank text ≡ true → is_some (lawful_words text) ≡ true
lawful_end text h = ap (λ o. is_some (lawful_in o)) (blank_words text h)

pub lawless_unknown : (text : List ℕ) → text_words text ≡ None → is_some (lawful_words text) ≡ false
lawless_unknown text e = ap (λ o. is_some (lawful_in o)) e

pub lawless_word : (text : List ℕ) (w : Word) (rest : List ℕ) → IsNext text w rest → is_lawful_word w ≡ false → is_some (lawful_words text) ≡ false
lawless_word text w rest n h = ap is_some (lawless_next text w rest n h)

some_more : {A B : Type 0} (f : A → B) (o : Option A) → is_some (option_map f o) ≡ is_some o
some_more f None = refl
some_more f (Some a) = refl

pub lawful_word : (text : List ℕ) (w : Word) (rest : List ℕ) → IsNext text w rest → is_lawful_word w ≡ true → is_some (lawful_words text) ≡ is_some (lawful_words rest)
lawful_word text w rest n h = ap is_some (lawful_next text w rest n h) ∙ some_more (λ ws. w ∷ ws) (lawful_words rest)

-- ---- a text that is read from the front, by lengths alone

-- with a blank less
blank_first : (b : ℕ) (bs : List ℕ) → is_blank b ≡ true → IsLawfulStart (b ∷ bs) (Some 1)
blank_first b bs h = (omega arith, omega arith, ap (λ o. is_some (lawful_in o)) same)
  where
    same : text_words (b ∷ bs) ≡ text_words bs
    same = ap (option_map words_of) (blanks_skipped 0 (b ∷ []) bs (rw h refl)) ∙ placeless bs 1 0 0

pub blank_start : (text : List ℕ) → 0 < length text → is_blank (get_or text 0 0) ≡ true → IsLawfulStart text (Some 1)
blank_start [] some h = absurd (omega arith)
blank_start (b ∷ bs) some h = blank_first b bs h

-- with a word less
pub word_start : (text : List ℕ) (w : Word) (n : ℕ) → word_at text ≡ Some w → is_lawful_word w ≡ true → n ≡ length (word_text w) → IsLawfulStart text (Some n)
word_start text w n e h size =
    let b = begun_by text text 0 w refl refl e in
    let some : 1 ≤ length (word_text w) = word_some w b.next.word in
    let whole = lawful_word text w (drop (length (word_text w)) text) b.next h in
    (omega (arith, some, size), omega (arith, b.within, size), whole ∙ ap (λ k. is_some (lawful_words (drop k text))) (sym size))

-- ---- the same, as a loop meets it

mark_word : (text : List ℕ) (m : Mark) → 0 < length text → begins_name (get_or text 0 0) ≡ false → is_digit (get_or text 0 0) ≡ false → mark_at text ≡ Some m → word_at text ≡ Some (Sign m)
mark_word [] m some n d e = absurd (omega arith)
mark_word (b ∷ bs) m some n d e = rw (n, d, e) refl

pub mark_start : (text : List ℕ) (m : Mark) → 0 < length text → begins_name (get_or text 0 0) ≡ false → is_digit (get_or text 0 0) ≡ false → mark_at text ≡ Some m → (n : ℕ) → n ≡ length (mark_text m) → IsLawfulStart text (Some n)
mark_start text m some n d e k size = word_start text (Sign m) k (mark_word text m some n d e) refl size

front_size : (text front : List ℕ) (n : ℕ) → n ≤ length text → take n text ≡ front → n ≡ length front
front_size text front n within e = sym (length-take-le n text within) ∙ ap length e

pub name_start : (text : List ℕ) (n : ℕ) → word_at text ≡ Some (Name (bytes_while goes_on_name text)) → n ≤ length text → take n text ≡ bytes_while goes_on_name text → n ≤ 64 → IsLawfulStart text (Some n)
name_start text n e within front few =
    let size = front_size text (bytes_while goes_on_name text) n within front in
    let lawful : nat_le (length (bytes_while goes_on_name text)) 64 ≡ true = subst (λ k. nat_le k 64 ≡ true) size (grind (arith, nat_tests)) in
    word_start text (Name (bytes_while goes_on_name text)) n e lawful size

pub number_start : (text : List ℕ) (n : ℕ) → word_at text ≡ Some (Number (bytes_while is_digit text)) → n ≤ length text → take n text ≡ bytes_while is_digit text → has_leading_zero (take n text) ≡ false → IsLawfulStart text (Some n)
number_start text n e within front few =
    let size = front_size text (bytes_while is_digit text) n within front in
    let lawful : not (has_leading_zero (bytes_while is_digit text)) ≡ true = ap not (ap has_leading_zero (sym front) ∙ few) in
    word_start text (Number (bytes_while is_digit text)) n e lawful size
