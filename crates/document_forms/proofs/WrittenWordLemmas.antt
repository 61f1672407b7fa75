-- The words of a text that is put together of texts with words.
use Rattle.std.proofs.Common.{◌≡◌, ◌↔◌, ◌⊎◌, inl, inr, ℕ, ◌+◌, Bool, true, not, ◌||◌, ◌==◌, List, [], ◌∷◌, ◌++◌, length, Some, refl, sym, ap, ◌∙◌, subst, append_assoc, append-nil}
use Rattle.std.specs.Prelude.{IsTrue, option_map}
use Rattle.std.specs.List.{list_all}
use Rattle.std.proofs.lemmas.Bool.{and_parts, and_from, or_cases, eqb-true}
use Rattle.wpds_port.specs.declared.Mark.TheVariants.{Colon, Minus, Equal, Not}
use Rattle.wpds_port.specs.declared.Word.{Word}
use Rattle.wpds_port.specs.declared.Word.TheVariants.{Name, Number, Mark as Sign}
use Rattle.wpds_port.specs.declared.Token.{Token}
use Rattle.wpds_port.specs.Tokens.{is_blank, word_text, is_word, goes_on, stops, is_lawful_word, token, tokens, AreTokens}
use Rattle.wpds_port.specs.Words.{words_of, text_words, IsNext}
use Rattle.document_forms.specs.Writing.{spaced}

-- ---- the words of a text

-- The text is the words, each behind blanks, and then blanks.
abbrev pub HasWords : List ℕ → List Word → Type 0
HasWords text [] = IsTrue (list_all is_blank text)
HasWords text (w ∷ ws) = (rest : List ℕ) × IsNext text w rest × HasWords rest ws

abbrev HasTokens : ℕ → List ℕ → List Word → Type 0
HasTokens place text ws = (ts : List Token) × AreTokens place text ts × (words_of ts ≡ ws)

tokens_said : (ws : List Word) (place : ℕ) (text : List ℕ) → HasWords text ws → HasTokens place text ws
tokens_said [] place text h = ([], h, refl)
tokens_said (w ∷ ws) place text h =
    let n = h.1 in
    let t : Token = token (place + length n.blanks) w in
    let more = tokens_said ws t.end h.0 h.2 in (
      t ∷ more.0,
      (n.blanks, h.0, record { blank = n.blank; joined = n.joined; word = n.word; stop = n.stop; at = refl }, more.1),
      ap (λ vs. w ∷ vs) more.2,
    )

-- as the law on tokens has it
abbrev pub OneCutting : Type 0
OneCutting = (line : List ℕ) (ts : List Token) → (tokens line ≡ Some ts) ↔ AreTokens 0 line ts

pub words_said : OneCutting → (text : List ℕ) (ws : List Word) → HasWords text ws → text_words text ≡ Some ws
words_said cut text ws h =
    let k = tokens_said ws 0 text h in
    ap (option_map words_of) ((cut text k.0).1 k.1) ∙ ap Some k.2

-- ---- bytes behind which each word stops

-- a blank, `,`, `:`, `}` or `*`
abbrev is_end_byte : ℕ → Bool
is_end_byte b = b == 32 || (b == 44 || (b == 58 || (b == 125 || b == 42)))

abbrev is_end : List ℕ → Bool
is_end [] = true
is_end (b ∷ bs) = is_end_byte b

abbrev StopsAll : ℕ → Type 0
StopsAll b = (w : Word) → not (goes_on w b) ≡ true

at_blank : StopsAll 32
at_blank (Name x) = refl
at_blank (Number n) = refl
at_blank (Sign Minus) = refl
at_blank (Sign Equal) = refl
at_blank (Sign Colon) = refl
at_blank (Sign Not) = refl
at_blank (Sign _) = refl

at_comma : StopsAll 44
at_comma (Name x) = refl
at_comma (Number n) = refl
at_comma (Sign Minus) = refl
at_comma (Sign Equal) = refl
at_comma (Sign Colon) = refl
at_comma (Sign Not) = refl
at_comma (Sign _) = refl

at_colon : StopsAll 58
at_colon (Name x) = refl
at_colon (Number n) = refl
at_colon (Sign Minus) = refl
at_colon (Sign Equal) = refl
at_colon (Sign Colon) = refl
at_colon (Sign Not) = refl
at_colon (Sign _) = refl

at_brace : StopsAll 125
at_brace (Name x) = refl
at_brace (Number n) = refl
at_brace (Sign Minus) = refl
at_brace (Sign Equal) = refl
at_brace (Sign Colon) = refl
at_brace (Sign Not) = refl
at_brace (Sign _) = refl

at_star : StopsAll 42
at_star (Name x) = refl
at_star (Number n) = refl
at_star (Sign Minus) = refl
at_star (Sign Equal) = refl
at_star (Sign Colon) = refl
at_star (Sign Not) = refl
at_star (Sign _) = refl

stops_all : (b : ℕ) → is_end_byte b ≡ true → StopsAll b
stops_all b h = blank (or_cases (b == 32) (b == 44 || (b == 58 || (b == 125 || b == 42))) h)
  where
    at : (c : ℕ) → (b == c) ≡ true → StopsAll c → StopsAll b
    at c e s = subst StopsAll (sym (eqb-true b c e)) s

    brace : ((b == 125) ≡ true) ⊎ ((b == 42) ≡ true) → StopsAll b
    brace (inl e) = at 125 e at_brace
    brace (inr e) = at 42 e at_star

    colon : ((b == 58) ≡ true) ⊎ ((b == 125 || b == 42) ≡ true) → StopsAll b
    colon (inl e) = at 58 e at_colon
    colon (inr k) = brace (or_cases (b == 125) (b == 42) k)

    comma : ((b == 44) ≡ true) ⊎ ((b == 58 || (b == 125 || b == 42)) ≡ true) → StopsAll b
    comma (inl e) = at 44 e at_comma
    comma (inr k) = colon (or_cases (b == 58) (b == 125 || b == 42) k)

    blank : ((b == 32) ≡ true) ⊎ ((b == 44 || (b == 58 || (b == 125 || b == 42))) ≡ true) → StopsAll b
    blank (inl e) = at 32 e at_blank
    blank (inr k) = comma (or_cases (b == 44) (b == 58 || (b == 125 || b == 42)) k)

stops_at_end : (w : Word) (rest : List ℕ) → is_end rest ≡ true → stops w rest ≡ true
stops_at_end w [] h = refl
stops_at_end w (b ∷ bs) h = stops_all b h w

-- ---- texts that have words wherever they stand

-- The text has these words whatever ends it, and a form takes each of them.
pub record Says (t : List ℕ) (ws : List Word) : Type 0 where
  pub here : (rest : List ℕ) (vs : List Word) → is_end rest ≡ true → HasWords rest vs → HasWords (t ++ rest) (ws ++ vs)
  pub lawful : list_all is_lawful_word ws ≡ true

pub says_words : (t : List ℕ) (ws : List Word) → Says t ws → HasWords t ws
says_words t ws s =
    subst (λ x. HasWords x ws) (append-nil t) (subst (λ vs. HasWords (t ++ []) vs) (append-nil ws) (s.here [] [] refl refl))

pub lawful_joined : (us vs : List Word) → list_all is_lawful_word us ≡ true → list_all is_lawful_word vs ≡ true → list_all is_lawful_word (us ++ vs) ≡ true
lawful_joined [] vs h k = k
lawful_joined (u ∷ us) vs h k =
    let p = and_parts (is_lawful_word u) (list_all is_lawful_word us) h in
    and_from (is_lawful_word u) (list_all is_lawful_word (us ++ vs)) p.0 (lawful_joined us vs p.1 k)

-- a word in front of a text behind which it stops
pub word_before : (w : Word) (text : List ℕ) (ws : List Word) → is_word w ≡ true → stops w text ≡ true → HasWords text ws → HasWords (word_text w ++ text) (w ∷ ws)
word_before w text ws h s k = (text, record { blanks = []; blank = refl; joined = refl; word = h; stop = s }, k)

pub says_nothing : Says [] []
says_nothing = record { here = λ rest vs e k. k; lawful = refl }

pub says_word : (w : Word) → is_word w ≡ true → is_lawful_word w ≡ true → Says (word_text w) (w ∷ [])
says_word w h l = record {
  here = λ rest vs e k. word_before w rest vs h (stops_at_end w rest e) k;
  lawful = and_from (is_lawful_word w) true l refl;
}

pub blank_before : (text : List ℕ) (ws : List Word) → HasWords text ws → HasWords (32 ∷ text) ws
blank_before text [] h = h
blank_before text (w ∷ ws) h =
    let n = h.1 in
    (h.0, record { blanks = 32 ∷ n.blanks; blank = n.blank; joined = ap (λ x. 32 ∷ x) n.joined; word = n.word; stop = n.stop }, h.2)

-- a text with words before another, once it is known to be ended there
says_before : (t u : List ℕ) (ws vs : List Word) → Says t ws → ((rest : List ℕ) → is_end (u ++ rest) ≡ true) → Says u vs → Says (t ++ u) (ws ++ vs)
says_before t u ws vs s e k = record {
  here = λ rest xs f h.
      subst (λ x. HasWords x ((ws ++ vs) ++ xs)) (sym (append_assoc t u rest))
      (subst (λ ys. HasWords (t ++ (u ++ rest)) ys) (sym (append_assoc ws vs xs))
      (s.here (u ++ rest) (vs ++ xs) (e rest) (k.here rest xs f h)));
  lawful = lawful_joined ws vs s.lawful k.lawful;
}

pub says_blank : (u : List ℕ) (vs : List Word) → Says u vs → Says (32 ∷ u) vs
says_blank u vs s = record { here = λ rest xs e k. blank_before (u ++ rest) (vs ++ xs) (s.here rest xs e k); lawful = s.lawful }

-- with a blank between
pub says_apart : (t u : List ℕ) (ws vs : List Word) → Says t ws → Says u vs → Says (t ++ 32 ∷ u) (ws ++ vs)
says_apart t u ws vs s k = says_before t (32 ∷ u) ws vs s (λ rest. refl) (says_blank u vs k)

-- a text that begins with a byte behind which each word stops
pub says_joined : (t : List ℕ) (b : ℕ) (u : List ℕ) (ws vs : List Word) → is_end_byte b ≡ true → Says t ws → Says (b ∷ u) vs → Says (t ++ b ∷ u) (ws ++ vs)
says_joined t b u ws vs e s k = says_before t (b ∷ u) ws vs s (λ rest. e) k

-- ---- texts with blanks between

-- these texts, one after the other, have these words
abbrev pub SayAll : List (List ℕ) → List Word → Type 0
SayAll [] ws = ws ≡ []
SayAll (t ∷ ts) ws = (us : List Word) × (vs : List Word) × Says t us × SayAll ts vs × (ws ≡ us ++ vs)

pub say_more : (t : List ℕ) (ts : List (List ℕ)) (us vs : List Word) → Says t us → SayAll ts vs → SayAll (t ∷ ts) (us ++ vs)
say_more t ts us vs s k = (us, vs, s, k, refl)

pub say_both : (ts us : List (List ℕ)) (ws vs : List Word) → SayAll ts ws → SayAll us vs → SayAll (ts ++ us) (ws ++ vs)
say_both [] us ws vs s k = subst (λ xs. SayAll us (xs ++ vs)) (sym s) k
say_both (t ∷ ts) us ws vs s k =
    (s.0, s.1 ++ vs, s.2, say_both ts us s.1 vs s.3 k, ap (λ xs. xs ++ vs) s.4 ∙ append_assoc s.0 s.1 vs)

pub says_spaced : (ts : List (List ℕ)) (ws : List Word) → SayAll ts ws → Says (spaced ts) ws
says_spaced [] ws s = subst (Says []) (sym s) says_nothing
says_spaced (t ∷ []) ws s =
    let e : ws ≡ s.0 = s.4 ∙ ap (λ vs. s.0 ++ vs) s.3 ∙ append-nil s.0 in
    subst (Says t) (sym e) s.2
says_spaced (t ∷ u ∷ ts) ws s =
    subst (Says (spaced (t ∷ u ∷ ts))) (sym s.4)
    (says_apart t (spaced (u ∷ ts)) s.0 s.1 s.2 (says_spaced (u ∷ ts) s.1 s.3))

pub say_one : (t : List ℕ) (ws : List Word) → Says t ws → SayAll (t ∷ []) ws
say_one t ws s = (ws, [], s, refl, sym (append-nil ws))

-- a word in front of a text, without a blank
pub says_glued : (w : Word) (u : List ℕ) (vs : List Word) → is_word w ≡ true → is_lawful_word w ≡ true → ((rest : List ℕ) → stops w (u ++ rest) ≡ true) → Says u vs → Says (word_text w ++ u) (w ∷ vs)
says_glued w u vs h l e s = record {
  here = λ rest xs f k.
      subst (λ x. HasWords x (w ∷ (vs ++ xs))) (sym (append_assoc (word_text w) u rest))
      (word_before w (u ++ rest) (vs ++ xs) h (e rest) (s.here rest xs f k));
  lawful = and_from (is_lawful_word w) (list_all is_lawful_word vs) l s.lawful;
}
