-- Lines with words are cut out of the bytes that they make, and each counts.
use Rattle.std.proofs.Common.{◌≡◌, ◌⊎◌, inl, inr, ℕ, ◌+◌, ◌≤◌, Bool, true, false, not, cond, ◌&&◌, ◌||◌, ◌==◌, List, [], ◌∷◌, ◌++◌, map, Option, Some, None, refl, sym, ap, ap₂, ◌∙◌, subst, append_assoc, arith}
use Rattle.std.specs.Prelude.{filter, flat_map, option_map, option_and_then, nat_le}
use Rattle.std.specs.List.{list_all}
use Rattle.std.proofs.lemmas.Bool.{and_parts, and_from, or_cases, or_right, eqb-true, leb-true, le-leb, false_from_ne_true}
use Rattle.wpds_port.specs.declared.Mark.TheVariants.{Arrow, Implies, Becomes, Differs, Colon, Semicolon, Comma, Dot, Star, Plus, Minus, Equal, Question, Not, And, Or, Xor, Open, Close, OpenBrace, CloseBrace}
use Rattle.wpds_port.specs.declared.Word.{Word}
use Rattle.wpds_port.specs.declared.Word.TheVariants.{Name, Number, Mark as Sign}
use Rattle.wpds_port.specs.declared.Token.{Token}
use Rattle.wpds_port.specs.Tokens.{is_blank, word_text, is_word, is_digit, begins_name, goes_on_name, tokens, AreTokens}
use Rattle.wpds_port.specs.Words.{words_of, if_lawful, lawful_words}
use Rattle.document_forms.specs.Lines.{has_no_feed, IsCut, without_return, lines, past_blanks, is_said, counts, is_allowed, is_text, Line, numbered}
use Rattle.document_forms.specs.Forms.{form_of}
use Rattle.document_forms.specs.FormWords.{is_some_list}
use Rattle.document_forms.specs.FirstRefusal.{Counted, counted, counted_lines}
use Rattle.document_forms.proofs.LineLemmas.{is_cut}
use Rattle.document_forms.proofs.WrittenWordLemmas.{HasWords, OneCutting, words_said}

-- ---- words are text

or3 : (a b c : Bool) → (a || b || c) ≡ true → (a ≡ true) ⊎ ((b ≡ true) ⊎ (c ≡ true))
or3 true b c h = inl refl
or3 false true c h = inr (inl refl)
or3 false false true h = inr (inr refl)
or3 false false false h = cc

or4 : (a b c d : Bool) → (a || b || c || d) ≡ true → (a ≡ true) ⊎ ((b ≡ true) ⊎ ((c ≡ true) ⊎ (d ≡ true)))
or4 true b c d h = inl refl
or4 false true c d h = inr (inl refl)
or4 false false true d h = inr (inr (inl refl))
or4 false false false true h = inr (inr (inr refl))
or4 false false false false h = cc

-- above the blank, and no `#`
abbrev IsSaid : ℕ → Type 0
IsSaid b = (36 ≤ b) × (b ≤ 126)

within : (l u b : ℕ) → 36 ≤ l → u ≤ 126 → (nat_le l b && nat_le b u) ≡ true → IsSaid b
within l u b f g h =
    let k = and_parts (nat_le l b) (nat_le b u) h in
    let low = leb-true l b k.0 in
    let high = leb-true b u k.1 in
    (omega arith, omega arith)

is_one : (c b : ℕ) → IsSaid c → (b == c) ≡ true → IsSaid b
is_one c b s e = subst IsSaid (sym (eqb-true b c e)) s

begin_said : (b : ℕ) → begins_name b ≡ true → IsSaid b
begin_said b h = go (or3 (nat_le 65 b && nat_le b 90) (nat_le 97 b && nat_le b 122) (b == 95) h)
  where
    go : ((nat_le 65 b && nat_le b 90) ≡ true) ⊎ (((nat_le 97 b && nat_le b 122) ≡ true) ⊎ ((b == 95) ≡ true)) → IsSaid b
    go (inl e) = within 65 90 b (omega arith) (omega arith) e
    go (inr (inl e)) = within 97 122 b (omega arith) (omega arith) e
    go (inr (inr e)) = is_one 95 b (omega arith, omega arith) e

digit_said : (b : ℕ) → is_digit b ≡ true → IsSaid b
digit_said b h = within 48 57 b (omega arith) (omega arith) h

name_said : (b : ℕ) → goes_on_name b ≡ true → IsSaid b
name_said b h = go (or4 (begins_name b) (is_digit b) (b == 36) (b == 64) h)
  where
    go : (begins_name b ≡ true) ⊎ ((is_digit b ≡ true) ⊎ (((b == 36) ≡ true) ⊎ ((b == 64) ≡ true))) → IsSaid b
    go (inl e) = begin_said b e
    go (inr (inl e)) = digit_said b e
    go (inr (inr (inl e))) = is_one 36 b (omega arith, omega arith) e
    go (inr (inr (inr e))) = is_one 64 b (omega arith, omega arith) e

said_allowed : (b : ℕ) → IsSaid b → is_allowed b ≡ true
said_allowed b s =
    or_right (b == 9) (nat_le 32 b && nat_le b 126)
    (and_from (nat_le 32 b) (nat_le b 126) (le-leb 32 b (omega (arith, s.0))) (le-leb b 126 s.1))

blank_allowed : (b : ℕ) → is_blank b ≡ true → is_allowed b ≡ true
blank_allowed b h = go (or_cases (b == 32) (b == 9) h)
  where
    go : ((b == 32) ≡ true) ⊎ ((b == 9) ≡ true) → is_allowed b ≡ true
    go (inl e) = subst (λ c. is_allowed c ≡ true) (sym (eqb-true b 32 e)) refl
    go (inr e) = subst (λ c. is_allowed c ≡ true) (sym (eqb-true b 9 e)) refl

all_allowed : (test : ℕ → Bool) → ((b : ℕ) → test b ≡ true → is_allowed b ≡ true) → (x : List ℕ) → list_all test x ≡ true → is_text x ≡ true
all_allowed test f [] h = refl
all_allowed test f (b ∷ x) h =
    let k = and_parts (test b) (list_all test x) h in
    and_from (is_allowed b) (is_text x) (f b k.0) (all_allowed test f x k.1)

name_text : (b : ℕ) → goes_on_name b ≡ true → is_allowed b ≡ true
name_text b h = said_allowed b (name_said b h)

digit_text : (b : ℕ) → is_digit b ≡ true → is_allowed b ≡ true
digit_text b h = said_allowed b (digit_said b h)

word_allowed : (w : Word) → is_word w ≡ true → is_text (word_text w) ≡ true
word_allowed (Name []) h = cc
word_allowed (Name (b ∷ x)) h =
    let k = and_parts (begins_name b) (list_all goes_on_name x) h in
    and_from (is_allowed b) (is_text x) (said_allowed b (begin_said b k.0)) (all_allowed goes_on_name name_text x k.1)
word_allowed (Number []) h = cc
word_allowed (Number (b ∷ x)) h = all_allowed is_digit digit_text (b ∷ x) h
word_allowed (Sign Arrow) h = refl
word_allowed (Sign Implies) h = refl
word_allowed (Sign Becomes) h = refl
word_allowed (Sign Differs) h = refl
word_allowed (Sign Colon) h = refl
word_allowed (Sign Semicolon) h = refl
word_allowed (Sign Comma) h = refl
word_allowed (Sign Dot) h = refl
word_allowed (Sign Star) h = refl
word_allowed (Sign Plus) h = refl
word_allowed (Sign Minus) h = refl
word_allowed (Sign Equal) h = refl
word_allowed (Sign Question) h = refl
word_allowed (Sign Not) h = refl
word_allowed (Sign And) h = refl
word_allowed (Sign Or) h = refl
word_allowed (Sign Xor) h = refl
word_allowed (Sign Open) h = refl
word_allowed (Sign Close) h = refl
word_allowed (Sign OpenBrace) h = refl
word_allowed (Sign CloseBrace) h = refl

text_joined : (x y : List ℕ) → is_text x ≡ true → is_text y ≡ true → is_text (x ++ y) ≡ true
text_joined [] y h k = k
text_joined (b ∷ x) y h k =
    let p = and_parts (is_allowed b) (is_text x) h in
    and_from (is_allowed b) (is_text (x ++ y)) p.0 (text_joined x y p.1 k)

pub words_are_text : (ws : List Word) (text : List ℕ) → HasWords text ws → is_text text ≡ true
words_are_text [] text h = all_allowed is_blank blank_allowed text h
words_are_text (w ∷ ws) text h =
    let n = h.1 in
    subst (λ x. is_text x ≡ true) (sym n.joined)
    (text_joined n.blanks (word_text w ++ h.0) (all_allowed is_blank blank_allowed n.blanks n.blank)
    (text_joined (word_text w) h.0 (word_allowed w n.word) (words_are_text ws h.0 h.2)))

-- ---- a line that is cut wholly into words is text

tokens_are_text : (ts : List Token) (place : ℕ) (text : List ℕ) → AreTokens place text ts → is_text text ≡ true
tokens_are_text [] place text h = all_allowed is_blank blank_allowed text h
tokens_are_text (t ∷ ts) place text h =
    let f = h.2 in
    subst (λ x. is_text x ≡ true) (sym f.joined)
    (text_joined h.0 (word_text t.word ++ h.1) (all_allowed is_blank blank_allowed h.0 f.blank)
    (text_joined (word_text t.word) h.1 (word_allowed t.word f.word) (tokens_are_text ts t.end h.1 h.3)))

pub lawful_is_text : OneCutting → (text : List ℕ) (ws : List Word) → lawful_words text ≡ Some ws → is_text text ≡ true
lawful_is_text cut text ws h = go (tokens text) refl h
  where
    go : (o : Option (List Token)) → tokens text ≡ o → option_and_then if_lawful (option_map words_of o) ≡ Some ws → is_text text ≡ true
    go None e k = cc
    go (Some ts) e k = tokens_are_text ts 0 text ((cut text ts).0 e)

-- ---- a line of text stands as it is

no_feed : (b : ℕ) → is_allowed b ≡ true → not (b == 10) ≡ true
no_feed b h = ap not (false_from_ne_true (b == 10) (λ e. differ (sym h ∙ ap is_allowed (eqb-true b 10 e))))
  where
    differ : true ≡ false → ⊥
    differ e = cc

no_return : (b : ℕ) → is_allowed b ≡ true → (b == 13) ≡ false
no_return b h = false_from_ne_true (b == 13) (λ e. differ (sym h ∙ ap is_allowed (eqb-true b 13 e)))
  where
    differ : true ≡ false → ⊥
    differ e = cc

text_no_feed : (x : List ℕ) → is_text x ≡ true → has_no_feed x ≡ true
text_no_feed [] h = refl
text_no_feed (b ∷ x) h =
    let k = and_parts (is_allowed b) (is_text x) h in
    and_from (not (b == 10)) (has_no_feed x) (no_feed b k.0) (text_no_feed x k.1)

text_no_return : (x : List ℕ) → is_text x ≡ true → without_return x ≡ x
text_no_return [] h = refl
text_no_return (b ∷ []) h =
    let k = and_parts (is_allowed b) true h in
    ap (λ t. cond t [] (b ∷ [])) (no_return b k.0)
text_no_return (b ∷ c ∷ x) h =
    let k = and_parts (is_allowed b) (is_text (c ∷ x)) h in
    ap (λ y. b ∷ y) (text_no_return (c ∷ x) k.1)

-- ---- a line with a word counts

past : (bs x : List ℕ) → list_all is_blank bs ≡ true → past_blanks (bs ++ x) ≡ past_blanks x
past [] x h = refl
past (b ∷ bs) x h =
    let k = and_parts (is_blank b) (list_all is_blank bs) h in
    ap (λ t. cond t (past_blanks (bs ++ x)) (b ∷ (bs ++ x))) k.0 ∙ past bs x k.1

said_stands : (b : ℕ) (x : List ℕ) → IsSaid b → is_said (past_blanks (b ∷ x)) ≡ true
said_stands b x s =
    let no_blank : is_blank b ≡ false = false_from_ne_true (is_blank b) (λ e. low (or_cases (b == 32) (b == 9) e)) in
    ap (λ t. is_said (cond t (past_blanks x) (b ∷ x))) no_blank
    ∙ ap not (false_from_ne_true (b == 35) (λ e. at 35 (omega arith) e))
  where
    at : (c : ℕ) → c ≤ 35 → (b == c) ≡ true → ⊥
    at c l e = omega (arith, eqb-true b c e, s.0)

    low : ((b == 32) ≡ true) ⊎ ((b == 9) ≡ true) → ⊥
    low (inl e) = at 32 (omega arith) e
    low (inr e) = at 9 (omega arith) e

word_stands : (w : Word) (x : List ℕ) → is_word w ≡ true → is_said (past_blanks (word_text w ++ x)) ≡ true
word_stands (Name []) x h = cc
word_stands (Name (b ∷ y)) x h = said_stands b (y ++ x) (begin_said b (and_parts (begins_name b) (list_all goes_on_name y) h).0)
word_stands (Number []) x h = cc
word_stands (Number (b ∷ y)) x h = said_stands b (y ++ x) (digit_said b (and_parts (is_digit b) (list_all is_digit y) h).0)
word_stands (Sign Arrow) x h = refl
word_stands (Sign Implies) x h = refl
word_stands (Sign Becomes) x h = refl
word_stands (Sign Differs) x h = refl
word_stands (Sign Colon) x h = refl
word_stands (Sign Semicolon) x h = refl
word_stands (Sign Comma) x h = refl
word_stands (Sign Dot) x h = refl
word_stands (Sign Star) x h = refl
word_stands (Sign Plus) x h = refl
word_stands (Sign Minus) x h = refl
word_stands (Sign Equal) x h = refl
word_stands (Sign Question) x h = refl
word_stands (Sign Not) x h = refl
word_stands (Sign And) x h = refl
word_stands (Sign Or) x h = refl
word_stands (Sign Xor) x h = refl
word_stands (Sign Open) x h = refl
word_stands (Sign Close) x h = refl
word_stands (Sign OpenBrace) x h = refl
word_stands (Sign CloseBrace) x h = refl

pub words_count : (w : Word) (ws : List Word) (text : List ℕ) → HasWords text (w ∷ ws) → counts text ≡ true
words_count w ws text h =
    let n = h.1 in
    ap counts n.joined ∙ ap is_said (past n.blanks (word_text w ++ h.0) n.blank) ∙ word_stands w h.0 n.word

-- ---- the lines of bytes

abbrev pub ended_lines : List (List ℕ) → List ℕ
ended_lines ts = flat_map (λ t. t ++ 10 ∷ []) ts

-- each line has its words, and one at least
abbrev pub LinesSay : List (List ℕ) → List (List Word) → Type 0
LinesSay [] [] = Unit {0}
LinesSay (t ∷ ts) (ws ∷ wss) = HasWords t ws × (is_some_list ws ≡ true) × LinesSay ts wss
LinesSay _ _ = ⊥

cut_lines : (ts : List (List ℕ)) (wss : List (List Word)) → LinesSay ts wss → IsCut (ended_lines ts) ts
cut_lines [] [] h = refl
cut_lines [] (ws ∷ wss) h = absurd h
cut_lines (t ∷ ts) [] h = absurd h
cut_lines (t ∷ ts) (ws ∷ wss) h =
    (text_no_feed t (words_are_text ws t h.0), inl (ended_lines ts, append_assoc t (10 ∷ []) (ended_lines ts), cut_lines ts wss h.2))

no_returns : (ts : List (List ℕ)) (wss : List (List Word)) → LinesSay ts wss → map without_return ts ≡ ts
no_returns [] [] h = refl
no_returns [] (ws ∷ wss) h = absurd h
no_returns (t ∷ ts) [] h = absurd h
no_returns (t ∷ ts) (ws ∷ wss) h = ap₂ (λ x xs. x ∷ xs) (text_no_return t (words_are_text ws t h.0)) (no_returns ts wss h.2)

pub lines_are : (ts : List (List ℕ)) (wss : List (List Word)) → LinesSay ts wss → lines (ended_lines ts) ≡ ts
lines_are ts wss h = ap (map without_return) ((is_cut (ended_lines ts) ts).1 (cut_lines ts wss h)) ∙ no_returns ts wss h

-- the lines that count, by their words
abbrev pub said_lines : ℕ → List (List Word) → List Counted
said_lines n [] = []
said_lines n (ws ∷ wss) = record { number = n; text = true; words = Some ws; form = form_of ws } ∷ said_lines (n + 1) wss

counts_line : (t : List ℕ) (ws : List Word) → HasWords t ws → is_some_list ws ≡ true → counts t ≡ true
counts_line t [] h s = cc
counts_line t (w ∷ ws) h s = words_count w ws t h

module _ (cut : OneCutting) where
  counted_line : (n : ℕ) (t : List ℕ) (ws : List Word) → HasWords t ws → counted (record { number = n; bytes = t }) ≡ record { number = n; text = true; words = Some ws; form = form_of ws }
  counted_line n t ws h =
      ap₂ (λ b o. record { number = n; text = b; words = o; form = option_and_then form_of o }) (words_are_text ws t h) (words_said cut t ws h)

  counted_said : (n : ℕ) (ts : List (List ℕ)) (wss : List (List Word)) → LinesSay ts wss → map counted (filter (λ l. counts l.bytes) (numbered n ts)) ≡ said_lines n wss
  counted_said n [] [] h = refl
  counted_said n [] (ws ∷ wss) h = absurd h
  counted_said n (t ∷ ts) [] h = absurd h
  counted_said n (t ∷ ts) (ws ∷ wss) h =
      let l : Line = record { number = n; bytes = t } in
      let more = filter (λ k. counts k.bytes) (numbered (n + 1) ts) in
      ap (λ b. map counted (cond b (l ∷ more) more)) (counts_line t ws h.0 h.1)
      ∙ ap₂ (λ x xs. x ∷ xs) (counted_line n t ws h.0) (counted_said (n + 1) ts wss h.2)

  pub lines_said : (ts : List (List ℕ)) (wss : List (List Word)) → LinesSay ts wss → counted_lines (ended_lines ts) ≡ said_lines 1 wss
  lines_said ts wss h =
      ap (λ ls. map counted (filter (λ l. counts l.bytes) (numbered 1 ls))) (lines_are ts wss h) ∙ counted_said 1 ts wss h
