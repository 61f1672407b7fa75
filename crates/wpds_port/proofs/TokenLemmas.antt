-- The tokens of a whole line.
use Rattle.std.proofs.Common.{◌≡◌, ◌↔◌, ℕ, zero, suc, ◌+◌, ◌-◌, ◌≤◌, ◌<◌, Bool, true, false, List, [], ◌∷◌, ◌++◌, length, take, drop, Option, Some, None, option_map, refl, sym, ap, ◌∙◌, subst, arith, append_assoc, append-nil, length-drop, length-append, drop-drop, take_all}
use Rattle.std.specs.Prelude.{IfSome}
use Rattle.std.specs.List.{list_all}
use Rattle.std.proofs.lemmas.Bool.{and_parts, and_from}
use Rattle.wpds_port.specs.Tokens.{is_blank, Mark, Arrow, Implies, Becomes, Differs, Colon, Semicolon, Comma, Dot, Star, Plus, Minus, Equal, Question, Not, And, Or, Xor, Open, Close, OpenBrace, CloseBrace, Word, Name, Number, Sign, word_text, word_at, is_digit, begins_name, goes_on_name, is_word, stops, Token, token, tokens_from, tokens, AreTokens}
use Rattle.wpds_port.proofs.WordLemmas.{name_is_not_blank, digit_is_not_blank, word_again, word_cut, IsCutOff}
use Rattle.std.proofs.Math.Seq.{drop-append_seam}

-- ---- shapes

record HasFirst (w : Word) : Type 0 where
  first : ℕ
  more : List ℕ
  text : word_text w ≡ first ∷ more
  not_blank : is_blank first ≡ false

mark_first : (m : Mark) → HasFirst (Sign m)
mark_first Arrow = record { first = 45; more = _; text = refl; not_blank = refl }
mark_first Implies = record { first = 61; more = _; text = refl; not_blank = refl }
mark_first Becomes = record { first = 58; more = _; text = refl; not_blank = refl }
mark_first Differs = record { first = 33; more = _; text = refl; not_blank = refl }
mark_first Colon = record { first = 58; more = _; text = refl; not_blank = refl }
mark_first Semicolon = record { first = 59; more = _; text = refl; not_blank = refl }
mark_first Comma = record { first = 44; more = _; text = refl; not_blank = refl }
mark_first Dot = record { first = 46; more = _; text = refl; not_blank = refl }
mark_first Star = record { first = 42; more = _; text = refl; not_blank = refl }
mark_first Plus = record { first = 43; more = _; text = refl; not_blank = refl }
mark_first Minus = record { first = 45; more = _; text = refl; not_blank = refl }
mark_first Equal = record { first = 61; more = _; text = refl; not_blank = refl }
mark_first Question = record { first = 63; more = _; text = refl; not_blank = refl }
mark_first Not = record { first = 33; more = _; text = refl; not_blank = refl }
mark_first And = record { first = 38; more = _; text = refl; not_blank = refl }
mark_first Or = record { first = 124; more = _; text = refl; not_blank = refl }
mark_first Xor = record { first = 94; more = _; text = refl; not_blank = refl }
mark_first Open = record { first = 40; more = _; text = refl; not_blank = refl }
mark_first Close = record { first = 41; more = _; text = refl; not_blank = refl }
mark_first OpenBrace = record { first = 123; more = _; text = refl; not_blank = refl }
mark_first CloseBrace = record { first = 125; more = _; text = refl; not_blank = refl }

has_first : (w : Word) → is_word w ≡ true → HasFirst w
has_first (Name []) h = cc
has_first (Name (b ∷ bs)) h = record { first = b; more = bs; text = refl; not_blank = name_is_not_blank b (and_parts (begins_name b) (list_all goes_on_name bs) h).0 }
has_first (Number []) h = cc
has_first (Number (b ∷ bs)) h = record { first = b; more = bs; text = refl; not_blank = digit_is_not_blank b (and_parts (is_digit b) (list_all is_digit bs) h).0 }
has_first (Sign m) h = mark_first m

pub word_some : (w : Word) → is_word w ≡ true → 1 ≤ length (word_text w)
word_some w h = let f = has_first w h in omega (arith, ap length f.text)

-- ---- from the relation to the function

skipped : (place : ℕ) (xs rest : List ℕ) → tokens_from place (length xs) (xs ++ rest) ≡ tokens_from (place + length xs) 0 rest
skipped place [] rest = ap (λ p. tokens_from p 0 rest) (omega arith)
skipped place (x ∷ xs) rest = skipped (place + 1) xs rest ∙ ap (λ p. tokens_from p 0 rest) (omega arith)

pub blanks_skipped : (place : ℕ) (xs rest : List ℕ) → list_all is_blank xs ≡ true → tokens_from place 0 (xs ++ rest) ≡ tokens_from (place + length xs) 0 rest
blanks_skipped place [] rest h = ap (λ p. tokens_from p 0 rest) (omega arith)
blanks_skipped place (x ∷ xs) rest h =
    let k = and_parts (is_blank x) (list_all is_blank xs) h in
    go (is_blank x) k.0 (blanks_skipped (place + 1) xs rest k.1 ∙ ap (λ p. tokens_from p 0 rest) (omega arith))
  where
    go : (t : Bool) → t ≡ true → tokens_from (place + 1) 0 (xs ++ rest) ≡ tokens_from (place + length (x ∷ xs)) 0 rest
        → elim t [ true ↦ tokens_from (place + 1) 0 (xs ++ rest) | false ↦ elim (word_at (x ∷ (xs ++ rest))) [ None ↦ None | Some w ↦ option_map (λ ts. token place w ∷ ts) (tokens_from (place + 1) (length (word_text w) - 1) (xs ++ rest)) ] ] ≡ tokens_from (place + length (x ∷ xs)) 0 rest
    go true e h = h
    go false e h = cc

word_first : (place b : ℕ) (ws rest : List ℕ) (w : Word) → word_at (b ∷ (ws ++ rest)) ≡ Some w → word_text w ≡ b ∷ ws → is_blank b ≡ false
    → tokens_from place 0 (b ∷ (ws ++ rest)) ≡ option_map (λ ts. token place w ∷ ts) (tokens_from (place + length (word_text w)) 0 rest)
word_first place b ws rest w e t n = go (is_blank b) (word_at (b ∷ (ws ++ rest))) n e
  where
    go : (t : Bool) (o : Option Word) → t ≡ false → o ≡ Some w
        → elim t [ true ↦ tokens_from (place + 1) 0 (ws ++ rest) | false ↦ elim o [ None ↦ None | Some v ↦ option_map (λ ts. token place v ∷ ts) (tokens_from (place + 1) (length (word_text v) - 1) (ws ++ rest)) ] ]
        ≡ option_map (λ ts. token place w ∷ ts) (tokens_from (place + length (word_text w)) 0 rest)
    go true o e f = cc
    go false None e f = cc
    go false (Some v) e f =
        let same : v ≡ w = cc in
        let short : length (word_text w) ≡ length ws + 1 = ap length t ∙ omega arith in
        let k : length (word_text v) - 1 ≡ length ws = ap (λ x. length (word_text x) - 1) same ∙ omega arith in
        let l : place + 1 + length ws ≡ place + length (word_text w) = omega arith in
        ap (λ x. option_map (λ ts. token place x ∷ ts) (tokens_from (place + 1) (length (word_text v) - 1) (ws ++ rest))) same
        ∙ ap (λ n. option_map (λ ts. token place w ∷ ts) (tokens_from (place + 1) n (ws ++ rest))) k
        ∙ ap (option_map (λ ts. token place w ∷ ts)) (skipped (place + 1) ws rest ∙ ap (λ p. tokens_from p 0 rest) l)

pub word_taken : (place : ℕ) (w : Word) (rest : List ℕ) → is_word w ≡ true → stops w rest ≡ true
    → tokens_from place 0 (word_text w ++ rest) ≡ option_map (λ ts. token place w ∷ ts) (tokens_from (place + length (word_text w)) 0 rest)
word_taken place w rest h s =
    let f = has_first w h in
    let e : word_text w ++ rest ≡ f.first ∷ (f.more ++ rest) = ap (λ x. x ++ rest) f.text in
    ap (λ x. tokens_from place 0 x) e ∙ word_first place f.first f.more rest w (ap word_at (sym e) ∙ word_again w rest h s) f.text f.not_blank

pub tokens_taken : (ts : List Token) (place : ℕ) (text : List ℕ) → AreTokens place text ts → tokens_from place 0 text ≡ Some ts
tokens_taken [] place text h =
    ap (λ x. tokens_from place 0 x) (sym (append-nil text)) ∙ blanks_skipped place text [] h
tokens_taken (t ∷ ts) place text (blanks, rest, f, more) =
    let w = t.word in
    let p : ℕ = place + length blanks in
    let e : t.end ≡ p + length (word_text w) = ap (λ (x : Token). x.end) f.at in
    ap (λ x. tokens_from place 0 x) f.joined
    ∙ blanks_skipped place blanks (word_text w ++ rest) f.blank
    ∙ word_taken p w rest f.word f.stop
    ∙ ap (λ q. option_map (λ us. token p w ∷ us) (tokens_from q 0 rest)) (sym e)
    ∙ ap (option_map (λ us. token p w ∷ us)) (tokens_taken ts t.end rest more)
    ∙ ap (λ x. Some (x ∷ ts)) (sym f.at)

-- ---- from the function to the relation

blank_in_front : (place b : ℕ) (bs : List ℕ) (ts : List Token) → is_blank b ≡ true → AreTokens (place + 1) bs ts → AreTokens place (b ∷ bs) ts
blank_in_front place b bs [] e h = and_from (is_blank b) (list_all is_blank bs) e h
blank_in_front place b bs (t ∷ ts) e (blanks, rest, f, more) =
    (b ∷ blanks, rest, record { blank = and_from (is_blank b) (list_all is_blank blanks) e f.blank; joined = ap (λ x. b ∷ x) f.joined; word = f.word; stop = f.stop; at = f.at ∙ ap (λ p. token p t.word) (omega arith) }, more)

mapped : {A B : Type 0} (f : A → B) (o : Option A) (b : B) → option_map f o ≡ Some b → (a : A) × (o ≡ Some a) × (f a ≡ b)
mapped f None b h = cc
mapped f (Some a) b h = (a, refl, cc)

nothing_left : (q : ℕ) (ts : List Token) → Some [] ≡ Some ts → AreTokens q [] ts
nothing_left q [] h = refl
nothing_left q (t ∷ ts) h = cc

word_in_front : (text : List ℕ) (place : ℕ) (w : Word) (rest : List ℕ) (us : List Token) → IsCutOff text w rest → AreTokens (place + length (word_text w)) rest us → AreTokens place text (token place w ∷ us)
word_in_front text place w rest us c more = ([], rest, record { blank = refl; joined = c.joined; word = c.word; stop = c.stop; at = ap (λ p. token p w) (omega arith) }, more)

pub record IsBehind (b : ℕ) (bs : List ℕ) (w : Word) (rest : List ℕ) : Type 0 where
  pub dropped : drop (length (word_text w) - 1) bs ≡ rest
  pub some : 1 ≤ length (word_text w)

pub behind : (b : ℕ) (bs : List ℕ) (w : Word) (rest : List ℕ) → IsCutOff (b ∷ bs) w rest → IsBehind b bs w rest
behind b bs w rest c =
    let f = has_first w c.word in
    let e : b ∷ bs ≡ f.first ∷ (f.more ++ rest) = c.joined ∙ ap (λ x. x ++ rest) f.text in
    let r : bs ≡ f.more ++ rest = cc in
    let l : length (word_text w) ≡ length f.more + 1 = ap length f.text ∙ omega arith in
    let n : length (word_text w) - 1 ≡ length f.more = omega arith in
    record { dropped = ap (λ m. drop m bs) n ∙ ap (drop (length f.more)) r ∙ drop-append_seam f.more rest; some = omega arith }

pub tokens_are : (text : List ℕ) (place k : ℕ) (ts : List Token) (q : ℕ) → q ≡ place + k → tokens_from place k text ≡ Some ts → AreTokens q (drop k text) ts
tokens_are [] place zero ts q e h = nothing_left q ts h
tokens_are [] place (suc k) ts q e h = nothing_left q ts h
tokens_are (b ∷ bs) place (suc k) ts q e h = tokens_are bs (place + 1) k ts q (omega arith) h
tokens_are (b ∷ bs) place zero ts q e h =
    subst (λ p. AreTokens p (b ∷ bs) ts) (omega arith) (go (is_blank b) (word_at (b ∷ bs)) refl refl (word_cut (b ∷ bs)) h (λ k us r d g. tokens_are bs (place + 1) k us r d g))
  where
    go : (t : Bool) (o : Option Word) → is_blank b ≡ t → word_at (b ∷ bs) ≡ o → IfSome o (λ w. (rest : List ℕ) × IsCutOff (b ∷ bs) w rest)
        → elim t [ true ↦ tokens_from (place + 1) 0 bs | false ↦ elim o [ None ↦ None | Some w ↦ option_map (λ ts. token place w ∷ ts) (tokens_from (place + 1) (length (word_text w) - 1) bs) ] ] ≡ Some ts
        → ((k : ℕ) (us : List Token) (r : ℕ) → r ≡ place + 1 + k → tokens_from (place + 1) k bs ≡ Some us → AreTokens r (drop k bs) us)
        → AreTokens place (b ∷ bs) ts
    go true o a c i h more = blank_in_front place b bs ts a (more 0 ts (place + 1) (omega arith) h)
    go false None a c i h more = cc
    go false (Some w) a c (rest, cut) h more =
        let m = mapped (λ us. token place w ∷ us) (tokens_from (place + 1) (length (word_text w) - 1) bs) ts h in
        let f = behind b bs w rest cut in
        let l : 1 ≤ length (word_text w) = f.some in
        let below = more (length (word_text w) - 1) m.0 (place + length (word_text w)) (omega arith) m.1 in
        subst (λ x. AreTokens place (b ∷ bs) x) m.2 (word_in_front (b ∷ bs) place w rest m.0 cut (subst (λ x. AreTokens (place + length (word_text w)) x m.0) f.dropped below))

-- there is one cutting into tokens, and it is `tokens`
pub are_tokens : (line : List ℕ) (ts : List Token) → (tokens line ≡ Some ts) ↔ AreTokens 0 line ts
are_tokens line ts = ((λ h. tokens_are line 0 0 ts 0 refl h), tokens_taken ts 0 line)

-- ---- a token more, as a loop meets it

pub record TokenStep (line : List ℕ) (place : ℕ) (w : Word) : Type 0 where
  pub within : place + length (word_text w) ≤ length line
  pub some : 1 ≤ length (word_text w)
  pub same : tokens_from place 0 (drop place line) ≡ option_map (λ ts. token place w ∷ ts) (tokens_from (place + length (word_text w)) 0 (drop (place + length (word_text w)) line))

pub token_step : (line : List ℕ) (place : ℕ) (w : Word) → place < length line → word_at (drop place line) ≡ Some w → TokenStep line place w
token_step line place w l e =
    let i = subst (λ o. IfSome o (λ w. (rest : List ℕ) × IsCutOff (drop place line) w rest)) e (word_cut (drop place line)) in
    go i.0 i.1
  where
    go : (rest : List ℕ) → IsCutOff (drop place line) w rest → TokenStep line place w
    go rest c =
        let n : ℕ = length (word_text w) in
        let f = has_first w c.word in
        let s : 1 ≤ n = omega (arith, ap length f.text) in
        let len : length line - place ≡ n + length rest = sym (length-drop place line) ∙ ap length c.joined ∙ length-append (word_text w) rest in
        let d : drop (place + n) line ≡ rest = sym (drop-drop n place line) ∙ ap (drop n) c.joined ∙ drop-append_seam (word_text w) rest in
        record {
          within = omega arith;
          some = s;
          same = ap (λ x. tokens_from place 0 x) c.joined ∙ word_taken place w rest c.word c.stop ∙ ap (λ x. option_map (λ ts. token place w ∷ ts) (tokens_from (place + n) 0 x)) (sym d);
        }

pub found_more : (found : List Token) (t : Token) (o : Option (List Token)) → option_map (λ ts. (found ++ t ∷ []) ++ ts) o ≡ option_map (λ ts. found ++ ts) (option_map (λ ts. t ∷ ts) o)
found_more found t None = refl
found_more found t (Some ts) = ap Some (append_assoc found (t ∷ []) ts)

-- `&line[place..]` as a list
pub rest_of_line : (place : ℕ) (line : List ℕ) → take (length line - place) (drop place line) ≡ drop place line
rest_of_line place line = take_all _ _ (omega (arith, length-drop place line))

-- what the loop keeps, with a token more
pub record IsMore (line : List ℕ) (place n : ℕ) (new : List Token) : Type 0 where
  pub within : place + n ≤ length line
  pub some : 1 ≤ n
  pub same : option_map (λ ts. new ++ ts) (tokens_from (place + n) 0 (drop (place + n) line)) ≡ tokens line

pub more_found : (line : List ℕ) (found new : List Token) (place n : ℕ) (w : Word) → place < length line → word_at (drop place line) ≡ Some w → n ≡ length (word_text w)
    → new ≡ found ++ record { word = w; start = place; end = place + n } ∷ []
    → option_map (λ ts. found ++ ts) (tokens_from place 0 (drop place line)) ≡ tokens line → IsMore line place n new
more_found line found new place n w l e m v h =
    let s = token_step line place w l e in
    let q : new ≡ found ++ token place w ∷ [] = v ∙ ap (λ k. found ++ record { word = w; start = place; end = place + k } ∷ []) m in
    let r : option_map (λ ts. new ++ ts) (tokens_from (place + length (word_text w)) 0 (drop (place + length (word_text w)) line)) ≡ tokens line =
    ap (λ x. option_map (λ ts. x ++ ts) (tokens_from (place + length (word_text w)) 0 (drop (place + length (word_text w)) line))) q
    ∙ found_more found (token place w) (tokens_from (place + length (word_text w)) 0 (drop (place + length (word_text w)) line))
    ∙ ap (option_map (λ ts. found ++ ts)) (sym s.same) ∙ h in
    record {
      within = subst (λ k. place + k ≤ length line) (sym m) s.within;
      some = subst (λ k. 1 ≤ k) (sym m) s.some;
      same = subst (λ k. option_map (λ ts. new ++ ts) (tokens_from (place + k) 0 (drop (place + k) line)) ≡ tokens line) (sym m) r;
    }

-- what the loop has found is the list of the tokens
pub tokens_given : (line : List ℕ) (ts : List Token) → Some ts ≡ tokens line → AreTokens 0 line ts
tokens_given line ts h = (are_tokens line ts).0 (sym h)
