-- Where the cutting of a line into tokens stops at a byte that begins none.
use Rattle.std.proofs.Common.{◌≡◌, ◌↔◌, ℕ, zero, suc, ◌+◌, ◌-◌, ◌≤◌, Bool, true, false, ◌&&◌, cond, List, [], ◌∷◌, ◌++◌, length, drop, Option, Some, None, option_map, refl, sym, ap, ◌∙◌, subst, arith}
use Rattle.std.specs.Prelude.{◌==◌, ◌≢◌, IfSome, is_some}
use Rattle.std.specs.List.{list_all}
use Rattle.std.proofs.lemmas.Bool.{and_parts, and_from, not-true}
use Rattle.wpds_port.specs.Tokens.{is_blank, Mark, Arrow, Implies, Becomes, Differs, Colon, Minus, Equal, Not, mark_text, Word, Name, Number, Sign, word_text, word_at, is_digit, begins_name, goes_on_name, is_word, Token, token, tokens_from, tokens, BeginsNoToken, StopsBehind, IsStuck}
use Rattle.wpds_port.proofs.WordLemmas.{digit_begins_no_name, word_cut, IsCutOff}
use Rattle.wpds_port.proofs.TokenLemmas.{blanks_skipped, word_taken, behind}

-- ---- a text with a token in front begins a token

mark_begins : (m : Mark) (rest : List ℕ) → is_some (word_at (mark_text m ++ rest)) ≡ true
mark_begins Minus [] = refl
mark_begins Minus (b ∷ bs) = go (62 == b)
  where
    go : (t : Bool) → is_some (option_map Sign (cond (t && true) (Some Arrow) (Some Minus))) ≡ true
    go true = refl
    go false = refl
mark_begins Equal [] = refl
mark_begins Equal (b ∷ bs) = go (62 == b)
  where
    go : (t : Bool) → is_some (option_map Sign (cond (t && true) (Some Implies) (Some Equal))) ≡ true
    go true = refl
    go false = refl
mark_begins Colon [] = refl
mark_begins Colon (b ∷ bs) = go (61 == b)
  where
    go : (t : Bool) → is_some (option_map Sign (cond (t && true) (Some Becomes) (Some Colon))) ≡ true
    go true = refl
    go false = refl
mark_begins Not [] = refl
mark_begins Not (b ∷ bs) = go (61 == b)
  where
    go : (t : Bool) → is_some (option_map Sign (cond (t && true) (Some Differs) (Some Not))) ≡ true
    go true = refl
    go false = refl
mark_begins m rest = refl

word_begins : (w : Word) (rest : List ℕ) → is_word w ≡ true → is_some (word_at (word_text w ++ rest)) ≡ true
word_begins (Name []) rest h = cc
word_begins (Name (b ∷ bs)) rest h = let k = and_parts (begins_name b) (list_all goes_on_name bs) h in rw k.0 refl
word_begins (Number []) rest h = cc
word_begins (Number (b ∷ bs)) rest h = let k = and_parts (is_digit b) (list_all is_digit bs) h in rw (digit_begins_no_name b k.0, k.0) refl
word_begins (Sign m) rest h = mark_begins m rest

no_front : (text : List ℕ) → word_at text ≡ None → (w : Word) (rest : List ℕ) → is_word w ≡ true → text ≢ word_text w ++ rest
no_front text none w rest h same = nothing (word_at text) none (ap (λ x. is_some (word_at x)) same ∙ word_begins w rest h)
  where
    nothing : (o : Option Word) → o ≡ None → is_some o ≡ true → ⊥
    nothing None e k = cc
    nothing (Some v) e k = cc

-- ---- from the function to the relation

blank_before : (place b : ℕ) (bs : List ℕ) (ts : List Token) → is_blank b ≡ true → StopsBehind (place + 1) bs ts → StopsBehind place (b ∷ bs) ts
blank_before place b bs [] e (blanks, rest, all, joined, none) = (b ∷ blanks, rest, and_from (is_blank b) (list_all is_blank blanks) e all, ap (λ x. b ∷ x) joined, none)
blank_before place b bs (t ∷ ts) e (blanks, rest, f, more) =
    (b ∷ blanks, rest, record { blank = and_from (is_blank b) (list_all is_blank blanks) e f.blank; joined = ap (λ x. b ∷ x) f.joined; word = f.word; stop = f.stop; at = f.at ∙ ap (λ p. token p t.word) (omega arith) }, more)

word_before : (text : List ℕ) (place : ℕ) (w : Word) (rest : List ℕ) (us : List Token) → IsCutOff text w rest → StopsBehind (place + length (word_text w)) rest us → StopsBehind place text (token place w ∷ us)
word_before text place w rest us c more = ([], rest, record { blank = refl; joined = c.joined; word = c.word; stop = c.stop; at = ap (λ p. token p w) (omega arith) }, more)

unmapped : {A B : Type 0} (f : A → B) (o : Option A) → option_map f o ≡ None → o ≡ None
unmapped f None h = refl
unmapped f (Some a) h = cc

-- the cutting at a byte that is a blank or not, where the text begins with a word or not
abbrev cut_on : ℕ → List ℕ → Bool → Option Word → Option (List Token)
cut_on place bs t o = elim t [ true ↦ tokens_from (place + 1) 0 bs | false ↦ elim o [ None ↦ None | Some w ↦ option_map (λ ts. token place w ∷ ts) (tokens_from (place + 1) (length (word_text w) - 1) bs) ] ]

abbrev Stops : ℕ → List ℕ → Type 0
Stops place text = (ts : List Token) × StopsBehind place text ts

stops_there : (text : List ℕ) (place k q : ℕ) → q ≡ place + k → tokens_from place k text ≡ None → Stops q (drop k text)
stops_there [] place zero q e h = cc
stops_there [] place (suc k) q e h = cc
stops_there (b ∷ bs) place (suc k) q e h = stops_there bs (place + 1) k q (omega arith) h
stops_there (b ∷ bs) place zero q e h =
    subst (λ p. Stops p (b ∷ bs)) (omega arith) (go (is_blank b) (word_at (b ∷ bs)) refl refl (word_cut (b ∷ bs)) h (λ k r d g. stops_there bs (place + 1) k r d g))
  where
    go : (t : Bool) (o : Option Word) → is_blank b ≡ t → word_at (b ∷ bs) ≡ o → IfSome o (λ w. (rest : List ℕ) × IsCutOff (b ∷ bs) w rest)
        → cut_on place bs t o ≡ None
        → ((k r : ℕ) → r ≡ place + 1 + k → tokens_from (place + 1) k bs ≡ None → Stops r (drop k bs))
        → Stops place (b ∷ bs)
    go true o a c i h more = let s = more 0 (place + 1) (omega arith) h in (s.0, blank_before place b bs s.0 a s.1)
    go false None a c i h more = ([], ([], b ∷ bs, refl, refl, record { here = rw a refl; none = no_front (b ∷ bs) c }))
    go false (Some w) a c (rest, cut) h more =
        let m = unmapped (λ us. token place w ∷ us) (tokens_from (place + 1) (length (word_text w) - 1) bs) h in
        let f = behind b bs w rest cut in
        let l : 1 ≤ length (word_text w) = f.some in
        let below = more (length (word_text w) - 1) (place + length (word_text w)) (omega arith) m in
        (token place w ∷ below.0, word_before (b ∷ bs) place w rest below.0 cut (subst (λ x. StopsBehind (place + length (word_text w)) x below.0) f.dropped below.1))

-- ---- from the relation to the function

begins_none : (place : ℕ) (text : List ℕ) → BeginsNoToken text → tokens_from place 0 text ≡ None
begins_none place [] n = absurd_said n.here
  where
    absurd_said : false ≡ true → tokens_from place 0 [] ≡ None
    absurd_said h = cc
begins_none place (b ∷ bs) n = go (is_blank b) (word_at (b ∷ bs)) (not-true (is_blank b) n.here) (word_cut (b ∷ bs))
  where
    go : (t : Bool) (o : Option Word) → t ≡ false → IfSome o (λ w. (rest : List ℕ) × IsCutOff (b ∷ bs) w rest)
        → cut_on place bs t o ≡ None
    go true o e i = cc
    go false None e i = refl
    go false (Some w) e (rest, cut) = absurd (n.none w rest cut.word cut.joined)

stops_so : (ts : List Token) (place : ℕ) (text : List ℕ) → StopsBehind place text ts → tokens_from place 0 text ≡ None
stops_so [] place text (blanks, rest, all, joined, none) =
    ap (λ x. tokens_from place 0 x) joined ∙ blanks_skipped place blanks rest all ∙ begins_none (place + length blanks) rest none
stops_so (t ∷ ts) place text (blanks, rest, f, more) =
    let w = t.word in
    let p : ℕ = place + length blanks in
    let e : t.end ≡ p + length (word_text w) = ap (λ (x : Token). x.end) f.at in
    ap (λ x. tokens_from place 0 x) f.joined
    ∙ blanks_skipped place blanks (word_text w ++ rest) f.blank
    ∙ word_taken p w rest f.word f.stop
    ∙ ap (λ q. option_map (λ us. token p w ∷ us) (tokens_from q 0 rest)) (sym e)
    ∙ ap (option_map (λ us. token p w ∷ us)) (stops_so ts t.end rest more)

-- there is no list of tokens exactly where the cutting meets what begins no token
pub is_stuck : (line : List ℕ) → (tokens line ≡ None) ↔ IsStuck line
is_stuck line = ((λ h. stops_there line 0 0 0 refl h), (λ s. stops_so s.0 0 line s.1))

pub stuck_given : (line : List ℕ) → None ≡ tokens line → IsStuck line
stuck_given line h = (is_stuck line).0 (sym h)
