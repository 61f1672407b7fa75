-- Where the tokens of a line stand in it.
use Rattle.std.proofs.Common.{◌≡◌, ℕ, ◌+◌, ◌-◌, ◌≤◌, List, [], ◌∷◌, ◌++◌, length, take, drop, sym, ap, ◌∙◌, subst, arith, append_assoc, length-append}
use Rattle.std.specs.List.{AllByRecursion}
use Rattle.std.proofs.Math.Seq.{take-append_seam, drop-append_seam}
use Rattle.wpds_port.specs.Tokens.{word_text, Word, Token, token, AreTokens, StandsIn, AreInOrder}
use Rattle.wpds_port.proofs.TokenLemmas.{word_some}

-- what stands between two parts of a line
between : (front w rest : List ℕ) → take (length w) (drop (length front) (front ++ (w ++ rest))) ≡ w
between front w rest = ap (take (length w)) (drop-append_seam front (w ++ rest)) ∙ take-append_seam w rest

stands : (front rest : List ℕ) (w : Word) → 1 ≤ length (word_text w) → StandsIn (front ++ (word_text w ++ rest)) (token (length front) w)
stands front rest w some =
    let count : (length front + length (word_text w)) - length front ≡ length (word_text w) = omega arith in
    record {
      some = omega arith;
      within = omega (arith, length-append front (word_text w ++ rest), length-append (word_text w) rest);
      text = ap (λ n. take n (drop (length front) (front ++ (word_text w ++ rest)))) count ∙ between front (word_text w) rest;
    }

pub stand_in : (ts : List Token) (front text line : List ℕ) (place : ℕ) → place ≡ length front → line ≡ front ++ text → AreTokens place text ts → AllByRecursion (StandsIn line) ts
stand_in [] front text line place p e h = tt
stand_in (t ∷ ts) front text line place p e (blanks, rest, f, more) =
    let w : List ℕ = word_text t.word in
    let before : List ℕ = front ++ blanks in
    let long : length before ≡ place + length blanks = length-append front blanks ∙ ap (λ n. n + length blanks) (sym p) in
    let whole : line ≡ before ++ (w ++ rest) = e ∙ ap (λ x. front ++ x) f.joined ∙ sym (append_assoc front blanks (w ++ rest)) in
    let here : StandsIn (before ++ (w ++ rest)) (token (length before) t.word) = stands before rest t.word (word_some t.word f.word) in
    let same : token (length before) t.word ≡ t = ap (λ n. token n t.word) long ∙ sym f.at in
    let ends : t.end ≡ length (before ++ w) = ap (λ (x : Token). x.end) f.at ∙ ap (λ n. n + length w) (sym long) ∙ sym (length-append before w) in (
      subst (StandsIn line) same (subst (λ x. StandsIn x (token (length before) t.word)) (sym whole) here),
      stand_in ts (before ++ w) rest line t.end ends (whole ∙ sym (append_assoc before w rest)) more,
    )

pub in_order : (ts : List Token) (place : ℕ) (text : List ℕ) → AreTokens place text ts → AreInOrder place ts
in_order [] place text h = tt
in_order (t ∷ ts) place text (blanks, rest, f, more) =
    let starts : t.start ≡ place + length blanks = ap (λ (x : Token). x.start) f.at in
    (omega arith, in_order ts t.end rest more)
