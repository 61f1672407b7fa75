-- Names with their bits.
use Rattle.std.proofs.Common.{◌≡◌, ℕ, zero, suc, ◌+◌, Bool, List, [], ◌∷◌, ◌++◌, length, refl, sym, ap, ◌∙◌, append_assoc, arith}
use Rattle.boolean_machine.specs.Picks.{listed}
use Rattle.boolean_meaning.proofs.CallerLemmas.{listed_same}
use Rattle.state_text.specs.States.{bit_text, bits_text}

-- names behind others take the bits behind theirs
pub bits_joined : (xs ys : List (List ℕ)) (f : ℕ → Bool)
    → bits_text (xs ++ ys) (listed (length xs + length ys) f) ≡ bits_text xs (listed (length xs) f) ++ bits_text ys (listed (length ys) (λ k. f (length xs + k)))
bits_joined [] ys f =
    let none : 0 + length ys ≡ length ys = omega arith in
    ap (λ n. bits_text ys (listed n f)) none
    ∙ ap (bits_text ys) (listed_same (length ys) f (λ k. f (0 + k)) (λ k. let same : k ≡ 0 + k = omega arith in ap f same))
bits_joined (x ∷ xs) ys f =
    let count : length (x ∷ xs) + length ys ≡ suc (length xs + length ys) = omega arith in
    let first = bit_text x (f 0) in
    let later = bits_text xs (listed (length xs) (λ k. f (suc k))) in
    ap (λ n. bits_text (x ∷ (xs ++ ys)) (listed n f)) count
    ∙ ap (λ t. first ++ t) (bits_joined xs ys (λ k. f (suc k)))
    ∙ sym (append_assoc first later (bits_text ys (listed (length ys) (λ k. f (suc (length xs + k))))))
    ∙ ap (λ bs. (first ++ later) ++ bits_text ys bs)
    (listed_same (length ys) (λ k. f (suc (length xs + k))) (λ k. f (length (x ∷ xs) + k)) (λ k. let same : suc (length xs + k) ≡ length (x ∷ xs) + k = omega arith in ap f same))
