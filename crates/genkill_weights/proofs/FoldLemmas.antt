-- One word that is 0 where all words of one mask are those of another.
use Rattle.std.proofs.Common.{◌≡◌, ℕ, ◌+◌, ◌<◌, ◌↔◌, List, length, get_or, sym, ap, ap₂, ◌∙◌, inl, inr, arith}
use Rattle.std.specs.Prelude.{IsTrue, nat_eq, bit_or, bit_xor}
use Rattle.std.specs.Int.Bits.{xor_self, xor_add_and}
use Rattle.std.proofs.lemmas.Bool.{cases_lt, eqb-true, eq-eqb}
use Rattle.std.proofs.lemmas.Nat.{and_le_l, and_le_r, le_or_l, le_or_r}
use Rattle.genkill_weights.specs.Masks.{tabulate, word}
use Rattle.genkill_weights.specs.private.MaskLaws.{tabulate_is, tabulate_words, word_tabulate}

-- words of which no bit differs are equal
same_where_none : (x y : ℕ) → bit_xor x y ≡ 0 → x ≡ y
same_where_none x y e =
    let sum = xor_add_and x y in
    let left = and_le_l x y in
    let right = and_le_r x y in
    omega (arith, e, sum, left, right)

-- no word so far, and then none with one more
pub none_apart : (w : ℕ) (f g : ℕ → ℕ) → w ≡ 0 → (w ≡ 0) ↔ ((i : ℕ) → i < 0 → f i ≡ g i)
none_apart w f g none = (λ _ i below. absurd (omega (arith, below)), λ _. none)

pub none_apart_more : (k w : ℕ) (f g : ℕ → ℕ) → (w ≡ 0) ↔ ((i : ℕ) → i < k → f i ≡ g i)
    → (bit_or w (bit_xor (f k) (g k)) ≡ 0) ↔ ((i : ℕ) → i < k + 1 → f i ≡ g i)
none_apart_more k w f g so_far =
    let first = le_or_l w (bit_xor (f k) (g k)) in
    let last = le_or_r w (bit_xor (f k) (g k)) in (
      λ none i below. elim (cases_lt i k) [
        | inl less ↦ so_far.0 (omega (arith, none, first)) i less
        | inr more ↦
            let is : i ≡ k = omega (arith, more, below) in
            ap f is ∙ same_where_none (f k) (g k) (omega (arith, none, last)) ∙ ap g (sym is)
      ],
      λ same.
          let here : f k ≡ g k = same k (omega arith) in
          ap₂ bit_or (so_far.1 (λ i below. same i (omega (arith, below)))) (ap (λ x. bit_xor x (g k)) here ∙ xor_self (g k)),
    )

-- a mask whose words are these, where that is told by one word
pub told_by_words : (n i w : ℕ) (f : ℕ → ℕ) (mask : List ℕ) → length mask ≡ n → n ≡ i
    → (w ≡ 0) ↔ ((k : ℕ) → k < i → f k ≡ get_or mask k 0) → IsTrue (nat_eq w 0) ↔ (tabulate n f ≡ mask)
unfolding word
told_by_words n i w f mask count all told = (
  λ h. sym (tabulate_is n f mask count (λ k below. sym (told.0 (eqb-true w 0 h) k (omega (arith, below, all))))),
  λ same. eq-eqb w 0 (told.1 (λ k below. sym (word_tabulate n f k (omega (arith, below, all))) ∙ ap (λ m. get_or m k 0) same)),
)

pub told_by_masks : (n i w : ℕ) (a b : List ℕ) → length a ≡ n → length b ≡ n → n ≡ i
    → (w ≡ 0) ↔ ((k : ℕ) → k < i → get_or a k 0 ≡ get_or b k 0) → IsTrue (nat_eq w 0) ↔ (a ≡ b)
unfolding word
told_by_masks n i w a b count count' all told =
    let by_words = told_by_words n i w (λ k. get_or a k 0) b count' all told in
    let whole = tabulate_words n a count in
    (λ h. sym whole ∙ by_words.0 h, λ same. by_words.1 (whole ∙ same))
