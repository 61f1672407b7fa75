-- Meets and lists of forms, one step further than before.
use Rattle.std.proofs.Common.{◌≡◌, ◌<◌, ◌≤◌, inl, inr, ℕ, zero, suc, ◌+◌, ◌*◌, ◌/◌, ◌%◌, ◌^◌, Bool, true, false, ◌||◌, List, [], ◌∷◌, ◌++◌, refl, sym, ap, ap₂, ◌∙◌, w64, arith}
use Rattle.std.specs.Prelude.{nat_eq, bit_and, bit_or}
use Rattle.std.specs.Int.{bit_at, bit_not}
use Rattle.std.proofs.lemmas.Bool.{cases_lt, cases_eq, eqb-true, eq-eqb, false_from_ne_true}
use Rattle.std.proofs.lemmas.Nat.{and_le_l, pow_below}
use Rattle.std.proofs.lemmas.Nat.Bits.{shr_and_one, bit_at_clear_same, bit_at_clear_other}
use Rattle.copy_weights.specs.declared.form.Form.{Form}
use Rattle.copy_weights.specs.Forms.{meet, undefined, has, meet_over, tabulate}
use Rattle.copy_weights.specs.private.SetLaws.{has_or, has_pow_same, has_pow_other, sets_same_below, set_or_below}
use Rattle.copy_weights.specs.private.FormLaws.{meet_assoc, meet_undefined, undefined_meet, meet_over_or, meet_over_none, meet_over_past, meet_over_one}

-- ---- meets over a set

or_false : (b : Bool) → (b || false) ≡ b
or_false true = refl
or_false false = refl

-- a set without one of its members, and that member
module _ (s k : ℕ) (fits : s < 2 ^ 64) (within : k < 64) where
  abbrev pub others : ℕ
  others = bit_and s (bit_not w64 (1 * 2 ^ k % 2 ^ 64))

  others_have : bit_at s k ≡ 1 → (i : ℕ) → i < 64 → has (bit_or others (2 ^ k)) i ≡ has s i
  unfolding has
  others_have is i below = has_or others (2 ^ k) i ∙ elim (cases_eq i k) [
    | inl same ↦
        ap₂ (λ a b. a || b) (ap (λ j. nat_eq (bit_at others j) 1) same ∙ ap (λ b. nat_eq b 1) (bit_at_clear_same w64 s k within)) (ap (has (2 ^ k)) same ∙ has_pow_same k)
        ∙ sym (ap (λ j. nat_eq (bit_at s j) 1) same ∙ ap (λ b. nat_eq b 1) is)
    | inr apart ↦
        ap₂ (λ a b. a || b) (ap (λ b. nat_eq b 1) (bit_at_clear_other w64 s k within i below apart)) (has_pow_other k i apart)
        ∙ or_false (has s i)
  ]

  pub with_others : bit_at s k ≡ 1 → bit_or others (2 ^ k) ≡ s
  with_others is =
      let few = and_le_l s (bit_not w64 (1 * 2 ^ k % 2 ^ 64)) in
      let one = pow_below k 64 within in
      sets_same_below 64 (bit_or others (2 ^ k)) s (set_or_below 64 others (2 ^ k) (omega (arith, few, fits)) one) fits (others_have is)

  pub fewer_others : bit_at s k ≡ 1 → others < s
  fewer_others is = elim (cases_lt others s) [
    | inl less ↦ less
    | inr more ↦
        let few = and_le_l s (bit_not w64 (1 * 2 ^ k % 2 ^ 64)) in
        let same : others ≡ s = omega (arith, more, few) in
        let gone = bit_at_clear_same w64 s k within in
        let there : bit_at others k ≡ 1 = ap (λ t. bit_at t k) same ∙ is in
        absurd (omega (arith, gone, there))
  ]

-- what is made, with what is left, is the whole
pub meet_over_begun : (n : ℕ) (f : ℕ → Form) (s : ℕ) → meet (meet_over n f s) undefined ≡ meet_over n f s
meet_over_begun n f s = meet_undefined (meet_over n f s)

pub meet_over_taken : (n : ℕ) (f : ℕ → Form) (rest s k : ℕ) (made new whole : Form) → bit_or rest (2 ^ k) ≡ s → (k < n → new ≡ meet (f k) made) → (n ≤ k → new ≡ made)
    → meet (meet_over n f s) made ≡ whole → meet (meet_over n f rest) new ≡ whole
meet_over_taken n f rest s k made new whole is there nowhere so_far =
    let parts = ap (meet_over n f) (sym is) ∙ meet_over_or n f rest (2 ^ k) in
    elim (cases_lt k n) [
      | inl less ↦
          ap (meet (meet_over n f rest)) (there less ∙ ap (λ m. meet m made) (sym (meet_over_one n f k less)))
          ∙ sym (meet_assoc (meet_over n f rest) (meet_over n f (2 ^ k)) made)
          ∙ ap (λ m. meet m made) (sym parts)
          ∙ so_far
      | inr more ↦
          ap (meet (meet_over n f rest)) (nowhere more)
          ∙ ap (λ m. meet m made) (sym (parts ∙ ap (meet (meet_over n f rest)) (meet_over_past n f k more) ∙ meet_undefined (meet_over n f rest)))
          ∙ so_far
    ]

pub meet_over_whole : (n : ℕ) (f : ℕ → Form) (rest : ℕ) (made whole : Form) → rest ≡ 0 → meet (meet_over n f rest) made ≡ whole → made ≡ whole
meet_over_whole n f rest made whole none so_far =
    sym (undefined_meet made)
    ∙ ap (λ m. meet m made) (sym (ap (meet_over n f) none ∙ meet_over_none n f))
    ∙ so_far

-- the test of a bit
pub has_shifted : (s k : ℕ) → bit_and (s / 2 ^ k) 1 ≡ 1 → has s k ≡ true
unfolding has
has_shifted s k e = eq-eqb (s / 2 ^ k % 2) 1 (sym (shr_and_one s k) ∙ e)

pub has_not_shifted : (s k : ℕ) → (bit_and (s / 2 ^ k) 1 ≡ 1 → ⊥) → has s k ≡ false
unfolding has
has_not_shifted s k h = false_from_ne_true (nat_eq (s / 2 ^ k % 2) 1) (λ e. h (shr_and_one s k ∙ eqb-true (s / 2 ^ k % 2) 1 e))

-- ---- lists

tabulate_suc : (k : ℕ) (f : ℕ → Form) → tabulate (suc k) f ≡ tabulate k f ++ f k ∷ []
unfolding tabulate
tabulate_suc zero f = refl
tabulate_suc (suc k) f = ap (λ fs. f 0 ∷ fs) (tabulate_suc k (λ i. f (suc i)))

tabulate_next : (k : ℕ) (f : ℕ → Form) → tabulate (k + 1) f ≡ tabulate k f ++ f k ∷ []
tabulate_next k f = ap (λ m. tabulate m f) (let is : k + 1 ≡ suc k = omega arith in is) ∙ tabulate_suc k f

pub tabulate_none : (f : ℕ → Form) → tabulate 0 f ≡ []
unfolding tabulate
tabulate_none f = refl

-- one more form behind the others
pub tabulate_pushed : (k : ℕ) (f : ℕ → Form) (old new : List Form) (g : Form) → old ≡ tabulate k f → g ≡ f k → new ≡ old ++ g ∷ [] → new ≡ tabulate (k + 1) f
tabulate_pushed k f old new g e h is = is ∙ ap₂ (λ l x. l ++ x ∷ []) e h ∙ sym (tabulate_next k f)

-- forms that are alike below a number, and there
pub alike_next : (k : ℕ) (f g : ℕ → Form) → ((i : ℕ) → i < k → f i ≡ g i) → f k ≡ g k → (i : ℕ) → i < k + 1 → f i ≡ g i
alike_next k f g below at i within = elim (cases_lt i k) [
  | inl less ↦ below i less
  | inr more ↦
      let is : i ≡ k = omega (arith, more) in
      rw is at
]
