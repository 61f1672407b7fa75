-- What words keep and generate, word by word.
use Rattle.std.proofs.Common.{◌≡◌, ℕ, ◌-◌, ◌^◌, ◌<◌, Bool, true, false, ◌&&◌, ◌||◌, refl, sym, ap, ap₂, ◌∙◌, mod-eq_of_lt, arith}
use Rattle.std.specs.Prelude.{nat_eq, bit_and, bit_or}
use Rattle.std.proofs.lemmas.Nat.{and_comm, and_mask, and_le_l, or_lt}
use Rattle.std.proofs.lemmas.Nat.Bits.{bit_at-zero, bit_at_ones}
use Rattle.genkill_weights.specs.Masks.{has}
use Rattle.genkill_weights.specs.private.MaskLaws.{alike, alike_is, at, at3, at6, has_or, has_and, words_same}
use Rattle.genkill_weights.specs.GenKill.{gens_word, keep_word}

pub has_zero : (i : ℕ) → has 0 i ≡ false
unfolding has
has_zero i = ap (λ b. nat_eq b 1) (bit_at-zero i)

pub has_all : (i : ℕ) → i < 64 → has (2 ^ 64 - 1) i ≡ true
unfolding has
has_all i h = ap (λ b. nat_eq b 1) (bit_at_ones 64 i h)

-- ---- laws without a premise

pub word_or_assoc : (a b c : ℕ) → bit_or (bit_or a b) c ≡ bit_or a (bit_or b c)
word_or_assoc a b c = words_same (bit_or (bit_or a b) c) (bit_or a (bit_or b c)) (λ i.
    simp has_or (alike_is _ _ (at3 (λ x y z. alike ((x || y) || z) (x || (y || z))) refl (has a i) (has b i) (has c i))))

pub word_or_same : (a : ℕ) → bit_or a a ≡ a
word_or_same a = words_same (bit_or a a) a (λ i. has_or a a i ∙ alike_is _ _ (at (λ x. alike (x || x) x) refl (has a i)))

pub gens_assoc : (g k2 g2 k3 g3 : ℕ) → gens_word (gens_word g k2 g2) k3 g3 ≡ gens_word g (keep_word k2 g2 k3 g3) (gens_word g2 k3 g3)
gens_assoc g k2 g2 k3 g3 = words_same (gens_word (gens_word g k2 g2) k3 g3) (gens_word g (keep_word k2 g2 k3 g3) (gens_word g2 k3 g3)) (λ i.
    simp (has_or, has_and) (alike_is _ _ (at6 (λ x a b c d _. alike ((((x && a) || b) && c) || d) ((x && ((a && c) || ((b && c) || d))) || ((b && c) || d))) refl (has g i) (has k2 i) (has g2 i) (has k3 i) (has g3 i) true)))

pub keep_assoc : (k g k2 g2 k3 g3 : ℕ) → keep_word (keep_word k g k2 g2) (gens_word g k2 g2) k3 g3 ≡ keep_word k g (keep_word k2 g2 k3 g3) (gens_word g2 k3 g3)
keep_assoc k g k2 g2 k3 g3 = words_same (keep_word (keep_word k g k2 g2) (gens_word g k2 g2) k3 g3) (keep_word k g (keep_word k2 g2 k3 g3) (gens_word g2 k3 g3)) (λ i.
    simp (has_or, has_and) (alike_is _ _ (at6 (λ y x a b c d.
    alike ((((y && a) || ((x && a) || b)) && c) || ((((x && a) || b) && c) || d)) ((y && ((a && c) || ((b && c) || d))) || ((x && ((a && c) || ((b && c) || d))) || ((b && c) || d))))
    refl (has k i) (has g i) (has k2 i) (has g2 i) (has k3 i) (has g3 i))))

pub gens_right : (g k2 k3 g2 g3 : ℕ) → gens_word g (bit_or k2 k3) (bit_or g2 g3) ≡ bit_or (gens_word g k2 g2) (gens_word g k3 g3)
gens_right g k2 k3 g2 g3 = words_same (gens_word g (bit_or k2 k3) (bit_or g2 g3)) (bit_or (gens_word g k2 g2) (gens_word g k3 g3)) (λ i.
    simp (has_or, has_and) (alike_is _ _ (at6 (λ x a c b d _. alike ((x && (a || c)) || (b || d)) (((x && a) || b) || ((x && c) || d))) refl (has g i) (has k2 i) (has k3 i) (has g2 i) (has g3 i) true)))

pub keep_right : (k g k2 k3 g2 g3 : ℕ) → keep_word k g (bit_or k2 k3) (bit_or g2 g3) ≡ bit_or (keep_word k g k2 g2) (keep_word k g k3 g3)
keep_right k g k2 k3 g2 g3 = words_same (keep_word k g (bit_or k2 k3) (bit_or g2 g3)) (bit_or (keep_word k g k2 g2) (keep_word k g k3 g3)) (λ i.
    simp (has_or, has_and) (alike_is _ _ (at6 (λ y x a c b d. alike ((y && (a || c)) || ((x && (a || c)) || (b || d))) (((y && a) || ((x && a) || b)) || ((y && c) || ((x && c) || d))))
    refl (has k i) (has g i) (has k2 i) (has k3 i) (has g2 i) (has g3 i))))

pub gens_left : (g g2 k h : ℕ) → gens_word (bit_or g g2) k h ≡ bit_or (gens_word g k h) (gens_word g2 k h)
gens_left g g2 k h = words_same (gens_word (bit_or g g2) k h) (bit_or (gens_word g k h) (gens_word g2 k h)) (λ i.
    simp (has_or, has_and) (alike_is _ _ (at6 (λ x y a b _ _. alike (((x || y) && a) || b) (((x && a) || b) || ((y && a) || b))) refl (has g i) (has g2 i) (has k i) (has h i) true true)))

pub keep_left : (k k2 g g2 l h : ℕ) → keep_word (bit_or k k2) (bit_or g g2) l h ≡ bit_or (keep_word k g l h) (keep_word k2 g2 l h)
keep_left k k2 g g2 l h = words_same (keep_word (bit_or k k2) (bit_or g g2) l h) (bit_or (keep_word k g l h) (keep_word k2 g2 l h)) (λ i.
    simp (has_or, has_and) (alike_is _ _ (at6 (λ y z x u a b. alike (((y || z) && a) || (((x || u) && a) || b)) (((y && a) || ((x && a) || b)) || ((z && a) || ((u && a) || b))))
    refl (has k i) (has k2 i) (has g i) (has g2 i) (has l i) (has h i))))

pub or_or : (k l f : ℕ) → bit_or (bit_or k l) f ≡ bit_or (bit_or k f) (bit_or l f)
or_or k l f = words_same (bit_or (bit_or k l) f) (bit_or (bit_or k f) (bit_or l f)) (λ i.
    simp has_or (alike_is _ _ (at3 (λ x y z. alike ((x || y) || z) ((x || z) || (y || z))) refl (has k i) (has l i) (has f i))))

pub and-or_left : (g h f : ℕ) → bit_and (bit_or g h) f ≡ bit_or (bit_and g f) (bit_and h f)
and-or_left g h f = words_same (bit_and (bit_or g h) f) (bit_or (bit_and g f) (bit_and h f)) (λ i.
    simp (has_or, has_and) (alike_is _ _ (at3 (λ x y z. alike ((x || y) && z) ((x && z) || (y && z))) refl (has g i) (has h i) (has f i))))

pub gens_within : (k l g h : ℕ) → bit_and (gens_word g l h) (keep_word k g l h) ≡ gens_word g l h
gens_within k l g h = words_same (bit_and (gens_word g l h) (keep_word k g l h)) (gens_word g l h) (λ i.
    simp (has_or, has_and) (alike_is _ _ (at6 (λ y a x b _ _. alike (((x && a) || b) && ((y && a) || ((x && a) || b))) ((x && a) || b)) refl (has k i) (has l i) (has g i) (has h i) true true)))

-- ---- laws of words of which one is within another

pub has_within : (g k : ℕ) → bit_and g k ≡ g → (i : ℕ) → (has g i && has k i) ≡ has g i
has_within g k e i = sym (has_and g k i) ∙ ap (λ w. has w i) e

pub absorbed : (g k : Bool) → (g && k) ≡ g → (k || g) ≡ k
absorbed true true e = refl
absorbed true false e = sym e
absorbed false true e = refl
absorbed false false e = refl

both_within : (g k h l : Bool) → (g && k) ≡ g → (h && l) ≡ h → ((g || h) && (k || l)) ≡ (g || h)
both_within true true h l e f = refl
both_within true false h l e f = let g : false ≡ true = e in cc
both_within false true true l e f = refl
both_within false true false l e f = refl
both_within false false true true e f = refl
both_within false false true false e f = let g : false ≡ true = f in cc
both_within false false false l e f = refl

still_within : (g k n f : Bool) → (g && k) ≡ g → ((g && n) && (k || f)) ≡ (g && n)
still_within true true true f e = refl
still_within true true false f e = refl
still_within true false n f e = let g : false ≡ true = e in cc
still_within false k n f e = refl

pub or_within : (k g : ℕ) → bit_and g k ≡ g → bit_or k g ≡ k
or_within k g e = words_same (bit_or k g) k (λ i. has_or k g i ∙ absorbed (has g i) (has k i) (has_within g k e i))

pub union_within : (g k h l : ℕ) → bit_and g k ≡ g → bit_and h l ≡ h → bit_and (bit_or g h) (bit_or k l) ≡ bit_or g h
union_within g k h l e f = words_same (bit_and (bit_or g h) (bit_or k l)) (bit_or g h) (λ i.
    has_and (bit_or g h) (bit_or k l) i ∙ ap₂ (λ x y. x && y) (has_or g h i) (has_or k l i)
    ∙ both_within (has g i) (has k i) (has h i) (has l i) (has_within g k e i) (has_within h l f i) ∙ sym (has_or g h i))

pub restored_within : (g k n f : ℕ) → bit_and g k ≡ g → bit_and (bit_and g n) (bit_or k f) ≡ bit_and g n
restored_within g k n f e = words_same (bit_and (bit_and g n) (bit_or k f)) (bit_and g n) (λ i.
    has_and (bit_and g n) (bit_or k f) i ∙ ap₂ (λ x y. x && y) (has_and g n i) (has_or k f i)
    ∙ still_within (has g i) (has k i) (has n i) (has f i) (has_within g k e i) ∙ sym (has_and g n i))

-- ---- one

pub and_all : (a : ℕ) → a < 2 ^ 64 → bit_and a (2 ^ 64 - 1) ≡ a
and_all a h = and_mask a 64 ∙ mod-eq_of_lt h

pub and_zero : (a : ℕ) → bit_and 0 a ≡ 0
and_zero a = words_same (bit_and 0 a) 0 (λ i. has_and 0 a i ∙ ap (λ b. b && has a i) (has_zero i) ∙ sym (has_zero i))

or_zero_left : (a : ℕ) → bit_or 0 a ≡ a
or_zero_left a = words_same (bit_or 0 a) a (λ i. has_or 0 a i ∙ ap (λ b. b || has a i) (has_zero i))

or_false : (b : Bool) → (b || false) ≡ b
or_false true = refl
or_false false = refl

or_zero_right : (a : ℕ) → bit_or a 0 ≡ a
or_zero_right a = words_same (bit_or a 0) a (λ i. has_or a 0 i ∙ ap (λ b. has a i || b) (has_zero i) ∙ or_false (has a i))

pub gens_one_left : (k g : ℕ) → gens_word 0 k g ≡ g
gens_one_left k g = ap (λ w. bit_or w g) (and_zero k) ∙ or_zero_left g

pub keep_one_left : (k g : ℕ) → k < 2 ^ 64 → bit_and g k ≡ g → keep_word (2 ^ 64 - 1) 0 k g ≡ k
keep_one_left k g h e = ap₂ bit_or (and_comm (2 ^ 64 - 1) k ∙ and_all k h) (gens_one_left k g) ∙ or_within k g e

pub gens_one_right : (g : ℕ) → g < 2 ^ 64 → gens_word g (2 ^ 64 - 1) 0 ≡ g
gens_one_right g h = or_zero_right (bit_and g (2 ^ 64 - 1)) ∙ and_all g h

pub keep_one_right : (k g : ℕ) → k < 2 ^ 64 → g < 2 ^ 64 → bit_and g k ≡ g → keep_word k g (2 ^ 64 - 1) 0 ≡ k
keep_one_right k g hk hg e = ap₂ bit_or (and_all k hk) (gens_one_right g hg) ∙ or_within k g e

-- ---- sizes

pub or_below : (a b : ℕ) → a < 2 ^ 64 → b < 2 ^ 64 → bit_or a b < 2 ^ 64
or_below a b ha hb = or_lt 64 a b ha hb

pub and_below : (a b : ℕ) → a < 2 ^ 64 → bit_and a b < 2 ^ 64
and_below a b ha = let low = and_le_l a b in omega (arith, low, ha)
