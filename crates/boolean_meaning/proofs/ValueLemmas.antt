-- The bits that values get.
use Rattle.std.proofs.Common.{◌≡◌, ℕ, zero, suc, ◌+◌, ◌<◌, Bool, List, [], ◌∷◌, ◌++◌, length, drop, refl, sym, ap, ap₂, ◌∙◌, subst, arith, append_assoc}
use Rattle.std.specs.Prelude.{Some, slice_get}
use Rattle.boolean_programs.specs.declared.statement.Choice.{Choice}
use Rattle.boolean_programs.specs.declared.statement.Choice.TheVariants.{Star, Is}
use Rattle.boolean_machine.specs.Machine.{value_at}
use Rattle.boolean_machine.specs.Picks.{listed, picked, stars}
use Rattle.boolean_meaning.specs.Bits.{bit_of}
use Rattle.boolean_meaning.specs.private.Outcomes.{IsPicked}
use Rattle.boolean_meaning.proofs.PlaceLemmas.{drop_at}

-- ---- picked bits

pub picked_shift : (old free : ℕ → Bool) (k : ℕ) (vs : List Choice) → picked old free (suc k) vs ≡ picked old (λ j. free (suc j)) k vs
picked_shift old free k [] = refl
picked_shift old free k (Star ∷ vs) = ap (λ bs. free (suc k) ∷ bs) (picked_shift old free (suc k) vs)
picked_shift old free k (Is e ∷ vs) = ap (λ bs. value_at old e ∷ bs) (picked_shift old free k vs)

pub length_picked : (old free : ℕ → Bool) (k : ℕ) (vs : List Choice) → length (picked old free k vs) ≡ length vs
length_picked old free k [] = refl
length_picked old free k (Star ∷ vs) = ap (λ n. suc n) (length_picked old free (suc k) vs)
length_picked old free k (Is e ∷ vs) = ap (λ n. suc n) (length_picked old free k vs)

module _ (old : ℕ → Bool) where
  more_by : (v : Choice) (vs : List Choice) (before after : ℕ) (b : Bool) → IsPicked old (Some v) before after b
      → picked old (bit_of before) 0 (v ∷ vs) ≡ b ∷ picked old (bit_of after) 0 vs
  more_by Star vs before after b h =
      ap₂ (λ (c : Bool) (cs : List Bool). c ∷ cs) (sym h.0) (picked_shift old (bit_of before) 0 vs ∙ ap (λ n. picked old (bit_of n) 0 vs) (sym h.1))
  more_by (Is e) vs before after b h = ap₂ (λ (c : Bool) (cs : List Bool). c ∷ cs) (sym h.0) (ap (λ n. picked old (bit_of n) 0 vs) (sym h.1))

  left_by : (v : Choice) (vs : List Choice) (before after : ℕ) (b : Bool) → IsPicked old (Some v) before after b
      → (j : ℕ) → bit_of after (stars vs + j) ≡ bit_of before (stars (v ∷ vs) + j)
  left_by Star vs before after b h j =
      ap (λ n. bit_of n (stars vs + j)) h.1 ∙ ap (bit_of before) (let f : suc (stars vs + j) ≡ suc (stars vs) + j = omega arith in f)
  left_by (Is e) vs before after b h j = ap (λ n. bit_of n (stars vs + j)) h.1

  module _ (all : List Choice) (place : ℕ) (before after : ℕ) (b : Bool) (small : place < length all) (h : IsPicked old (slice_get all place) before after b) where
    there : (v : Choice) × (slice_get all place ≡ Some v)
    there = within all place small
      where
        within : (vs : List Choice) (k : ℕ) → k < length vs → (v : Choice) × (slice_get vs k ≡ Some v)
        within [] k s = absurd (omega arith)
        within (v ∷ vs) zero s = (v, refl)
        within (v ∷ vs) (suc k) s = within vs k (omega arith)

    value : IsPicked old (Some there.0) before after b
    value = subst (λ o. IsPicked old o before after b) there.1 h

    pub picked_more : picked old (bit_of before) 0 (drop place all) ≡ b ∷ picked old (bit_of after) 0 (drop (suc place) all)
    picked_more = ap (λ vs. picked old (bit_of before) 0 vs) (drop_at all place there.0 there.1) ∙ more_by there.0 (drop (suc place) all) before after b value

    pub left_more : (j : ℕ) → bit_of after (stars (drop (suc place) all) + j) ≡ bit_of before (stars (drop place all) + j)
    left_more j =
        left_by there.0 (drop (suc place) all) before after b value j
        ∙ ap (λ vs. bit_of before (stars vs + j)) (sym (drop_at all place there.0 there.1))

    pub picked_next : (front new : List Bool) → new ≡ front ++ b ∷ []
        → front ++ picked old (bit_of before) 0 (drop place all) ≡ new ++ picked old (bit_of after) 0 (drop (place + 1) all)
    picked_next front new e =
        ap (λ bs. front ++ bs) picked_more
        ∙ sym (append_assoc front (b ∷ []) (picked old (bit_of after) 0 (drop (suc place) all)))
        ∙ ap₂ (λ (bs : List Bool) (k : ℕ). bs ++ picked old (bit_of after) 0 (drop k all)) (sym e) (let f : suc place ≡ place + 1 = omega arith in f)

    pub left_next : (j : ℕ) → bit_of after (stars (drop (place + 1) all) + j) ≡ bit_of before (stars (drop place all) + j)
    left_next j = ap (λ k. bit_of after (stars (drop k all) + j)) (let f : place + 1 ≡ suc place = omega arith in f) ∙ left_more j

-- ---- lists by a function

pub listed_last : (n : ℕ) (f : ℕ → Bool) → listed (suc n) f ≡ listed n f ++ f n ∷ []
listed_last zero f = refl
listed_last (suc n) f = ap (λ bs. f 0 ∷ bs) (listed_last n (λ k. f (suc k)))

pub listed_next : (n : ℕ) (f : ℕ → Bool) → listed (n + 1) f ≡ listed n f ++ f n ∷ []
listed_next n f = ap (λ k. listed k f) (let e : n + 1 ≡ suc n = omega arith in e) ∙ listed_last n f

pub length_listed : (n : ℕ) (f : ℕ → Bool) → length (listed n f) ≡ n
length_listed zero f = refl
length_listed (suc n) f = ap (λ k. suc k) (length_listed n (λ k. f (suc k)))

pub listed_same : (n : ℕ) (f g : ℕ → Bool) → ((k : ℕ) → f k ≡ g k) → listed n f ≡ listed n g
listed_same zero f g e = refl
listed_same (suc n) f g e = ap₂ (λ (b : Bool) (bs : List Bool). b ∷ bs) (e 0) (listed_same n (λ k. f (suc k)) (λ k. g (suc k)) (λ k. e (suc k)))

length_behind : (n : ℕ) (f : ℕ → Bool) (bs : List Bool) → length (listed n f ++ bs) ≡ n + length bs
length_behind zero f bs = let e : length bs ≡ 0 + length bs = omega arith in e
length_behind (suc n) f bs =
    ap (λ k. suc k) (length_behind n (λ k. f (suc k)) bs) ∙ (let e : suc (n + length bs) ≡ suc n + length bs = omega arith in e)

pub length_names : (a b : ℕ) (f g : ℕ → Bool) → length (listed a f ++ listed b g) ≡ a + b
length_names a b f g = length_behind a f (listed b g) ∙ ap (λ n. a + n) (length_listed b g)

pub length_after : (bs : List Bool) (n : ℕ) (f : ℕ → Bool) → length (bs ++ listed n f) ≡ length bs + n
length_after [] n f = length_listed n f ∙ (let e : n ≡ 0 + n = omega arith in e)
length_after (b ∷ bs) n f = ap (λ k. suc k) (length_after bs n f) ∙ (let e : suc (length bs + n) ≡ suc (length bs) + n = omega arith in e)
