-- Weights as sets of pairs, and the bits that actions read.
use Rattle.std.proofs.Common.{◌≡◌, ℕ, ◌<◌, ◌↔◌, Bool, not, ◌&&◌, ◌||◌, List, [], ◌∷◌, refl, sym, ap, ap₂, ◌∙◌, subst}
use Rattle.std.specs.Prelude.{IsTrue, nat_eq, nat_lt, cond, Option, None, Some}
use Rattle.std.proofs.lemmas.Bool.{and_parts, ltb-true}
use Rattle.truth_tables.specs.Tables.{value2_of, value3_of}
use Rattle.truth_tables.specs.Formulas.{Formula, Constant, Variable, Opposite, Binary, Ternary, is_over}
use Rattle.diagram_ops.specs.Quantifying.{is_listed}
use Rattle.relation_laws.specs.Building.{Parts}
use Rattle.relation_laws.specs.States.{AgreeBelow, same_bit, each_below}
use Rattle.relation_laws.specs.Relations.{ReadsPairs, leads, relation_of, returned}
use Rattle.relation_laws.proofs.CallerLemmas.{same_bit_is, same_bit_itself, each_same, each_gives, each_from, identity_reads, FitsIn, ReadsSource, stay, extended, leads_stay, extended_gives, extended_from, back_gives, back_from}
use Rattle.relation_weights.specs.Actions.{value_in, assumed, allows, becomes, assigned, frame_pairs, IsValueOver, AreTargets}

-- ---- equal bits

agree_from : (n : ℕ) (x y : ℕ → Bool) → IsTrue (each_below n (λ k. same_bit (x k) (y k))) → AgreeBelow n x y
agree_from n x y h k below = same_bit_is (x k) (y k) (each_gives n (λ i. same_bit (x i) (y i)) h k below)

agree_to : (n : ℕ) (x y : ℕ → Bool) → AgreeBelow n x y → IsTrue (each_below n (λ k. same_bit (x k) (y k)))
agree_to n x y same =
    each_from n (λ i. same_bit (x i) (y i)) (λ k below. let P : Bool → Type 0 = λ b. IsTrue (same_bit (x k) b) in subst P (same k below) (same_bit_itself (x k)))

-- ---- weights

pub leads_one : (n : ℕ) (x y : ℕ → Bool) → IsTrue (leads (stay n) x y) ↔ AgreeBelow n x y
leads_one n x y = (λ h. agree_from n x y (sym (leads_stay n x y) ∙ h), λ same. leads_stay n x y ∙ agree_to n x y same)

pub leads_extended : (n : ℕ) (a b : Parts) → FitsIn n a → FitsIn n b → (x z : ℕ → Bool)
    → IsTrue (leads (extended n a b) x z) ↔ ((y : ℕ → Bool) × IsTrue (leads a x y) × IsTrue (leads b y z))
leads_extended n a b fa fb x z = (extended_gives n a b fa fb x z, λ m. extended_from n a b fa fb x m.0 z m.1 m.2)

pub leads_returned : (n : ℕ) (source : ℕ → (ℕ → Bool) → (ℕ → Bool) → Bool) → ReadsSource n source → (a : Parts) → FitsIn n a → (x y : ℕ → Bool)
    → IsTrue (leads (relation_of n (returned n source (leads a))) x y) ↔ ((z : ℕ → Bool) × IsTrue (leads a x z) × AgreeBelow n y (λ v. source v x z))
leads_returned n source reads a fa x y = (
  λ h. let s = back_gives n source reads a fa x y h in (s.0, s.1, agree_from n y (λ v. source v x s.0) s.2),
  λ m. back_from n source reads a fa x m.0 y m.1 (agree_to n y (λ v. source v x m.0) m.2),
)

-- ---- the bits that actions read

value_reads : (n : ℕ) (f : Formula ℕ) → IsTrue (is_over n f) → (x x' : ℕ → Bool) → AgreeBelow n x x' → value_in x f ≡ value_in x' f
value_reads n (Constant b) over x x' same = refl
value_reads n (Variable k) over x x' same = same k (ltb-true k n over)
value_reads n (Opposite f) over x x' same = ap not (value_reads n f over x x' same)
value_reads n (Binary t f g) over x x' same =
    let p = and_parts (nat_lt t 16 && is_over n f) (is_over n g) over in
    let q = and_parts (nat_lt t 16) (is_over n f) p.0 in
    ap₂ (value2_of t) (value_reads n f q.1 x x' same) (value_reads n g p.1 x x' same)
value_reads n (Ternary t f g h) over x x' same =
    let p = and_parts (is_over n f && is_over n g) (is_over n h) over in
    let q = and_parts (is_over n f) (is_over n g) p.0 in
    ap₂ (λ a b. value3_of t a b (value_in x h)) (value_reads n f q.0 x x' same) (value_reads n g q.1 x x' same)
    ∙ ap (value3_of t (value_in x' f) (value_in x' g)) (value_reads n h p.1 x x' same)

pub assumed_reads : (n : ℕ) (f : Formula ℕ) → IsTrue (is_over n f) → ReadsPairs n (assumed n f)
assumed_reads n f over x y x' y' a b = ap₂ (λ s t. s && t) (value_reads n f over x x' a) (identity_reads n x y x' y' a b)

pub frame_reads : (n : ℕ) (freed : List ℕ) → ReadsPairs n (frame_pairs n freed)
frame_reads n freed x y x' y' a b = each_same n (λ k. is_listed freed k || same_bit (x k) (y k)) (λ k. is_listed freed k || same_bit (x' k) (y' k)) (λ k below.
    ap₂ (λ s t. is_listed freed k || same_bit s t) (a k below) (b k below))

allows_reads : (n : ℕ) (v : Option (Formula ℕ)) → IsValueOver n v → (x x' : ℕ → Bool) → AgreeBelow n x x' → (b : Bool) → allows v x b ≡ allows v x' b
allows_reads n None over x x' same b = refl
allows_reads n (Some f) over x x' same b = ap (same_bit b) (value_reads n f over x x' same)

becomes_reads : (n : ℕ) (ts : List (ℕ × Option (Formula ℕ))) → AreTargets n ts → (x x' : ℕ → Bool) → AgreeBelow n x x' → (k : ℕ) → k < n → (b : Bool) → becomes ts k x b ≡ becomes ts k x' b
becomes_reads n [] all x x' same k below b = ap (λ s. same_bit s b) (same k below)
becomes_reads n (t ∷ ts) all x x' same k below b =
    ap₂ (cond (nat_eq t.0 k)) (allows_reads n t.1 all.1 x x' same b) (becomes_reads n ts all.3 x x' same k below b)

pub assigned_reads : (n : ℕ) (ts : List (ℕ × Option (Formula ℕ))) → AreTargets n ts → ReadsPairs n (assigned n ts)
assigned_reads n ts all x y x' y' a b = each_same n (λ k. becomes ts k x (y k)) (λ k. becomes ts k x' (y' k)) (λ k below.
    becomes_reads n ts all x x' a k below (y k) ∙ ap (becomes ts k x') (b k below))
