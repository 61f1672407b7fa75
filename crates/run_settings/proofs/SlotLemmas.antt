-- Bits that come back from a callee.
use Rattle.std.proofs.Common.{◌≡◌, ◌↔◌, ℕ, ◌+◌, ◌<◌, Bool, false, List, [], ◌∷◌, ◌++◌, refl, sym, ap, ◌∙◌, subst, inl, inr, arith}
use Rattle.std.specs.Prelude.{slice_index_or, IsTrue}
use Rattle.std.proofs.lemmas.Bool.{cases_lt, ltb-true}
use Rattle.semiring_laws.specs.Semiring.{Fits, FitsMap}
use Rattle.relation_laws.specs.Building.{Parts}
use Rattle.relation_laws.specs.Relations.{leads}
use Rattle.relation_laws.specs.States.{AgreeBelow}
use Rattle.relation_laws.proofs.CallerLemmas.{each_gives}
use Rattle.relation_weights.specs.declared.rel_map.Slot.{Slot}
use Rattle.relation_weights.specs.declared.rel_map.Slot.TheVariants.{Caller, Callee}
use Rattle.relation_weights.specs.declared.rel_map.RelMap.{RelMap}
use Rattle.relation_weights.specs.declared.rel_map.RelMap.TheVariants.{Plain, Slots}
use Rattle.relation_weights.specs.Relations.{slot_bit, source_of, slot_fits, relation_operations}
use Rattle.relation_picks.specs.Picks.{AreBitsBelow, HasBits}
use Rattle.setting_runs.specs.Relations.{Setting, IsRestored}
use Rattle.run_settings.specs.Settings.{slot_at}
use Rattle.run_settings.specs.private.Links.{IsBack}
use Rattle.run_settings.proofs.ListLemmas.{push_last, push_old, push_cases}

-- the number of a callee's bit is below n
fits_below : (n u : ℕ) (s : Slot) → s ≡ Callee u → IsTrue (slot_fits n s) → u < n
fits_below n u s e fit = let f : IsTrue (slot_fits n (Callee u)) = subst (λ t. IsTrue (slot_fits n t)) e fit in ltb-true u n f

pub slot_below : (n : ℕ) (h : RelMap) → FitsMap (relation_operations n) h → (k u : ℕ) → k < n → slot_at h k ≡ Callee u → u < n
slot_below n Plain fit k u below e = let same : k ≡ u = cc in subst (λ i. i < n) same below
slot_below n (Slots slots) fit k u below e = fits_below n u (slice_index_or slots k Caller) e (each_gives n (λ v. slot_fits n (slice_index_or slots v Caller)) fit k below)

-- ---- a bit more

pub below_push : (n : ℕ) (list : List (ℕ × Bool)) (u : ℕ) (b : Bool) → u < n → AreBitsBelow n list → AreBitsBelow n (list ++ (u, b) ∷ [])
below_push n list u b small old k v c at = elim (push_cases list (u, b) k (v, c) at) [
  | inl there ↦ old k v c there
  | inr new ↦ subst (λ (t : ℕ × Bool). t.0 < n) new.0 small
]

has_push : (list : List (ℕ × Bool)) (u : ℕ) (b : Bool) (y : Setting) → HasBits (list ++ (u, b) ∷ []) y ↔ (HasBits list y × (y u ≡ b))
has_push list u b y = (
  λ h. (λ k v c at. h k v c (push_old list (u, b) k (v, c) at), h _ u b (push_last list (u, b))),
  λ h k v c at. elim (push_cases list (u, b) k (v, c) at) [
    | inl there ↦ h.0 k v c there
    | inr new ↦ ap y (sym (ap (λ (t : ℕ × Bool). t.0) new.0)) ∙ h.1 ∙ ap (λ (t : ℕ × Bool). t.1) new.0
  ],
)

abbrev pub ComeBack : RelMap → List Bool → ℕ → Setting → Type 0
ComeBack h behind i y = (k : ℕ) → k < i → IsBack (slot_at h k) y (slice_index_or behind k false)

module _ (h : RelMap) (behind : List Bool) (i : ℕ) (list : List (ℕ × Bool)) (y : Setting) (so_far : HasBits list y ↔ ComeBack h behind i y) where
  pub back_callee : (u : ℕ) (b : Bool) → slot_at h i ≡ Callee u → b ≡ slice_index_or behind i false → HasBits (list ++ (u, b) ∷ []) y ↔ ComeBack h behind (i + 1) y
  back_callee u b e is = (
    λ has k below.
        let parts = (has_push list u b y).0 has in
        elim (cases_lt k i) [
          | inl less ↦ so_far.0 parts.0 k less
          | inr past ↦
              let at : k ≡ i = omega arith in
              let here : IsBack (Callee u) y (slice_index_or behind i false) = sym is ∙ sym parts.1 in
              subst (λ j. IsBack (slot_at h j) y (slice_index_or behind j false)) (sym at) (subst (λ s. IsBack s y (slice_index_or behind i false)) (sym e) here)
        ],
    λ come.
        let here : IsBack (Callee u) y (slice_index_or behind i false) = subst (λ s. IsBack s y (slice_index_or behind i false)) e (come i (omega arith)) in
        (has_push list u b y).1 (so_far.1 (λ k below. come k (omega arith)), sym here ∙ sym is),
  )

  pub back_caller : slot_at h i ≡ Caller → HasBits list y ↔ ComeBack h behind (i + 1) y
  back_caller e = (
    λ has k below. elim (cases_lt k i) [
      | inl less ↦ so_far.0 has k less
      | inr past ↦
          let at : k ≡ i = omega arith in
          subst (λ j. IsBack (slot_at h j) y (slice_index_or behind j false)) (sym at) (subst (λ s. IsBack s y (slice_index_or behind i false)) (sym e) tt)
    ],
    λ come. so_far.1 (λ k below. come k (omega arith)),
  )

-- ---- settings that are restored

pub back_of : (s : Slot) (k : ℕ) (x z : Setting) (b : Bool) → b ≡ slot_bit s k x z → IsBack s z b
back_of Caller k x z b e = tt
back_of (Callee u) k x z b e = e

pub restored_by : (s : Slot) (k : ℕ) (x z y : Setting) (b : Bool) → b ≡ slot_bit s k x z → IsBack s y b → b ≡ slot_bit s k x y
restored_by Caller k x z y b e back = e
restored_by (Callee u) k x z y b e back = back

-- what a return map does
pub returned_by : (n : ℕ)
    → ((slots : List Slot) (a : Parts) → FitsMap (relation_operations n) (Slots slots) → Fits (relation_operations n) a → (x y : Setting)
    → IsTrue (leads ((relation_operations n).after (Slots slots) a) x y) ↔ ((z : Setting) × IsTrue (leads a x z) × AgreeBelow n y (λ v. source_of slots v x z)))
    → (h : RelMap) (w : Parts) → FitsMap (relation_operations n) h → Fits (relation_operations n) w → (x y : Setting)
    → IsTrue (leads ((relation_operations n).after h w) x y) → (z : Setting) × IsTrue (leads w x z) × IsRestored n (slot_at h) x z y
returned_by n law Plain w fh fw x y l = (y, l, λ v _. refl)
returned_by n law (Slots slots) w fh fw x y l = (law slots w fh fw x y).0 l
