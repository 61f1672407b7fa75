-- Products of the values that a machine has saved, the newest first.
use Rattle.std.proofs.Common.{◌≡◌, ℕ, zero, suc, ◌+◌, Bool, List, [], ◌∷◌, ◌++◌, length, take, drop, refl, sym, ap, ◌∙◌, subst, inl, inr, arith}
use Rattle.std.specs.Prelude.{Some, slice_get}
use Rattle.std.specs.List.{AllByRecursion}
use Rattle.std.proofs.lemmas.Option.{same_Some}
use Rattle.std.proofs.lemmas.List.{length_push}
use Rattle.semiring_laws.specs.Semiring.{Operations, IsSemiring, Fits}
use Rattle.pushdown_rules.specs.RunValue.{Frame, FitsFrame, product}
use Rattle.relation_laws.specs.Building.{Parts}
use Rattle.relation_weights.specs.declared.rel_map.RelMap.{RelMap}
use Rattle.relation_weights.specs.Relations.{relation_operations}
use Rattle.run_settings.specs.private.Links.{Joins, AreJoined}
use Rattle.run_settings.specs.private.Moments.{newest_of}
use Rattle.run_settings.specs.private.Walks.{ArePartial}
use Rattle.run_settings.proofs.ListLemmas.{push_last, push_old, push_cases}

pub frame_fits : {X : Type 0} (P : X → Type 0) (xs : List X) → AllByRecursion P xs → (k : ℕ) (x : X) → slice_get xs k ≡ Some x → P x
frame_fits P [] all k x at = cc
frame_fits P (y ∷ xs) all zero x at = subst P (same_Some y x at) all.0
frame_fits P (y ∷ xs) all (suc k) x at = frame_fits P xs all.1 k x at

pub drop_at : {X : Type 0} (xs : List X) (k : ℕ) (x : X) → slice_get xs k ≡ Some x → drop k xs ≡ x ∷ drop (suc k) xs
drop_at [] k x at = cc
drop_at (y ∷ xs) zero x at = ap (λ z. z ∷ xs) (same_Some y x at)
drop_at (y ∷ xs) (suc k) x at = drop_at xs k x at

module _ {W Map : Type 0} (s : Operations W Map) where
  partial_more : (fs : List (Frame W Map)) (w : W) (k : ℕ) (f : Frame W Map) → slice_get fs k ≡ Some f → product s (take (suc k) fs) w ≡ s.extend f.saved (product s (take k fs) w)
  partial_more [] w k f at = cc
  partial_more (g ∷ fs) w zero f at = ap (λ (h : Frame W Map). s.extend h.saved w) (same_Some g f at)
  partial_more (g ∷ fs) w (suc k) f at = partial_more fs (s.extend g.saved w) k f at

  pub partial_next : (fs : List (Frame W Map)) (w : W) (k : ℕ) (f : Frame W Map) → slice_get fs k ≡ Some f → product s (take (k + 1) fs) w ≡ s.extend f.saved (product s (take k fs) w)
  partial_next fs w k f at = let next : k + 1 ≡ suc k = omega arith in ap (λ i. product s (take i fs) w) next ∙ partial_more fs w k f at

  pub partial_all : (fs : List (Frame W Map)) (w : W) → product s (take (length fs) fs) w ≡ product s fs w
  partial_all [] w = refl
  partial_all (f ∷ fs) w = partial_all fs (s.extend f.saved w)

  pub partial_none : (fs : List (Frame W Map)) (w : W) → product s (take 0 fs) w ≡ w
  partial_none [] w = refl
  partial_none (f ∷ fs) w = refl

  pub partial_fits : IsSemiring s → (fs : List (Frame W Map)) (w : W) → AllByRecursion (FitsFrame s) fs → Fits s w → (k : ℕ) → Fits s (product s (take k fs) w)
  partial_fits laws [] w all fit zero = fit
  partial_fits laws [] w all fit (suc k) = fit
  partial_fits laws (f ∷ fs) w all fit zero = fit
  partial_fits laws (f ∷ fs) w all fit (suc k) = partial_fits laws fs (s.extend f.saved w) all.1 (laws.fits-extend f.saved w all.0.saved fit) k

  module _ (fs : List (Frame W Map)) (w : W) where
    pub partial_push : (k : ℕ) (values : List W) (v : W) → ArePartial s fs w k values → v ≡ product s (take k fs) w → ArePartial s fs w (k + 1) (values ++ v ∷ [])
    partial_push k values v are is = record {
      count = length_push values v ∙ ap (λ i. i + 1) are.count;
      each = λ j x at. elim (push_cases values v j x at) [
        | inl old ↦ are.each j x old
        | inr new ↦
            let here : k ≡ j = sym are.count ∙ sym new.1 in
            sym new.0 ∙ is ∙ ap (λ i. product s (take i fs) w) here
      ];
    }

    pub partial_first : (values : List W) (v : W) → values ≡ v ∷ [] → v ≡ w → ArePartial s fs w 1 values
    partial_first values v e is = subst (ArePartial s fs w 1) (sym e) (record {
      count = refl;
      each = λ j x at. first j x at;
    })
      where
        first : (j : ℕ) (x : W) → slice_get (v ∷ []) j ≡ Some x → x ≡ product s (take j fs) w
        first zero x at = sym (same_Some v x at) ∙ is ∙ sym (partial_none fs w)
        first (suc j) x at = cc

    pub partial_front : (k : ℕ) (values front : List W) (v : W) → values ≡ front ++ v ∷ [] → ArePartial s fs w k values → ArePartial s fs w (length front) front
    partial_front k values front v e are = record {
      count = refl;
      each = λ j x at. are.each j x (ap (λ l. slice_get l j) e ∙ push_old front v j x at);
    }

    pub partial_last : (k : ℕ) (values front : List W) (v : W) → values ≡ front ++ v ∷ [] → ArePartial s fs w k values → v ≡ product s (take (length front) fs) w
    partial_last k values front v e are = are.each (length front) v (ap (λ l. slice_get l (length front)) e ∙ push_last front v)

    -- all of them
    module _ (values front : List W) (v : W) (e : values ≡ front ++ v ∷ []) (are : ArePartial s fs w (length fs + 1) values) where
      pub front_length : length front ≡ length fs
      front_length = let long : length values ≡ length front + 1 = ap (λ l. length l) e ∙ length_push front v in let count = are.count in omega arith

      pub whole_is : v ≡ product s fs w
      whole_is = partial_last (length fs + 1) values front v e are ∙ ap (λ k. product s (take k fs) w) front_length ∙ partial_all fs w

-- ---- a call that is linked

module _ (n : ℕ) (fs : List (Frame Parts RelMap)) (w : Parts) (j k : ℕ) (next : k ≡ j + 1) (f : Frame Parts RelMap) (there : slice_get fs j ≡ Some f) (value : Parts)
    (is : value ≡ product (relation_operations n) (take j fs) w) (x : List Bool) (ys : List (List Bool)) (z : List Bool) where
  pub joins_call : Joins (product (relation_operations n) (take k fs) w) (newest_of x ys) z → Joins ((relation_operations n).extend f.saved value) (newest_of x ys) z
  joins_call h =
      let product_is : product (relation_operations n) (take k fs) w ≡ (relation_operations n).extend f.saved value =
      ap (λ i. product (relation_operations n) (take i fs) w) next ∙ partial_next (relation_operations n) fs w j f there ∙ ap ((relation_operations n).extend f.saved) (sym is) in
      subst (λ (v : Parts). Joins v (newest_of x ys) z) product_is h

  pub joined_call : (y : List Bool) → AreJoined (drop k fs) x ys → Joins f.saved (newest_of x ys) y → AreJoined (drop j fs) x (y ∷ ys)
  joined_call y joined h =
      let rest : drop j fs ≡ f ∷ drop k fs = drop_at fs j f there ∙ ap (λ i. f ∷ drop i fs) (let e : suc j ≡ k = omega arith in e) in
      subst (λ (gs : List (Frame Parts RelMap)). AreJoined gs x (y ∷ ys)) (sym rest) (h, joined)
