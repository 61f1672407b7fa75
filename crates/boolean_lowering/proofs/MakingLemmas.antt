-- Weights and maps as they are planned.
use Rattle.std.proofs.Common.{◌≡◌, ◌↔◌, ℕ, zero, suc, ◌+◌, ◌<◌, ◌≤◌, true, List, [], ◌∷◌, map, length, get_or, refl, sym, ap, ◌∙◌, subst, arith, nat_lt, if◌then◌else◌}
use Rattle.std.specs.Prelude.{IsTrue, Option, None, Some, slice_index_or, slice_set, Result, Ok, Err, IfOk}
use Rattle.std.proofs.lemmas.Bool.{lt-ltb, le-ltb, cond-true, cond-false}
use Rattle.truth_tables.specs.Formulas.{Formula, is_over, renamed}
use Rattle.semiring_laws.specs.Semiring.{Fits, FitsMap}
use Rattle.relation_laws.specs.Building.{Parts}
use Rattle.relation_laws.specs.Relations.{leads, relation_of}
use Rattle.relation_laws.proofs.CallerLemmas.{each_from}
use Rattle.relation_weights.specs.Actions.{assumed, assigned, AreTargets}
use Rattle.relation_weights.specs.Relations.{relation_operations, slot_fits}
use Rattle.relation_weights.specs.declared.rel_map.RelMap.{RelMap}
use Rattle.relation_weights.specs.declared.rel_map.RelMap.TheVariants.{Plain, Slots}
use Rattle.relation_weights.specs.declared.rel_map.Slot.{Slot}
use Rattle.relation_weights.specs.declared.rel_map.Slot.TheVariants.{Caller, Callee}
use Rattle.boolean_programs.specs.Programs.{Program}
use Rattle.boolean_programs.specs.Lists.{place_in}
use Rattle.setting_runs.specs.Relations.{Setting}
use Rattle.lowering_laws.specs.Lowering.{Means, Assumes, Assigns, variables, slot_of, map_slot}
use Rattle.lowering_laws.specs.Plans.{IsSlotOver}
use Rattle.lowering_laws.specs.Weights.{slots_of, targets_of, values_of}
use Rattle.boolean_lowering.specs.declared.layout.Layout.{Layout}
use Rattle.boolean_lowering.specs.private.Layouts.{variables_in, slot_in, IsLayout}
use Rattle.boolean_lowering.specs.private.Effects.{HasEffect}
use Rattle.boolean_lowering.proofs.LayoutLemmas.{slots_same, variables_same}

-- what two clauses on a result say together
pub if_ok_both : {T E : Type 0} (r : Result T E) (P Q R : T → Type 0) → ((x : T) → P x → Q x → R x) → IfOk r P → IfOk r Q → IfOk r R
if_ok_both (Ok x) P Q R f a b = f x a b
if_ok_both (Err e) P Q R f a b = tt

-- ---- weights

pub fits_same : (n m : ℕ) (w : Parts) → m ≡ n → Fits (relation_operations n) w → Fits (relation_operations m) w
fits_same n m w e fits = subst (λ k. Fits (relation_operations k) w) (sym e) fits

pub assumed_effect : (n m : ℕ) (f : Formula ℕ) (w : Parts)
    → ((n : ℕ) (f : Formula ℕ) → IsTrue (is_over n f) → (x y : Setting) → IsTrue (leads (relation_of n (assumed n f)) x y) ↔ Means n (Assumes f) x y)
    → m ≡ n → IsTrue (is_over n f) → w ≡ relation_of m (assumed m f) → Fits (relation_operations m) w → HasEffect n w (Assumes f)
assumed_effect n m f w law e over is fits =
    let same : w ≡ relation_of n (assumed n f) = is ∙ ap (λ k. relation_of k (assumed k f)) e in
    record {
      fits = subst (λ k. Fits (relation_operations k) w) e fits;
      means = λ x y. subst (λ v. IsTrue (leads v x y) ↔ Means n (Assumes f) x y) (sym same) (law n f over x y);
    }

pub assigned_effect : (n m : ℕ) (ts : List (ℕ × Option (Formula ℕ))) (w : Parts)
    → ((n : ℕ) (ts : List (ℕ × Option (Formula ℕ))) → AreTargets n ts → (x y : Setting) → IsTrue (leads (relation_of n (assigned n ts)) x y) ↔ Means n (Assigns (targets_of ts) (values_of ts)) x y)
    → m ≡ n → AreTargets n ts → w ≡ relation_of m (assigned m ts) → Fits (relation_operations m) w → HasEffect n w (Assigns (targets_of ts) (values_of ts))
assigned_effect n m ts w law e are is fits =
    let same : w ≡ relation_of n (assigned n ts) = is ∙ ap (λ k. relation_of k (assigned k ts)) e in
    record {
      fits = subst (λ k. Fits (relation_operations k) w) e fits;
      means = λ x y. subst (λ v. IsTrue (leads v x y) ↔ Means n (Assigns (targets_of ts) (values_of ts)) x y) (sym same) (law n ts are x y);
    }

-- an expression over the program's variables, by its layout
pub over_slots : (p : Program) (l : Layout) (f : Formula ℕ) → IsLayout p l → IsTrue (is_over (variables p) (renamed (slot_of p) f)) → IsTrue (is_over (variables_in l) (renamed (slot_in l) f))
over_slots p l f is over =
    subst (λ n. IsTrue (is_over n (renamed (slot_in l) f))) (sym (variables_same p l is))
    (subst (λ (s : ℕ → ℕ). IsTrue (is_over (variables p) (renamed s f))) (sym (slots_same p l is)) over)

pub renamed_same : (p : Program) (l : Layout) (f : Formula ℕ) → IsLayout p l → renamed (slot_in l) f ≡ renamed (slot_of p) f
renamed_same p l f is = ap (λ (s : ℕ → ℕ). renamed s f) (slots_same p l is)

-- ---- maps

module _ (p : Program) (l : Layout) (is : IsLayout p l) (targets : List ℕ) (v : ℕ) where
  abbrev slot_by : Option ℕ → Slot
  slot_by o = elim o [ Some j ↦ Callee (p.globals + j) | None ↦ if nat_lt v p.globals then Callee v else Caller ]

  place_same : place_in (map (slot_of p) targets) v ≡ place_in (map (slot_in l) targets) v
  place_same = ap (λ (s : ℕ → ℕ). place_in (map s targets) v) (sym (slots_same p l is))

  pub slot_found : (k : ℕ) → place_in (map (slot_in l) targets) v ≡ Some k → map_slot p targets v ≡ Callee (l.globals + k)
  slot_found k e = ap slot_by (place_same ∙ e) ∙ ap (λ g. Callee (g + k)) (sym is.globals)

  pub slot_global : place_in (map (slot_in l) targets) v ≡ None → v < l.globals → map_slot p targets v ≡ Callee v
  slot_global e below = ap slot_by (place_same ∙ e) ∙ cond-true (nat_lt v p.globals) (Callee v) Caller (lt-ltb v p.globals (subst (λ g. v < g) is.globals below))

  pub slot_kept : place_in (map (slot_in l) targets) v ≡ None → l.globals ≤ v → map_slot p targets v ≡ Caller
  slot_kept e above = ap slot_by (place_same ∙ e) ∙ cond-false (nat_lt v p.globals) (Callee v) Caller (le-ltb v p.globals (subst (λ g. g ≤ v) is.globals above))

slot_over : (n : ℕ) (s : Slot) → IsSlotOver n s → slot_fits n s ≡ true
slot_over n Caller over = refl
slot_over n (Callee u) over = lt-ltb u n over

-- a map whose slots are over n variables fits
pub map_over : (n : ℕ) (h : RelMap) → ((v : ℕ) → v < n → IsSlotOver n (slots_of h v)) → FitsMap (relation_operations n) h
map_over n Plain over = refl
map_over n (Slots slots) over = each_from n (λ v. slot_fits n (slice_index_or slots v Caller)) (λ v below. slot_over n (slice_index_or slots v Caller) (over v below))

-- one slot more
pub slots_more : (slots : List Slot) (i : ℕ) (s : Slot) (f : ℕ → Slot) → i < length slots → s ≡ f i → ((v : ℕ) → v < i → get_or slots v Caller ≡ f v) → (v : ℕ) → v < i + 1 → get_or (slice_set slots i s) v Caller ≡ f v
slots_more [] i s f below is before v h = absurd (omega arith)
slots_more (x ∷ xs) zero s f below is before zero h = is
slots_more (x ∷ xs) zero s f below is before (suc v) h = absurd (omega arith)
slots_more (x ∷ xs) (suc i) s f below is before zero h = before 0 (omega arith)
slots_more (x ∷ xs) (suc i) s f below is before (suc v) h = slots_more xs i s (λ k. f (suc k)) (omega arith) is (λ k e. before (suc k) (omega arith)) v (omega arith)
