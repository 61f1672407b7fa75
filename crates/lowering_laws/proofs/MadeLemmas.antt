-- Each lawful program within the limits has a lowering.
use Rattle.std.proofs.Common.{◌≡◌, ◌↔◌, ℕ, zero, suc, ◌<◌, ◌≤◌, Bool, true, ◌&&◌, List, length, map, refl, sym, ap, ap₂, ◌∙◌, subst, arith, nat_lt}
use Rattle.std.specs.Prelude.{IsTrue, Option, None, Some, slice_get, slice_index_or, option_map, IfSome, IsSome, All}
use Rattle.std.proofs.lemmas.Bool.Decides.{nat_tests}
use Rattle.std.proofs.lemmas.Bool.{and_parts, and_from}
use Rattle.std.proofs.lemmas.List.{length-map}
use Rattle.std.proofs.lemmas.Option.{same_Some, get_or_from_slice_get}
use Rattle.semiring_laws.specs.Semiring.{FitsMap}
use Rattle.pushdown_rules.specs.Pushdown.{IsRule, IsSystem}
use Rattle.relation_laws.specs.States.{AgreeBelow, same_bit}
use Rattle.relation_laws.specs.Relations.{ReadsPairs, leads, relation_of, identity}
use Rattle.relation_laws.proofs.CallerLemmas.{same_bit_is, same_bit_itself, each_same, each_gives, each_from, identity_reads, leads_of, relation_fits}
use Rattle.relation_weights.specs.declared.rel_map.Slot.TheVariants.{Caller, Callee}
use Rattle.relation_weights.specs.declared.rel_map.RelMap.TheVariants.{Slots}
use Rattle.relation_weights.specs.Relations.{relation_operations, slot_fits}
use Rattle.relation_weights.specs.RelationLaws.{fits_by}
use Rattle.boolean_programs.specs.declared.statement.Choice.{Choice}
use Rattle.boolean_programs.specs.declared.statement.Choice.TheVariants.{Star, Is}
use Rattle.boolean_programs.specs.Programs.{Program}
use Rattle.boolean_machine.specs.Machine.{value_at, value_for}
use Rattle.boolean_programs.specs.Lists.{Each}
use Rattle.boolean_programs.specs.Structure.{IsValueOver}
use Rattle.boolean_machine.specs.Lawful.{IsLawful}
use Rattle.boolean_machine.proofs.CallerLemmas.{get_within, get_mapped}
use Rattle.setting_runs.specs.Relations.{Setting}
use Rattle.relation_weights.specs.declared.rel_map.Slot.{Slot}
use Rattle.lowering_laws.specs.Lowering.{Effect, Assumes, Assigns, Means, Planned, plan, variables, symbols, IsMap, IsLowered, IsLowering}
use Rattle.lowering_laws.specs.Plans.{IsEffectOver, IsSlotOver, IsWithin}
use Rattle.lowering_laws.proofs.NameLemmas.{At, value_over}
use Rattle.lowering_laws.proofs.WithinLemmas.{plan_within}
use Rattle.lowering_laws.specs.Weights.{slots_of}
use Rattle.lowering_laws.specs.Made.{may_be, effect_pairs, listed_slots, made, lowering_of}
use Rattle.lowering_laws.proofs.WeightLemmas.{identity_agrees, agrees_identity}

may_gives : (o : Option Choice) (x : Setting) (v : ℕ) (b : Bool) → IsTrue (may_be o x v b) → At x x v b o
may_gives None x v b h = sym (same_bit_is (x v) b h)
may_gives (Some Star) x v b h = tt
may_gives (Some (Is e)) x v b h = same_bit_is b (value_at x e) h

may_from : (o : Option Choice) (x : Setting) (v : ℕ) (b : Bool) → At x x v b o → IsTrue (may_be o x v b)
may_from None x v b h = ap (same_bit (x v)) h ∙ same_bit_itself (x v)
may_from (Some Star) x v b h = refl
may_from (Some (Is e)) x v b h = ap (same_bit b) (sym h) ∙ same_bit_itself b

pairs_mean : (n : ℕ) (effect : Effect) (x y : Setting) → IsTrue (effect_pairs n effect x y) ↔ Means n effect x y
pairs_mean n (Assumes e) x y = (
  λ h. let parts = and_parts (value_at x e) (identity n x y) h in (parts.0, identity_agrees n x y parts.1),
  λ h. and_from (value_at x e) (identity n x y) h.0 (agrees_identity n x y h.1),
)
pairs_mean n (Assigns targets values) x y = (
  λ h v below. may_gives (value_for targets values v) x v (y v) (each_gives n (λ k. may_be (value_for targets values k) x k (y k)) h v below),
  λ h. each_from n (λ k. may_be (value_for targets values k) x k (y k)) (λ v below. may_from (value_for targets values v) x v (y v) (h v below)),
)

may_reads : (n : ℕ) (o : Option Choice) → ((c : Choice) → o ≡ Some c → IsValueOver n c) → (x x' : Setting) → AgreeBelow n x x' → (v : ℕ) → v < n → (b : Bool) → may_be o x v b ≡ may_be o x' v b
may_reads n None over x x' agree v below b = ap (λ c. same_bit c b) (agree v below)
may_reads n (Some Star) over x x' agree v below b = refl
may_reads n (Some (Is e)) over x x' agree v below b = ap (same_bit b) (value_over n x x' agree e (over (Is e) refl))

abbrev from_values : List Choice → Option ℕ → Option Choice
from_values values o = elim o [ None ↦ None | Some j ↦ slice_get values j ]

value_is_over : (n : ℕ) (values : List Choice) → Each (IsValueOver n) values → (o : Option ℕ) (c : Choice) → from_values values o ≡ Some c → IsValueOver n c
value_is_over n values over None c e = cc
value_is_over n values over (Some j) c e = over j c e

pairs_read : (n : ℕ) (effect : Effect) → IsEffectOver n effect → ReadsPairs n (effect_pairs n effect)
pairs_read n (Assumes e) over x y x' y' a b = ap₂ (λ s t. s && t) (value_over n x x' a e over) (identity_reads n x y x' y' a b)
pairs_read n (Assigns targets values) over x y x' y' a b =
    each_same n (λ v. may_be (value_for targets values v) x v (y v)) (λ v. may_be (value_for targets values v) x' v (y' v))
    (λ v below. may_reads n (value_for targets values v) (λ c e. value_is_over n values over.2 _ c e) x x' a v below (y v) ∙ ap (may_be (value_for targets values v) x' v) (b v below))

slot_listed : (n : ℕ) (h : ℕ → Slot) (v : ℕ) → v < n → slice_index_or (listed_slots n h) v Caller ≡ h v
slot_listed zero h v below = absurd (omega arith)
slot_listed (suc n) h zero below = refl
slot_listed (suc n) h (suc v) below = slot_listed n (λ u. h (suc u)) v (omega arith)

slot_over : (n : ℕ) (s : Slot) → IsSlotOver n s → IsTrue (slot_fits n s)
slot_over n Caller over = refl
slot_over n (Callee u) over = lt_true u n over
  where
    lt_true : (a b : ℕ) → a < b → nat_lt a b ≡ true
    lt_true a b h = grind (arith, nat_tests)

module _ (n : ℕ) where
  map_is : (o : Option (ℕ → Slot)) → IsMap n slots_of (option_map (λ h. Slots (listed_slots n h)) o) o
  map_is None = tt
  map_is (Some h) = λ v below. slot_listed n h v below

  map_fits : (o : Option (ℕ → Slot)) → IfSome o (λ h. (v : ℕ) → v < n → IsSlotOver n (h v)) → IfSome (option_map (λ h. Slots (listed_slots n h)) o) (FitsMap (relation_operations n))
  map_fits None over = tt
  map_fits (Some h) over =
      each_from n (λ v. slot_fits n (slice_index_or (listed_slots n h) v Caller)) (λ v below. ap (slot_fits n) (slot_listed n h v below) ∙ slot_over n (h v) (over v below))

  some_map : (o : Option (ℕ → Slot)) (P : Type 0) → (IsSome o ↔ P) → IsSome (option_map (λ h. Slots (listed_slots n h)) o) ↔ P
  some_map None P is = (λ h. is.0 h, λ h. is.1 h)
  some_map (Some h) P is = (λ _. is.0 refl, λ _. refl)

  made_lowered : (t : Planned) → IsEffectOver n t.effect → IsLowered n leads slots_of (made n t) t
  made_lowered t over = record {
    control = refl;
    to = refl;
    symbol = refl;
    right = refl;
    weight = λ x y.
        let same = leads_of n (effect_pairs n t.effect) (pairs_read n t.effect over) x y in
        (λ h. (pairs_mean n t.effect x y).0 (sym same ∙ h), λ h. same ∙ (pairs_mean n t.effect x y).1 h);
    map = map_is t.map;
  }

all_of : {X : Type 0} (P : X → Type 0) (xs : List X) → Each P xs → All P xs
all_of P xs each k d h =
    let x = get_within xs k h in
    subst P (sym (get_or_from_slice_get xs k x.0 d x.1)) (each k x.0 x.1)

module _ (p : Program) (lawful : IsLawful p) where
  made_rule : (t : Planned) → IsWithin p t → IsRule (relation_operations (variables p)) 1 (symbols p) (made (variables p) t)
  made_rule t within = record {
    control = omega arith;
    symbol = within.head;
    to = omega arith;
    right = all_of (λ g. g < symbols p) t.right within.right;
    fits = record {
      weight = fits_by (variables p) (relation_of (variables p) (effect_pairs (variables p) t.effect)) (relation_fits (variables p) (effect_pairs (variables p) t.effect));
      map = map_fits (variables p) t.map within.slots;
      short = within.short;
      pushes = some_map (variables p) t.map (length t.right ≡ 2) within.pushes;
    };
  }

  -- the lowering is a system
  pub lowering_valid : symbols p ≤ 40000 → length (plan p) ≤ 130000 → IsSystem relation_operations (lowering_of p)
  lowering_valid few_symbols few = record {
    few_controls = omega arith;
    few_symbols = few_symbols;
    few = let long = length-map (plan p) (made (variables p)) in omega arith;
    rules = all_of (IsRule (relation_operations (variables p)) 1 (symbols p)) (map (made (variables p)) (plan p)) (λ k r e.
        let at = get_mapped (made (variables p)) (plan p) k r e in
        subst (IsRule (relation_operations (variables p)) 1 (symbols p)) at.2 (made_rule at.0 (plan_within p lawful k at.0 at.1)));
  }

  -- and the lowering of the program
  pub lowering_is : IsLowering leads slots_of p (lowering_of p)
  lowering_is = record {
    controls = refl;
    symbols_are = refl;
    count = length-map (plan p) (made (variables p));
    rules = λ k r t e d.
        let at = get_mapped (made (variables p)) (plan p) k r e in
        let same : at.0 ≡ t = same_Some at.0 t (sym at.1 ∙ d) in
        subst (λ x. IsLowered (variables p) leads slots_of x t) at.2
        (subst (λ u. IsLowered (variables p) leads slots_of (made (variables p) at.0) u) same (made_lowered (variables p) at.0 (plan_within p lawful k at.0 at.1).effect));
  }
