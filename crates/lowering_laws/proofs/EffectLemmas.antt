-- The rows of the table: what a move does to the bits of names, against what the weight and the map of its rule do to the
-- variables. Each once from the move to the setting, and once back.
use Rattle.std.specs.List.{range_with_len}
use Rattle.std.proofs.Common.{◌≡◌, ℕ, zero, suc, ◌+◌, ◌-◌, ◌<◌, ◌≤◌, Bool, false, List, length, map, replicate, refl, sym, ap, ◌∙◌, subst, arith, ◌⊎◌, inl, inr, length-append}
use Rattle.std.specs.Prelude.{Option, None, Some, slice_get, slice_index_or}
use Rattle.std.proofs.lemmas.Option.{same_Some, slice_get_within}
use Rattle.std.proofs.lemmas.List.{length-map}
use Rattle.std.proofs.Math.ListN.{length-replicate}
use Rattle.boolean_programs.specs.declared.statement.Choice.{Choice}
use Rattle.boolean_programs.specs.declared.statement.Choice.TheVariants.{Star}
use Rattle.boolean_programs.specs.Programs.{Procedure, Program, width}
use Rattle.boolean_programs.specs.Lists.{place_in, Each}
use Rattle.boolean_machine.specs.Machine.{bits, MayBe, MayBecome, Gets, IsEntered}
use Rattle.boolean_programs.specs.Structure.{IsValueOver}
use Rattle.boolean_machine.specs.Picks.{listed}
use Rattle.setting_runs.specs.Relations.{Setting}
use Rattle.lowering_laws.specs.Lowering.{first_local, slot_of, renamed_choice, in_slots, Assigns, Means, entry_values}
use Rattle.lowering_laws.proofs.PlaceLemmas.{place_is, place_below, place_in_range, get_mapped, get_map, get_within, get_front, get_joined, get_replicate}
use Rattle.lowering_laws.proofs.NameLemmas.{below_or, slot_global, slot_local, name_of, name_of_slot, slot_of_name, overlaid, overlaid_name, Shows, may_in_slots, may_in_state, At, become_in_slots, become_in_state, keeps, length_listed, bit_listed, shown_bits, bit_global, bit_local}

abbrev from_values : List Choice → Option ℕ → Option Choice
from_values values o = elim o [ None ↦ None | Some j ↦ slice_get values j ]

-- what becomes of a variable, by its place among the targets
module _ (targets : List ℕ) (values : List Choice) (x y : Setting) (v : ℕ) (b : Bool) where
  pub become_kept : place_in targets v ≡ None → MayBecome targets values x y v b → b ≡ y v
  become_kept none may = subst (At x y v b) (ap (from_values values) none) may

  pub become_target : (j : ℕ) (c : Choice) → place_in targets v ≡ Some j → slice_get values j ≡ Some c → MayBe x c b → MayBecome targets values x y v b
  become_target j c place there may = subst (At x y v b) (sym (ap (from_values values) place ∙ there)) may

  pub target_became : (j : ℕ) (c : Choice) → place_in targets v ≡ Some j → slice_get values j ≡ Some c → MayBecome targets values x y v b → MayBe x c b
  target_became j c place there may = subst (At x y v b) (ap (from_values values) place ∙ there) may

-- a number among numbers of a range
pub get_range : (from n j v : ℕ) → slice_get (range_with_len from n) j ≡ Some v → (v ≡ from + j) × (j < n)
get_range from zero j v e = cc
get_range from (suc n) zero v e = let same : from ≡ v = same_Some from v e in (omega arith, omega arith)
get_range from (suc n) (suc j) v e = let later = get_range (from + 1) n j v e in (omega arith, omega arith)

module _ (p : Program) (n : ℕ) (z : Setting) (new : ℕ → Bool) (g : p.globals ≤ n) where
  -- a setting that differs in the bits of names alone
  overlaid_becomes : (targets : List ℕ) (values : List Choice) → ((k : ℕ) → k < n → MayBecome targets values z z (slot_of p k) (new k))
      → ((v : ℕ) → name_of p n v ≡ None → place_in targets v ≡ None) → (v : ℕ) → MayBecome targets values z z v (overlaid p n z new v)
  overlaid_becomes targets values names others v = by_name (name_of p n v) refl
    where
      by_name : (o : Option ℕ) → name_of p n v ≡ o → MayBecome targets values z z v (overlaid p n z new v)
      by_name None e =
          let read : Option ℕ → Bool = λ o. elim o [ None ↦ z v | Some j ↦ new j ] in
          keeps p targets values z z v (overlaid p n z new v) (others v e) (ap read e)
      by_name (Some k) e =
          let read : Option ℕ → Bool = λ o. elim o [ None ↦ z v | Some j ↦ new j ] in
          let name = slot_of_name p n v k g e in
          subst (λ b. MayBecome targets values z z v b) (sym (ap read e)) (subst (λ u. MayBecome targets values z z u (new k)) name.0 (names k name.1))

module _ (p : Program) (z : Setting) (gs ls : List Bool) (wide : length gs ≡ p.globals) (shows : Shows p z gs ls) where
  -- ---- an assignment

  sets_others : (targets : List ℕ) → Each (λ t. t < length gs + length ls) targets → (v : ℕ) → name_of p (length gs + length ls) v ≡ None → place_in (map (slot_of p) targets) v ≡ None
  sets_others targets within v none = by_place (place_in (map (slot_of p) targets) v) refl
    where
      by_place : (o : Option ℕ) → place_in (map (slot_of p) targets) v ≡ o → o ≡ None
      by_place None e = refl
      by_place (Some j) e =
          let there = get_mapped (slot_of p) targets j v (place_is (map (slot_of p) targets) v j e) in
          let named : name_of p (length gs + length ls) (slot_of p there.0) ≡ Some there.0 = name_of_slot p (length gs + length ls) there.0 (omega arith) (within j there.0 there.1) in
          let both : None ≡ Some there.0 = sym none ∙ ap (name_of p (length gs + length ls)) (sym there.2) ∙ named in
          cc

  pub set_in_slots : (targets : List ℕ) (values : List Choice) → Each (λ t. t < length gs + length ls) targets → Each (IsValueOver (length gs + length ls)) values
      → (gs' ls' : List Bool) → Gets targets values (bits gs ls) gs ls gs' ls'
      → (z' : Setting) × ((n : ℕ) → Means n (Assigns (map (slot_of p) targets) (in_slots p values)) z z') × Shows p z' gs' ls'
  set_in_slots targets values within over gs' ls' gets =
      let count = length gs + length ls in
      let z' = overlaid p count z (bits gs' ls') in
      let all = overlaid_becomes p count z (bits gs' ls') (omega arith) (map (slot_of p) targets) (in_slots p values)
      (λ k h. become_in_slots p count z (bits gs ls) shows targets values over k (bits gs' ls' k) h (gets.each k h)) (sets_others targets within) in
      (z', (λ n v _. all v), λ k h. overlaid_name p count z (bits gs' ls') k (omega arith) (let e = gets.globals_stay in let d = gets.locals_stay in omega arith))

  pub set_in_state : (n : ℕ) → ((k : ℕ) → k < length gs + length ls → slot_of p k < n) → (targets : List ℕ) (values : List Choice) → Each (IsValueOver (length gs + length ls)) values
      → (z' : Setting) → Means n (Assigns (map (slot_of p) targets) (in_slots p values)) z z'
      → (gs' : List Bool) × (ls' : List Bool) × Gets targets values (bits gs ls) gs ls gs' ls' × Shows p z' gs' ls'
  set_in_state n within targets values over z' means =
      let new = shown_bits (length gs) (length ls) (λ k. z' (slot_of p k)) in (
        new.globals,
        new.locals,
        record {
          globals_stay = new.globals_are;
          locals_stay = new.locals_are;
          each = λ k h. subst (λ b. MayBecome targets values (bits gs ls) (bits gs ls) k b) (sym (new.bits_are k h))
              (become_in_state p (length gs + length ls) z (bits gs ls) shows targets values over k (z' (slot_of p k)) h (means (slot_of p k) (within k h)));
        },
        λ k h. sym (new.bits_are k (let e = new.globals_are in let d = new.locals_are in omega arith)),
      )

  -- ---- a call

  entry_length : (q : Procedure) (arguments : List Choice) → length arguments ≡ q.params → length (entry_values p q arguments) ≡ width q
  entry_length q arguments count =
      let a = length-append (in_slots p arguments) (replicate q.locals Star) in
      let b = length-map arguments (renamed_choice (slot_of p)) in
      let c = length-replicate q.locals Star in
      omega arith

  entered_may : (q : Procedure) (arguments : List Choice) → Each (IsValueOver (length gs + length ls)) arguments → (ls' : List Bool) → IsEntered q arguments (bits gs ls) ls'
      → (j : ℕ) (v : Choice) → slice_get (entry_values p q arguments) j ≡ Some v → MayBe z v (slice_index_or ls' j false)
  entered_may q arguments over ls' entered j v e = by_part (get_joined (in_slots p arguments) (replicate q.locals Star) j v e)
    where
      by_part : ((slice_get (in_slots p arguments) j ≡ Some v) ⊎ ((i : ℕ) × (slice_get (replicate q.locals Star) i ≡ Some v))) → MayBe z v (slice_index_or ls' j false)
      by_part (inl h) =
          let there = get_mapped (renamed_choice (slot_of p)) arguments j v h in
          subst (λ c. MayBe z c (slice_index_or ls' j false)) there.2
          (may_in_slots p (length gs + length ls) z (bits gs ls) shows there.0 (slice_index_or ls' j false) (over j there.0 there.1) (entered.each j there.0 there.1))
      by_part (inr h) = subst (λ c. MayBe z c (slice_index_or ls' j false)) (get_replicate q.locals h.0 Star v h.1) tt

  pub enter_in_slots : (q : Procedure) (arguments : List Choice) → length arguments ≡ q.params → Each (IsValueOver (length gs + length ls)) arguments
      → (ls' : List Bool) → IsEntered q arguments (bits gs ls) ls'
      → (z' : Setting) × ((n : ℕ) → Means n (Assigns (range_with_len (first_local p) (width q)) (entry_values p q arguments)) z z') × Shows p z' gs ls'
  enter_in_slots q arguments count over ls' entered =
      let n = length gs + length ls' in
      let w = entered.wide in
      let targets = range_with_len (first_local p) (width q) in
      let values = entry_values p q arguments in
      let all = overlaid_becomes p n z (bits gs ls') (omega arith) targets values (λ k h. by_case k h (below_or k (length gs))) others in
      (overlaid p n z (bits gs ls'), (λ m v _. all v), λ k h. overlaid_name p n z (bits gs ls') k (omega arith) h)
    where
      by_case : (k : ℕ) → k < length gs + length ls' → ((k < length gs) ⊎ (length gs ≤ k))
          → MayBecome (range_with_len (first_local p) (width q)) (entry_values p q arguments) z z (slot_of p k) (bits gs ls' k)
      by_case k h (inl b) =
          let at = slot_global p k (omega arith) in
          keeps p (range_with_len (first_local p) (width q)) (entry_values p q arguments) z z (slot_of p k) (bits gs ls' k)
          (place_below (first_local p) (width q) (slot_of p k) (omega arith))
          (bit_global gs ls' k b ∙ sym (bit_global gs ls k b) ∙ sym (shows k (omega arith)))
      by_case k h (inr b) =
          let w = entered.wide in
          let j = k - length gs in
          let at = slot_local p k (omega arith) in
          let same : slot_of p k ≡ first_local p + j = omega arith in
          let long = entry_length q arguments count in
          let value = get_within (entry_values p q arguments) j (omega arith) in
          become_target (range_with_len (first_local p) (width q)) (entry_values p q arguments) z z (slot_of p k) (bits gs ls' k) j value.0
          (ap (place_in (range_with_len (first_local p) (width q))) same ∙ place_in_range (first_local p) (width q) j (omega arith)) value.1
          (subst (MayBe z value.0) (sym (bit_local gs ls' k b)) (entered_may q arguments over ls' entered j value.0 value.1))

      others : (v : ℕ) → name_of p (length gs + length ls') v ≡ None → place_in (range_with_len (first_local p) (width q)) v ≡ None
      others v none = by_place (place_in (range_with_len (first_local p) (width q)) v) refl
        where
          by_place : (o : Option ℕ) → place_in (range_with_len (first_local p) (width q)) v ≡ o → o ≡ None
          by_place None e = refl
          by_place (Some j) e =
              let w = entered.wide in
              let there = get_range (first_local p) (width q) j v (place_is (range_with_len (first_local p) (width q)) v j e) in
              let k = p.globals + j in
              let at = slot_local p k (omega arith) in
              let same : slot_of p k ≡ v = let t = there.0 in omega arith in
              let small : j < width q = there.1 in
              let named : name_of p (length gs + length ls') (slot_of p k) ≡ Some k = name_of_slot p (length gs + length ls') k (omega arith) (omega arith) in
              let both : None ≡ Some k = sym none ∙ ap (name_of p (length gs + length ls')) (sym same) ∙ named in
              cc

  pub enter_in_state : (n : ℕ) → (q : Procedure) → first_local p + width q ≤ n → (arguments : List Choice) → length arguments ≡ q.params → Each (IsValueOver (length gs + length ls)) arguments
      → (z' : Setting) → Means n (Assigns (range_with_len (first_local p) (width q)) (entry_values p q arguments)) z z'
      → (ls' : List Bool) × IsEntered q arguments (bits gs ls) ls' × Shows p z' gs ls'
  enter_in_state n q within arguments count over z' means =
      let ls' = listed (width q) (λ j. z' (first_local p + j)) in
      let long = length_listed (width q) (λ j. z' (first_local p + j)) in
      (ls', record { wide = long; each = λ j v e. given j v e }, λ k h. by_case k (omega arith) (below_or k (length gs)))
    where
      given : (j : ℕ) (v : Choice) → slice_get arguments j ≡ Some v → MayBe (bits gs ls) v (slice_index_or (listed (width q) (λ i. z' (first_local p + i))) j false)
      given j v e =
          let small : j < length arguments = slice_get_within arguments j v e in
          let value : slice_get (entry_values p q arguments) j ≡ Some (renamed_choice (slot_of p) v) =
          get_front (in_slots p arguments) (replicate q.locals Star) j (renamed_choice (slot_of p) v) (get_map (renamed_choice (slot_of p)) arguments j v e) in
          let may = target_became (range_with_len (first_local p) (width q)) (entry_values p q arguments) z z (first_local p + j) (z' (first_local p + j)) j (renamed_choice (slot_of p) v)
          (place_in_range (first_local p) (width q) j (omega arith)) value (means (first_local p + j) (omega arith)) in
          subst (MayBe (bits gs ls) v) (sym (bit_listed (width q) j (λ i. z' (first_local p + i)) (omega arith)))
          (may_in_state p (length gs + length ls) z (bits gs ls) shows v (z' (first_local p + j)) (over j v e) may)

      by_case : (k : ℕ) → k < length gs + width q → ((k < length gs) ⊎ (length gs ≤ k)) → z' (slot_of p k) ≡ bits gs (listed (width q) (λ i. z' (first_local p + i))) k
      by_case k h (inl b) =
          let at = slot_global p k (omega arith) in
          become_kept (range_with_len (first_local p) (width q)) (entry_values p q arguments) z z (slot_of p k) (z' (slot_of p k))
          (place_below (first_local p) (width q) (slot_of p k) (omega arith)) (means (slot_of p k) (omega arith))
          ∙ shows k (omega arith) ∙ bit_global gs ls k b ∙ sym (bit_global gs (listed (width q) (λ i. z' (first_local p + i))) k b)
      by_case k h (inr b) =
          let j = k - length gs in
          let at = slot_local p k (omega arith) in
          let same : slot_of p k ≡ first_local p + j = omega arith in
          ap z' same ∙ sym (bit_listed (width q) j (λ i. z' (first_local p + i)) (omega arith)) ∙ sym (bit_local gs (listed (width q) (λ i. z' (first_local p + i))) k b)
