-- The row of a return: values into return slots, and the call's map.
use Rattle.std.specs.List.{range_with_len}
use Rattle.std.proofs.Common.{◌≡◌, ℕ, ◌+◌, ◌-◌, ◌<◌, ◌≤◌, Bool, true, false, List, length, refl, sym, ap, ◌∙◌, subst, arith, nat_lt, ◌⊎◌, inl, inr, if◌then◌else◌}
use Rattle.std.specs.Prelude.{Option, None, Some, slice_get, slice_index_or}
use Rattle.std.proofs.lemmas.Bool.Decides.{nat_tests}
use Rattle.std.proofs.lemmas.Bool.{cond-true, cond-false}
use Rattle.boolean_programs.specs.declared.statement.Choice.{Choice}
use Rattle.boolean_programs.specs.declared.statement.Choice.TheVariants.{Star, Is}
use Rattle.boolean_programs.specs.Programs.{Program}
use Rattle.boolean_programs.specs.Lists.{place_in, Each}
use Rattle.boolean_machine.specs.Machine.{bits, value_at, MayBe, MayBecome, Gets}
use Rattle.boolean_programs.specs.Structure.{IsValueOver}
use Rattle.setting_runs.specs.Relations.{Setting, IsRestored}
use Rattle.relation_weights.specs.declared.rel_map.Slot.{Slot}
use Rattle.relation_weights.specs.declared.rel_map.Slot.TheVariants.{Caller, Callee}
use Rattle.relation_weights.specs.Relations.{slot_bit}
use Rattle.lowering_laws.specs.Lowering.{first_local, slot_of, renamed_choice, in_slots, Assigns, Means, map_slot}
use Rattle.lowering_laws.proofs.PlaceLemmas.{place_is, place_mapped, place_below, place_in_range, get_map, get_within}
use Rattle.lowering_laws.proofs.NameLemmas.{below_or, slot_global, slot_local, slot_injective, Shows, value_shown, may_in_state, keeps, shown_bits, bit_global, bit_local}
use Rattle.lowering_laws.proofs.EffectLemmas.{become_kept, become_target, target_became, get_range}

module _ (p : Program) where
  -- ---- where a call's map takes the variable of a name from

  abbrev slot_at : ℕ → Option ℕ → Slot
  slot_at v o = elim o [ Some j ↦ Callee (p.globals + j) | None ↦ if nat_lt v p.globals then Callee v else Caller ]

  map_at : (targets : List ℕ) (k : ℕ) (o : Option ℕ) → place_in targets k ≡ o → map_slot p targets (slot_of p k) ≡ slot_at (slot_of p k) o
  map_at targets k o e = ap (slot_at (slot_of p k)) (place_mapped (slot_of p) (slot_injective p) targets k ∙ e)

  map_target : (targets : List ℕ) (k j : ℕ) → place_in targets k ≡ Some j → map_slot p targets (slot_of p k) ≡ Callee (p.globals + j)
  map_target targets k j e = map_at targets k (Some j) e

  map_global : (targets : List ℕ) (k : ℕ) → place_in targets k ≡ None → k < p.globals → map_slot p targets (slot_of p k) ≡ Callee k
  map_global targets k e h =
      let at = slot_global p k h in
      map_at targets k None e
      ∙ cond-true (nat_lt (slot_of p k) p.globals) (Callee (slot_of p k)) Caller (ap (λ v. nat_lt v p.globals) at ∙ test k h)
      ∙ ap Callee at
    where
      test : (k : ℕ) → k < p.globals → nat_lt k p.globals ≡ true
      test k h = grind (arith, nat_tests)

  map_local : (targets : List ℕ) (k : ℕ) → place_in targets k ≡ None → p.globals ≤ k → map_slot p targets (slot_of p k) ≡ Caller
  map_local targets k e h =
      let at = slot_local p k h in
      map_at targets k None e
      ∙ cond-false (nat_lt (slot_of p k) p.globals) (Callee (slot_of p k)) Caller (test (slot_of p k) (omega arith))
    where
      test : (v : ℕ) → p.globals ≤ v → nat_lt v p.globals ≡ false
      test v h = grind (arith, nat_tests)

module _ (p : Program) (z : Setting) (gs ls : List Bool) (wide : length gs ≡ p.globals) (shows : Shows p z gs ls) (values : List Choice) (over : Each (IsValueOver (length gs + length ls)) values) where
  abbrev slots_of_values : List ℕ
  slots_of_values = range_with_len p.globals (length values)

  -- the bit that a value gets: its own, and at `*` one that is wanted
  abbrev picked : Choice → Bool → Bool
  picked Star b = b
  picked (Is e) b = value_at (bits gs ls) e

  abbrev picked_at : (ℕ → Bool) → ℕ → Option Choice → Bool
  picked_at wanted j o = elim o [ None ↦ false | Some c ↦ picked c (wanted j) ]

  abbrev given_at : (ℕ → Bool) → ℕ → Option ℕ → Bool
  given_at wanted v o = elim o [ None ↦ z v | Some j ↦ picked_at wanted j (slice_get values j) ]

  -- the setting at a call's end, with wanted bits in its free return slots
  abbrev ended : (ℕ → Bool) → Setting
  ended wanted v = given_at wanted v (place_in slots_of_values v)

  picked_may : (c : Choice) (b : Bool) → IsValueOver (length gs + length ls) c → MayBe z (renamed_choice (slot_of p) c) (picked c b)
  picked_may Star b h = tt
  picked_may (Is e) b h = sym (value_shown p (length gs + length ls) z (bits gs ls) shows e h)

  ended_means : (wanted : ℕ → Bool) (n : ℕ) → Means n (Assigns slots_of_values (in_slots p values)) z (ended wanted)
  ended_means wanted n v h = by_place (place_in slots_of_values v) refl
    where
      by_place : (o : Option ℕ) → place_in slots_of_values v ≡ o → MayBecome slots_of_values (in_slots p values) z z v (ended wanted v)
      by_place None e = keeps p slots_of_values (in_slots p values) z z v (ended wanted v) e (ap (given_at wanted v) e)
      by_place (Some j) e =
          let there = get_range p.globals (length values) j v (place_is slots_of_values v j e) in
          let value = get_within values j there.1 in
          let same : ended wanted v ≡ picked value.0 (wanted j) = ap (given_at wanted v) e ∙ ap (picked_at wanted j) value.1 in
          become_target slots_of_values (in_slots p values) z z v (ended wanted v) j (renamed_choice (slot_of p) value.0) e (get_map (renamed_choice (slot_of p)) values j value.0 value.1)
          (subst (MayBe z (renamed_choice (slot_of p) value.0)) (sym same) (picked_may value.0 (wanted j) (over j value.0 value.1)))

  -- a return with no frame below
  pub leave_in_slots : (z' : Setting) × ((n : ℕ) → Means n (Assigns slots_of_values (in_slots p values)) z z')
  leave_in_slots = (ended (λ j. false), λ n. ended_means (λ j. false) n)

  module _ (saved : Setting) (cs : List Bool) (kept : (j : ℕ) → j < length cs → saved (first_local p + j) ≡ slice_index_or cs j false)
      (targets : List ℕ) (enough : (j k : ℕ) → slice_get targets j ≡ Some k → j < length values) where
    -- what stays of the caller's names
    stays_global : (e : Setting) (k : ℕ) → k < p.globals → e k ≡ z k → e k ≡ bits gs cs k
    stays_global e k h same =
        let at = slot_global p k h in
        same ∙ ap z (sym at) ∙ shows k (omega arith) ∙ bit_global gs ls k (omega arith) ∙ sym (bit_global gs cs k (omega arith))

    stays_local : (k : ℕ) → p.globals ≤ k → k < length gs + length cs → saved (slot_of p k) ≡ bits gs cs k
    stays_local k low h =
        let at = slot_local p k low in
        let j = k - length gs in
        let same : slot_of p k ≡ first_local p + j = omega arith in
        ap saved same ∙ kept j (omega arith) ∙ sym (bit_local gs cs k (omega arith))

    abbrev wanted_of : (ℕ → Bool) → Option ℕ → Bool
    wanted_of new o = elim o [ None ↦ false | Some k ↦ new k ]

    module _ (gs' cs' : List Bool) (gets : Gets targets values (bits gs ls) gs cs gs' cs') where
      abbrev want : ℕ → Bool
      want j = wanted_of (bits gs' cs') (slice_get targets j)

      abbrev back : Setting
      back v = slot_bit (map_slot p targets v) v saved (ended want)

      of_value : (k : ℕ) (c : Choice) (b : Bool) → MayBe (bits gs ls) c (bits gs' cs' k) → b ≡ bits gs' cs' k → picked c b ≡ bits gs' cs' k
      of_value k Star b may same = same
      of_value k (Is e) b may same = sym may

      back_kept : (k : ℕ) → k < length gs + length cs → place_in targets k ≡ None → bits gs' cs' k ≡ bits gs cs k → ((k < p.globals) ⊎ (p.globals ≤ k)) → back (slot_of p k) ≡ bits gs' cs' k
      back_kept k h e same (inl b) =
          ap (λ s. slot_bit s (slot_of p k) saved (ended want)) (map_global p targets k e b)
          ∙ stays_global (ended want) k b (ap (given_at want k) (place_below p.globals (length values) k b)) ∙ sym same
      back_kept k h e same (inr b) =
          ap (λ s. slot_bit s (slot_of p k) saved (ended want)) (map_local p targets k e b) ∙ stays_local k b h ∙ sym same

      back_shows : (k : ℕ) → k < length gs + length cs → (o : Option ℕ) → place_in targets k ≡ o → back (slot_of p k) ≡ bits gs' cs' k
      back_shows k h None e = back_kept k h e (become_kept targets values (bits gs ls) (bits gs cs) k (bits gs' cs' k) e (gets.each k h)) (below_or k p.globals)
      back_shows k h (Some j) e =
          let target : slice_get targets j ≡ Some k = place_is targets k j e in
          let value = get_within values j (enough j k target) in
          let may = target_became targets values (bits gs ls) (bits gs cs) k (bits gs' cs' k) j value.0 e value.1 (gets.each k h) in
          ap (λ s. slot_bit s (slot_of p k) saved (ended want)) (map_target p targets k j e)
          ∙ ap (given_at want (p.globals + j)) (place_in_range p.globals (length values) j (enough j k target))
          ∙ ap (picked_at want j) value.1
          ∙ of_value k value.0 (want j) may (ap (wanted_of (bits gs' cs')) target)

      -- a return to a frame below
      pub return_in_slots : (e : Setting) × (y : Setting) × ((n : ℕ) → Means n (Assigns slots_of_values (in_slots p values)) z e)
          × ((n : ℕ) (slots : ℕ → Slot) → ((v : ℕ) → v < n → slots v ≡ map_slot p targets v) → IsRestored n slots saved e y) × Shows p y gs' cs'
      return_in_slots = (
        ended want,
        back,
        (λ n. ended_means want n),
        (λ n slots same v h. ap (λ s. slot_bit s v saved (ended want)) (sym (same v h))),
        λ k h. let a = gets.globals_stay in let b = gets.locals_stay in back_shows k (omega arith) (place_in targets k) refl,
      )

    pub return_in_state : (n : ℕ) → ((k : ℕ) → k < length gs + length cs → slot_of p k < n) → p.globals + length values ≤ n → (slots : ℕ → Slot) → ((v : ℕ) → v < n → slots v ≡ map_slot p targets v)
        → (e y : Setting) → Means n (Assigns slots_of_values (in_slots p values)) z e → IsRestored n slots saved e y
        → (gs' : List Bool) × (cs' : List Bool) × Gets targets values (bits gs ls) gs cs gs' cs' × Shows p y gs' cs'
    return_in_state n within room slots same e y means restored =
        let new = shown_bits (length gs) (length cs) (λ k. y (slot_of p k)) in (
          new.globals,
          new.locals,
          record {
            globals_stay = new.globals_are;
            locals_stay = new.locals_are;
            each = λ k h. subst (λ b. MayBecome targets values (bits gs ls) (bits gs cs) k b) (sym (new.bits_are k h)) (by_place k h (place_in targets k) refl);
          },
          λ k h. sym (new.bits_are k (let a = new.globals_are in let b = new.locals_are in omega arith)),
        )
      where
        y_is : (k : ℕ) → k < length gs + length cs → (s : Slot) → map_slot p targets (slot_of p k) ≡ s → y (slot_of p k) ≡ slot_bit s (slot_of p k) saved e
        y_is k h s at = restored (slot_of p k) (within k h) ∙ ap (λ t. slot_bit t (slot_of p k) saved e) (same (slot_of p k) (within k h) ∙ at)

        by_kept : (k : ℕ) → k < length gs + length cs → place_in targets k ≡ None → ((k < p.globals) ⊎ (p.globals ≤ k)) → y (slot_of p k) ≡ bits gs cs k
        by_kept k h none (inl b) =
            y_is k h (Callee k) (map_global p targets k none b)
            ∙ stays_global e k b (become_kept slots_of_values (in_slots p values) z z k (e k) (place_below p.globals (length values) k b) (means k (omega arith)))
        by_kept k h none (inr b) = y_is k h Caller (map_local p targets k none b) ∙ stays_local k b h

        by_place : (k : ℕ) → k < length gs + length cs → (o : Option ℕ) → place_in targets k ≡ o → MayBecome targets values (bits gs ls) (bits gs cs) k (y (slot_of p k))
        by_place k h None none = keeps p targets values (bits gs ls) (bits gs cs) k (y (slot_of p k)) none (by_kept k h none (below_or k p.globals))
        by_place k h (Some j) place =
            let small = enough j k (place_is targets k j place) in
            let value = get_within values j small in
            let may = target_became slots_of_values (in_slots p values) z z (p.globals + j) (e (p.globals + j)) j (renamed_choice (slot_of p) value.0)
            (place_in_range p.globals (length values) j small) (get_map (renamed_choice (slot_of p)) values j value.0 value.1) (means (p.globals + j) (omega arith)) in
            let at = y_is k h (Callee (p.globals + j)) (map_target p targets k j place) in
            become_target targets values (bits gs ls) (bits gs cs) k (y (slot_of p k)) j value.0 place value.1
            (subst (MayBe (bits gs ls) value.0) (sym at) (may_in_state p (length gs + length ls) z (bits gs ls) shows value.0 (e (p.globals + j)) (over j value.0 value.1) may))
