-- Names and their variables: what a setting shows of the bits of globals and locals.
use Rattle.std.proofs.Common.{◌≡◌, ℕ, ◌+◌, ◌-◌, ◌<◌, ◌≤◌, Bool, true, false, not, cond, ◌&&◌, List, length, map, take, drop, refl, sym, ap, ap₂, ◌∙◌, subst, arith, nat_lt, nat_le, ◌⊎◌, inl, inr, take-append-drop, length-take, length-drop, if◌then◌else◌}
use Rattle.std.specs.Prelude.{Option, None, Some, slice_get, slice_index_or, option_map, IsTrue}
use Rattle.std.proofs.lemmas.Bool.Decides.{nat_tests}
use Rattle.std.proofs.lemmas.Bool.{cond-true, cond-false, and_parts}
use Rattle.std.proofs.lemmas.Option.{same_Some, slice_get-map}
use Rattle.truth_tables.specs.Formulas.{Formula, Constant, Variable, Opposite, Binary, Ternary, is_over, renamed}
use Rattle.truth_tables.specs.Tables.{value2_of, value3_of}
use Rattle.boolean_programs.specs.declared.statement.Choice.{Choice}
use Rattle.boolean_programs.specs.declared.statement.Choice.TheVariants.{Star, Is}
use Rattle.boolean_programs.specs.Programs.{Program}
use Rattle.boolean_programs.specs.Lists.{place_in, Each}
use Rattle.boolean_machine.specs.Machine.{bits, value_at, MayBe, value_for, MayBecome}
use Rattle.boolean_machine.specs.Picks.{listed}
pub use Rattle.boolean_machine.proofs.CallerLemmas.{below_or, length_listed, bit_listed, bit_global, bit_local}
use Rattle.boolean_programs.specs.Structure.{IsValueOver, return_slots}
use Rattle.setting_runs.specs.Relations.{Setting}
use Rattle.lowering_laws.specs.Lowering.{slot_of, first_local, renamed_choice, in_slots}
use Rattle.lowering_laws.proofs.PlaceLemmas.{place_mapped}

lt_true : (a b : ℕ) → a < b → nat_lt a b ≡ true
lt_true a b h = grind (arith, nat_tests)

lt_false : (a b : ℕ) → b ≤ a → nat_lt a b ≡ false
lt_false a b h = grind (arith, nat_tests)

le_true : (a c : ℕ) → a ≤ c → nat_le a c ≡ true
le_true a c h = grind (arith, nat_tests)

lt_from : (a c : ℕ) → nat_lt a c ≡ true → a < c
lt_from a c h = grind (arith, nat_tests)

le_from : (a c : ℕ) → nat_le a c ≡ true → a ≤ c
le_from a c h = grind (arith, nat_tests)

module _ (p : Program) where
  pub slot_global : (k : ℕ) → k < p.globals → slot_of p k ≡ k
  slot_global k h = cond-true (nat_lt k p.globals) k (k + return_slots p) (lt_true k p.globals h)

  pub slot_local : (k : ℕ) → p.globals ≤ k → slot_of p k ≡ k + return_slots p
  slot_local k h = cond-false (nat_lt k p.globals) k (k + return_slots p) (lt_false k p.globals h)

  pub slot_injective : (a b : ℕ) → slot_of p a ≡ slot_of p b → a ≡ b
  slot_injective a b e = by_cases (below_or a p.globals) (below_or b p.globals)
    where
      by_cases : ((a < p.globals) ⊎ (p.globals ≤ a)) → ((b < p.globals) ⊎ (p.globals ≤ b)) → a ≡ b
      by_cases (inl h) (inl g) = sym (slot_global a h) ∙ e ∙ slot_global b g
      by_cases (inl h) (inr g) = let x = slot_global a h in let y = slot_local b g in absurd (omega arith)
      by_cases (inr h) (inl g) = let x = slot_local a h in let y = slot_global b g in absurd (omega arith)
      by_cases (inr h) (inr g) = let x = slot_local a h in let y = slot_local b g in omega arith

  -- the name of a variable, where there are so many names
  abbrev pub name_of : ℕ → ℕ → Option ℕ
  name_of n v = if nat_lt v p.globals then Some v else (if nat_le (first_local p) v && nat_lt (v - return_slots p) n then Some (v - return_slots p) else None)

  pub name_of_slot : (n k : ℕ) → p.globals ≤ n → k < n → name_of n (slot_of p k) ≡ Some k
  name_of_slot n k g h = by_case (below_or k p.globals)
    where
      by_case : ((k < p.globals) ⊎ (p.globals ≤ k)) → name_of n (slot_of p k) ≡ Some k
      by_case (inl b) = ap (name_of n) (slot_global k b) ∙ cond-true (nat_lt k p.globals) (Some k) _ (lt_true k p.globals b)
      by_case (inr b) =
          let v = k + return_slots p in
          let back : v - return_slots p ≡ k = omega arith in
          let is_local : (nat_le (first_local p) v && nat_lt (v - return_slots p) n) ≡ true =
          ap₂ (λ a c. a && c) (le_true (first_local p) v (omega arith)) (lt_true (v - return_slots p) n (omega arith)) in
          ap (name_of n) (slot_local k b)
          ∙ cond-false (nat_lt v p.globals) (Some v) _ (lt_false v p.globals (omega arith))
          ∙ cond-true _ (Some (v - return_slots p)) None is_local
          ∙ ap Some back

  pub slot_of_name : (n v k : ℕ) → p.globals ≤ n → name_of n v ≡ Some k → (slot_of p k ≡ v) × (k < n)
  slot_of_name n v k g e = by_global (nat_lt v p.globals) refl e
    where
      by_local : (t : Bool) → (nat_le (first_local p) v && nat_lt (v - return_slots p) n) ≡ t → cond t (Some (v - return_slots p)) None ≡ Some k → (slot_of p k ≡ v) × (k < n)
      by_local true test e' =
          let parts = and_parts (nat_le (first_local p) v) (nat_lt (v - return_slots p) n) test in
          let least : first_local p ≤ v = le_from (first_local p) v parts.0 in
          let small : v - return_slots p < n = lt_from (v - return_slots p) n parts.1 in
          let same : v - return_slots p ≡ k = same_Some (v - return_slots p) k e' in
          let at = slot_local k (omega arith) in
          (omega arith, omega arith)
      by_local false test e' = cc

      by_global : (t : Bool) → nat_lt v p.globals ≡ t
          → cond t (Some v) (if nat_le (first_local p) v && nat_lt (v - return_slots p) n then Some (v - return_slots p) else None) ≡ Some k → (slot_of p k ≡ v) × (k < n)
      by_global true test e' =
          let same : v ≡ k = same_Some v k e' in
          let small : v < p.globals = lt_from v p.globals test in
          let at = slot_global k (omega arith) in
          (omega arith, omega arith)
      by_global false test e' = by_local (nat_le (first_local p) v && nat_lt (v - return_slots p) n) refl e'

  -- a setting with other bits for the names
  abbrev pub overlaid : ℕ → Setting → (ℕ → Bool) → Setting
  overlaid n z new v = elim (name_of n v) [ None ↦ z v | Some k ↦ new k ]

  pub overlaid_name : (n : ℕ) (z : Setting) (new : ℕ → Bool) (k : ℕ) → p.globals ≤ n → k < n → overlaid n z new (slot_of p k) ≡ new k
  overlaid_name n z new k g h =
      let read : Option ℕ → Bool = λ o. elim o [ None ↦ z (slot_of p k) | Some j ↦ new j ] in
      ap read (name_of_slot n k g h)

  -- the setting has the bits of these globals and locals
  abbrev pub Shows : Setting → List Bool → List Bool → Type 0
  Shows z gs ls = (k : ℕ) → k < length gs + length ls → z (slot_of p k) ≡ bits gs ls k

-- ---- values under other names

pub value_renamed : (x : ℕ → Bool) (f : ℕ → ℕ) (e : Formula ℕ) → value_at x (renamed f e) ≡ value_at (λ k. x (f k)) e
value_renamed x f (Constant b) = refl
value_renamed x f (Variable k) = refl
value_renamed x f (Opposite a) = ap not (value_renamed x f a)
value_renamed x f (Binary t a b) = ap₂ (value2_of t) (value_renamed x f a) (value_renamed x f b)
value_renamed x f (Ternary t a b c) =
    ap₂ (λ u v. value3_of t u v (value_at x (renamed f c))) (value_renamed x f a) (value_renamed x f b)
    ∙ ap (value3_of t (value_at (λ k. x (f k)) a) (value_at (λ k. x (f k)) b)) (value_renamed x f c)

pub value_over : (n : ℕ) (x y : ℕ → Bool) → ((k : ℕ) → k < n → x k ≡ y k) → (e : Formula ℕ) → IsTrue (is_over n e) → value_at x e ≡ value_at y e
value_over n x y same (Constant b) over = refl
value_over n x y same (Variable k) over = same k (lt_from k n over)
value_over n x y same (Opposite a) over = ap not (value_over n x y same a over)
value_over n x y same (Binary t a b) over =
    let outer = and_parts (nat_lt t 16 && is_over n a) (is_over n b) over in
    let inner = and_parts (nat_lt t 16) (is_over n a) outer.0 in
    ap₂ (value2_of t) (value_over n x y same a inner.1) (value_over n x y same b outer.1)
value_over n x y same (Ternary t a b c) over =
    let outer = and_parts (is_over n a && is_over n b) (is_over n c) over in
    let inner = and_parts (is_over n a) (is_over n b) outer.0 in
    ap₂ (λ u v. value3_of t u v (value_at x c)) (value_over n x y same a inner.0) (value_over n x y same b inner.1)
    ∙ ap (value3_of t (value_at y a) (value_at y b)) (value_over n x y same c outer.1)

-- ---- values in a state and in a setting that shows it

module _ (p : Program) (n : ℕ) (z : Setting) (old : ℕ → Bool) (shown : (k : ℕ) → k < n → z (slot_of p k) ≡ old k) where
  pub value_shown : (e : Formula ℕ) → IsTrue (is_over n e) → value_at z (renamed (slot_of p) e) ≡ value_at old e
  value_shown e over = value_renamed z (slot_of p) e ∙ value_over n (λ k. z (slot_of p k)) old shown e over

  pub may_in_slots : (v : Choice) (b : Bool) → IsValueOver n v → MayBe old v b → MayBe z (renamed_choice (slot_of p) v) b
  may_in_slots Star b over may = tt
  may_in_slots (Is e) b over may = may ∙ sym (value_shown e over)

  pub may_in_state : (v : Choice) (b : Bool) → IsValueOver n v → MayBe z (renamed_choice (slot_of p) v) b → MayBe old v b
  may_in_state Star b over may = tt
  may_in_state (Is e) b over may = may ∙ value_shown e over

abbrev pub At : (ℕ → Bool) → (ℕ → Bool) → ℕ → Bool → Option Choice → Type 0
At old kept k b o = elim o [ None ↦ b ≡ kept k | Some v ↦ MayBe old v b ]

abbrev value_from : List Choice → Option ℕ → Option Choice
value_from values o = elim o [ None ↦ None | Some j ↦ slice_get values j ]

-- the value of a target is one of the values
value_in : (values : List Choice) (o : Option ℕ) (v : Choice) → value_from values o ≡ Some v → (j : ℕ) × (o ≡ Some j) × (slice_get values j ≡ Some v)
value_in values None v e = cc
value_in values (Some j) v e = (j, refl, e)

pub value_is_in : (targets : List ℕ) (values : List Choice) (k : ℕ) (v : Choice) → value_for targets values k ≡ Some v
    → (j : ℕ) × (place_in targets k ≡ Some j) × (slice_get values j ≡ Some v)
value_is_in targets values k v e = value_in values (place_in targets k) v e

module _ (p : Program) where
  value_for_option : (values : List Choice) (o : Option ℕ) → value_from (in_slots p values) o ≡ option_map (renamed_choice (slot_of p)) (value_from values o)
  value_for_option values None = refl
  value_for_option values (Some j) = slice_get-map (renamed_choice (slot_of p)) values j

  -- the value for the variable of a name
  pub value_for_slot : (targets : List ℕ) (values : List Choice) (k : ℕ)
      → value_for (map (slot_of p) targets) (in_slots p values) (slot_of p k) ≡ option_map (renamed_choice (slot_of p)) (value_for targets values k)
  value_for_slot targets values k =
      ap (value_from (in_slots p values)) (place_mapped (slot_of p) (slot_injective p) targets k)
      ∙ value_for_option values (place_in targets k)

  module _ (n : ℕ) (z : Setting) (old : ℕ → Bool) (shown : (k : ℕ) → k < n → z (slot_of p k) ≡ old k) where
    at_in_slots : (k : ℕ) (b : Bool) (o : Option Choice) → k < n → ((v : Choice) → o ≡ Some v → IsValueOver n v) → At old old k b o
        → At z z (slot_of p k) b (option_map (renamed_choice (slot_of p)) o)
    at_in_slots k b None h over e = e ∙ sym (shown k h)
    at_in_slots k b (Some v) h over may = may_in_slots p n z old shown v b (over v refl) may

    at_in_state : (k : ℕ) (b : Bool) (o : Option Choice) → k < n → ((v : Choice) → o ≡ Some v → IsValueOver n v) → At z z (slot_of p k) b (option_map (renamed_choice (slot_of p)) o)
        → At old old k b o
    at_in_state k b None h over e = e ∙ shown k h
    at_in_state k b (Some v) h over may = may_in_state p n z old shown v b (over v refl) may

    -- what a name may become, and what its variable may
    pub become_in_slots : (targets : List ℕ) (values : List Choice) → Each (IsValueOver n) values → (k : ℕ) (b : Bool) → k < n
        → MayBecome targets values old old k b → MayBecome (map (slot_of p) targets) (in_slots p values) z z (slot_of p k) b
    become_in_slots targets values over k b h may =
        subst (At z z (slot_of p k) b) (sym (value_for_slot targets values k))
        (at_in_slots k b (value_for targets values k) h (λ v e. let there = value_is_in targets values k v e in over there.0 v there.2) may)

    pub become_in_state : (targets : List ℕ) (values : List Choice) → Each (IsValueOver n) values → (k : ℕ) (b : Bool) → k < n
        → MayBecome (map (slot_of p) targets) (in_slots p values) z z (slot_of p k) b → MayBecome targets values old old k b
    become_in_state targets values over k b h may =
        at_in_state k b (value_for targets values k) h (λ v e. let there = value_is_in targets values k v e in over there.0 v there.2)
        (subst (At z z (slot_of p k) b) (value_for_slot targets values k) may)

  -- a variable that is no target's keeps its bit
  pub keeps : (targets : List ℕ) (values : List Choice) (x y : Setting) (v : ℕ) (b : Bool) → place_in targets v ≡ None → b ≡ y v → MayBecome targets values x y v b
  keeps targets values x y v b none same = subst (At x y v b) (ap (value_from values) (sym none)) same

-- ---- lists of bits

-- globals and locals of which the bits are given
pub record Shown (g l : ℕ) (f : ℕ → Bool) : Type 0 where
  pub globals : List Bool
  pub locals : List Bool
  pub globals_are : length globals ≡ g
  pub locals_are : length locals ≡ l
  pub bits_are : (k : ℕ) → k < g + l → bits globals locals k ≡ f k

pub shown_bits : (g l : ℕ) (f : ℕ → Bool) → Shown g l f
shown_bits g l f =
    let all = listed (g + l) f in
    let whole : length all ≡ g + l = length_listed (g + l) f in
    record {
      globals = take g all;
      locals = drop g all;
      globals_are = let e = length-take g all in omega arith;
      locals_are = let e = length-drop g all in omega arith;
      bits_are = λ k h. ap (λ (xs : List Bool). slice_index_or xs k false) (take-append-drop g all) ∙ bit_listed (g + l) k f h;
    }
