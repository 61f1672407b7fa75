-- Each move has a pick, and each pick makes a move.
use Rattle.std.proofs.Common.{◌≡◌, ℕ, zero, suc, ◌+◌, ◌-◌, ◌<◌, ◌≤◌, Bool, true, false, not, cond, List, [], ◌∷◌, ◌++◌, length, refl, sym, ap, ap₂, ◌∙◌, subst, arith, ◌⊎◌, inl, inr, nat_lt, nat_eq, if◌then◌else◌}
use Rattle.std.specs.Prelude.{Option, None, Some, slice_get, slice_index_or, option_map, IsTrue}
use Rattle.std.proofs.lemmas.Bool.Decides.{nat_tests}
use Rattle.std.proofs.lemmas.Bool.{cond-true, cond-false, eqb-true}
use Rattle.std.proofs.lemmas.Option.{same_Some, slice_get_within}
use Rattle.std.proofs.lemmas.List.{get_or_append_left, get_or-append_right, ext_get_or}
use Rattle.std.proofs.Math.ListN.{length-append}
use Rattle.truth_tables.specs.Formulas.{Formula, Constant, Opposite}
use Rattle.boolean_programs.specs.declared.statement.Choice.{Choice}
use Rattle.boolean_programs.specs.declared.statement.Choice.TheVariants.{Star, Is}
use Rattle.boolean_programs.specs.declared.statement.Statement.{Statement}
use Rattle.boolean_programs.specs.Programs.{Procedure, width}
use Rattle.boolean_programs.specs.declared.statement.Statement.TheVariants.{Skip, Assign, Goto, Assume, Assert, Call, Return, If, Else, While, EndIf, EndWhile, EndProc}
use Rattle.boolean_programs.specs.declared.point.Point.{Point}
use Rattle.boolean_programs.specs.Lines.{Instruction}
use Rattle.boolean_programs.specs.Lists.{place_in, Each, StandOnce}
use Rattle.boolean_machine.specs.Machine.{at_line, Frame, bits, value_at, MayBe, MayBecome, Gets, IsEntered, Action, Jumps, Sets, Calls, Returns, always, on_choice, action_of, on_top}
use Rattle.boolean_machine.specs.Picks.{listed, stars, picked, written, on_written, is_picked, first_true}
use Rattle.boolean_machine.proofs.ListLemmas.{get_within, get_mapped}
use Rattle.boolean_machine.proofs.BitLemmas.{below_or, length_listed, bit_listed, listed_is, bit_global, bit_local, bits_listed}

-- ---- picked values

pub length_picked : (old free : ℕ → Bool) (k : ℕ) (vs : List Choice) → length (picked old free k vs) ≡ length vs
length_picked old free k [] = refl
length_picked old free k (Star ∷ vs) = ap suc (length_picked old free (suc k) vs)
length_picked old free k (Is e ∷ vs) = ap suc (length_picked old free k vs)

pub picked_may : (old free : ℕ → Bool) (k : ℕ) (vs : List Choice) (j : ℕ) (v : Choice) → slice_get vs j ≡ Some v → MayBe old v (slice_index_or (picked old free k vs) j false)
picked_may old free k [] j v e = cc
picked_may old free k (Star ∷ vs) zero v e = subst (λ c. MayBe old c (free k)) (same_Some Star v e) tt
picked_may old free k (Is f ∷ vs) zero v e = subst (λ c. MayBe old c (value_at old f)) (same_Some (Is f) v e) refl
picked_may old free k (Star ∷ vs) (suc j) v e = picked_may old free (suc k) vs j v e
picked_may old free k (Is f ∷ vs) (suc j) v e = picked_may old free k vs j v e

-- the place of the free value of a number
abbrev pub star_at : List Choice → ℕ → ℕ
star_at [] m = 0
star_at (Star ∷ vs) zero = 0
star_at (Star ∷ vs) (suc m) = suc (star_at vs m)
star_at (Is e ∷ vs) m = suc (star_at vs m)

-- each bit that values may have is picked
pub picked_wanted : (old : ℕ → Bool) (vs : List Choice) (k : ℕ) (wanted free : ℕ → Bool) → ((m : ℕ) → m < stars vs → free (k + m) ≡ wanted (star_at vs m))
    → ((j : ℕ) (v : Choice) → slice_get vs j ≡ Some v → MayBe old v (wanted j)) → (j : ℕ) → j < length vs → slice_index_or (picked old free k vs) j false ≡ wanted j
picked_wanted old [] k wanted free picks may j h = absurd (omega arith)
picked_wanted old (Star ∷ vs) k wanted free picks may zero h = ap free (let e : k ≡ k + 0 = omega arith in e) ∙ picks 0 (omega arith)
picked_wanted old (Is e ∷ vs) k wanted free picks may zero h = sym (may 0 (Is e) refl)
picked_wanted old (Star ∷ vs) k wanted free picks may (suc j) h =
    picked_wanted old vs (suc k) (λ m. wanted (suc m)) free (λ m small. ap free (let e : suc k + m ≡ k + suc m = omega arith in e) ∙ picks (suc m) (omega arith)) (λ m v d. may (suc m) v d) j (omega arith)
picked_wanted old (Is e ∷ vs) k wanted free picks may (suc j) h =
    picked_wanted old vs k (λ m. wanted (suc m)) free (λ m small. picks m small) (λ m v d. may (suc m) v d) j (omega arith)

-- ---- written targets

abbrev pub At : (ℕ → Bool) → (ℕ → Bool) → ℕ → Bool → Option Choice → Type 0
At old kept k b o = elim o [ None ↦ b ≡ kept k | Some v ↦ MayBe old v b ]

abbrev from_values : List Choice → Option ℕ → Option Choice
from_values values o = elim o [ None ↦ None | Some j ↦ slice_get values j ]

place_stands : (xs : List ℕ) (n k : ℕ) → place_in xs n ≡ Some k → slice_get xs k ≡ Some n
place_stands [] n k e = cc
place_stands (x ∷ xs) n k e = here (place_in xs n) (nat_eq x n) refl (λ j h. place_stands xs n j h) e
  where
    here : (o : Option ℕ) (b : Bool) → nat_eq x n ≡ b → ((j : ℕ) → o ≡ Some j → slice_get xs j ≡ Some n) → cond b (Some 0) (option_map (λ j. suc j) o) ≡ Some k → slice_get (x ∷ xs) k ≡ Some n
    here o true same more t = subst (λ j. slice_get (x ∷ xs) j ≡ Some n) (same_Some 0 k t) (ap Some (eqb-true x n same))
    here None false same more t = cc
    here (Some j) false same more t = subst (λ i. slice_get (x ∷ xs) i ≡ Some n) (same_Some (suc j) k t) (more j refl)

module _ (targets : List ℕ) (values : List Choice) (enough : (j k : ℕ) → slice_get targets j ≡ Some k → j < length values) (old : ℕ → Bool) (gs ls : List Bool) where
  abbrev kept : ℕ → Bool
  kept = bits gs ls

  abbrev new_bit : List Bool → ℕ → Option ℕ → Bool
  new_bit new k o = elim o [ None ↦ kept k | Some j ↦ slice_index_or new j false ]

  -- targets with picked values have got them
  pub written_gets : (free : ℕ → Bool) → Gets targets values old gs ls (listed (length gs) (written targets (picked old free 0 values) kept)) (listed (length ls) (λ j. written targets (picked old free 0 values) kept (length gs + j)))
  written_gets free = record {
    globals_stay = length_listed (length gs) (written targets (picked old free 0 values) kept);
    locals_stay = length_listed (length ls) (λ j. written targets (picked old free 0 values) kept (length gs + j));
    each = λ k h. subst (λ b. MayBecome targets values old kept k b) (sym (bits_listed (length gs) (length ls) (written targets (picked old free 0 values) kept) k h)) (by_place k (place_in targets k) refl);
  }
    where
      by_place : (k : ℕ) → (o : Option ℕ) → place_in targets k ≡ o → MayBecome targets values old kept k (written targets (picked old free 0 values) kept k)
      by_place k None e = subst (At old kept k (written targets (picked old free 0 values) kept k)) (ap (from_values values) (sym e)) (ap (new_bit (picked old free 0 values) k) e)
      by_place k (Some j) e =
          let value = get_within values j (enough j k (place_stands targets k j e)) in
          let may = picked_may old free 0 values j value.0 value.1 in
          let same : written targets (picked old free 0 values) kept k ≡ slice_index_or (picked old free 0 values) j false = ap (new_bit (picked old free 0 values) k) e in
          subst (At old kept k (written targets (picked old free 0 values) kept k)) (sym (ap (from_values values) e ∙ value.1)) (subst (MayBe old value.0) (sym same) may)

  module _ (gs' ls' : List Bool) (once : StandOnce targets) (small : Each (λ t. t < length gs + length ls) targets) (gets : Gets targets values old gs ls gs' ls') where
    abbrev bit_of : Option ℕ → Bool
    bit_of o = elim o [ None ↦ false | Some k ↦ bits gs' ls' k ]

    abbrev valued : Choice → Bool → Bool
    valued Star b = b
    valued (Is e) b = value_at old e

    -- a target's bit, and a value's own where it has no target
    abbrev wanted_at : Option Choice → Option ℕ → Bool
    wanted_at o t = elim o [ None ↦ false | Some v ↦ valued v (bit_of t) ]

    abbrev pub wanted : ℕ → Bool
    wanted j = wanted_at (slice_get values j) (slice_get targets j)

    abbrev pub picks : ℕ → Bool
    picks m = wanted (star_at values m)

    valued_may : (v : Choice) (b : Bool) → MayBe old v (valued v b)
    valued_may Star b = tt
    valued_may (Is e) b = refl

    wanted_may : (j : ℕ) (v : Choice) → slice_get values j ≡ Some v → MayBe old v (wanted j)
    wanted_may j v e = subst (MayBe old v) (sym (ap (λ o. wanted_at o (slice_get targets j)) e)) (valued_may v (bit_of (slice_get targets j)))

    picks_give : (j : ℕ) → j < length values → slice_index_or (picked old picks 0 values) j false ≡ wanted j
    picks_give j h = picked_wanted old values 0 wanted picks (λ m s. ap picks (let e : 0 + m ≡ m = omega arith in e)) wanted_may j h

    valued_same : (v : Choice) (b : Bool) → MayBe old v b → valued v b ≡ b
    valued_same Star b may = refl
    valued_same (Is e) b may = sym may

    written_same : (k : ℕ) → k < length gs + length ls → (o : Option ℕ) → place_in targets k ≡ o → written targets (picked old picks 0 values) kept k ≡ bits gs' ls' k
    written_same k h None e = ap (new_bit (picked old picks 0 values) k) e ∙ sym (subst (At old kept k (bits gs' ls' k)) (ap (from_values values) e) (gets.each k h))
    written_same k h (Some j) e =
        let target : slice_get targets j ≡ Some k = place_stands targets k j e in
        let value = get_within values j (enough j k target) in
        let may : MayBe old value.0 (bits gs' ls' k) = subst (At old kept k (bits gs' ls' k)) (ap (from_values values) e ∙ value.1) (gets.each k h) in
        ap (new_bit (picked old picks 0 values) k) e
        ∙ picks_give j (enough j k target)
        ∙ ap (λ o. wanted_at o (slice_get targets j)) value.1
        ∙ ap (λ t. valued value.0 (bit_of t)) target
        ∙ valued_same value.0 (bits gs' ls' k) may

    -- what targets got is written by a pick
    pub gets_written : (point : Point) (below : List Frame) → on_top gs' point ls' below ≡ on_written targets (picked old picks 0 values) gs point ls below
    gets_written point below =
        let f = written targets (picked old picks 0 values) kept in
        let a = gets.globals_stay in
        let b = gets.locals_stay in
        let first : gs' ≡ listed (length gs) f =
        listed_is gs' f (λ k h. written_same k (omega arith) (place_in targets k) refl ∙ bit_global gs' ls' k h) ∙ ap (λ m. listed m f) a in
        let second : ls' ≡ listed (length ls) (λ j. f (length gs + j)) =
        listed_is ls' (λ j. f (length gs + j)) (λ j h.
        let back : (length gs + j) - length gs' ≡ j = omega arith in
        written_same (length gs + j) (omega arith) (place_in targets (length gs + j)) refl ∙ bit_local gs' ls' (length gs + j) (omega arith) ∙ ap (λ m. slice_index_or ls' m false) back)
        ∙ ap (λ m. listed m (λ j. f (length gs + j))) b in
        ap₂ (λ (xs ys : List Bool). on_top xs point ys below) first second

-- ---- a call's locals

module _ (q : Procedure) (arguments : List Choice) (count : length arguments ≡ q.params) (old : ℕ → Bool) where
  abbrev entry : (ℕ → Bool) → List Bool
  entry free = picked old free 0 arguments ++ listed q.locals (λ j. free (stars arguments + j))

  entry_length : (free : ℕ → Bool) → length (entry free) ≡ width q
  entry_length free =
      let a = length-append (picked old free 0 arguments) (listed q.locals (λ j. free (stars arguments + j))) in
      let b = length_picked old free 0 arguments in
      let c = length_listed q.locals (λ j. free (stars arguments + j)) in
      omega arith

  pub entry_entered : (free : ℕ → Bool) → IsEntered q arguments old (entry free)
  entry_entered free = record {
    wide = entry_length free;
    each = λ j v e.
        let small : j < length arguments = slice_get_within arguments j v e in
        let long = length_picked old free 0 arguments in
        subst (MayBe old v) (sym (get_or_append_left (picked old free 0 arguments) (listed q.locals (λ m. free (stars arguments + m))) false j (omega arith))) (picked_may old free 0 arguments j v e);
  }

  module _ (ls' : List Bool) (entered : IsEntered q arguments old ls') where
    abbrev pub own : ℕ → Bool
    own j = slice_index_or ls' j false

    abbrev pub entry_picks : ℕ → Bool
    entry_picks m = if nat_lt m (stars arguments) then own (star_at arguments m) else own (length arguments + (m - stars arguments))

    lt_true : (a b : ℕ) → a < b → nat_lt a b ≡ true
    lt_true a b h = grind (arith, nat_tests)

    lt_false : (a b : ℕ) → b ≤ a → nat_lt a b ≡ false
    lt_false a b h = grind (arith, nat_tests)

    first_bits : (j : ℕ) → j < length arguments → slice_index_or (picked old entry_picks 0 arguments) j false ≡ own j
    first_bits j h = picked_wanted old arguments 0 own entry_picks
        (λ m s. ap entry_picks (let e : 0 + m ≡ m = omega arith in e) ∙ cond-true (nat_lt m (stars arguments)) (own (star_at arguments m)) _ (lt_true m (stars arguments) s)) entered.each j h

    other_bits : (j : ℕ) → entry_picks (stars arguments + j) ≡ own (length arguments + j)
    other_bits j =
        cond-false (nat_lt (stars arguments + j) (stars arguments)) _ (own (length arguments + ((stars arguments + j) - stars arguments))) (lt_false (stars arguments + j) (stars arguments) (omega arith))
        ∙ ap (λ m. own (length arguments + m)) (let e : (stars arguments + j) - stars arguments ≡ j = omega arith in e)

    pub entered_entry : ls' ≡ entry entry_picks
    entered_entry = ext_get_or false ls' (entry entry_picks) (entered.wide ∙ sym (entry_length entry_picks)) (λ j h. by_case j h (below_or j (length arguments)))
      where
        by_case : (j : ℕ) → j < length ls' → ((j < length arguments) ⊎ (length arguments ≤ j)) → slice_index_or ls' j false ≡ slice_index_or (entry entry_picks) j false
        by_case j h (inl b) =
            let long = length_picked old entry_picks 0 arguments in
            sym (get_or_append_left (picked old entry_picks 0 arguments) (listed q.locals (λ m. entry_picks (stars arguments + m))) false j (omega arith) ∙ first_bits j b)
        by_case j h (inr b) =
            let w = entered.wide in
            let long = length_picked old entry_picks 0 arguments in
            let m = j - length arguments in
            let same : length arguments + m ≡ j = omega arith in
            sym (get_or-append_right (picked old entry_picks 0 arguments) (listed q.locals (λ x. entry_picks (stars arguments + x))) (length arguments) j false long b
            ∙ bit_listed q.locals m (λ x. entry_picks (stars arguments + x)) (omega arith) ∙ other_bits m ∙ ap own same)

-- ---- ways

pub first_is : (old : ℕ → Bool) (ways : List (Formula ℕ × Point)) (w : Formula ℕ × Point) → first_true old ways ≡ Some w → (k : ℕ) × (slice_get ways k ≡ Some w) × IsTrue (value_at old w.0)
first_is old [] w e = cc
first_is old (x ∷ ways) w e = by_value (value_at old x.0) refl e (λ h. first_is old ways w h)
  where
    by_value : (b : Bool) → value_at old x.0 ≡ b → cond b (Some x) (first_true old ways) ≡ Some w → (first_true old ways ≡ Some w → (k : ℕ) × (slice_get ways k ≡ Some w) × IsTrue (value_at old w.0))
        → (k : ℕ) × (slice_get (x ∷ ways) k ≡ Some w) × IsTrue (value_at old w.0)
    by_value true t h more = let same = same_Some x w h in (0, h, subst (λ (y : Formula ℕ × Point). IsTrue (value_at old y.0)) same t)
    by_value false t h more = let later = more h in (suc later.0, later.1, later.2)

module _ (r : ℕ) (i : Instruction) (old : ℕ → Bool) where
  -- where the target is looked at each condition is true
  abbrev pub AllTrue : Action → Type 0
  AllTrue (Jumps ways) = (k : ℕ) (w : Formula ℕ × Point) → slice_get ways k ≡ Some w → IsTrue (value_at old w.0)
  AllTrue (Sets targets values) = Unit {0}
  AllTrue (Calls targets callee arguments) = Unit {0}
  AllTrue (Returns values) = Unit {0}

  -- elsewhere at most one is
  abbrev pub FirstTrue : Action → Type 0
  FirstTrue (Jumps ways) = (k : ℕ) (w : Formula ℕ × Point) → slice_get ways k ≡ Some w → IsTrue (value_at old w.0) → first_true old ways ≡ Some w
  FirstTrue (Sets targets values) = Unit {0}
  FirstTrue (Calls targets callee arguments) = Unit {0}
  FirstTrue (Returns values) = Unit {0}

  star_true : (a b : Point) → AllTrue (on_choice Star a b)
  star_true a b zero w e = ap (λ (x : Formula ℕ × Point). value_at old x.0) (sym (same_Some (Constant true, a) w e))
  star_true a b (suc zero) w e = ap (λ (x : Formula ℕ × Point). value_at old x.0) (sym (same_Some (Constant true, b) w e))
  star_true a b (suc (suc k)) w e = cc

  pub picked_true : (s : Statement) → is_picked s ≡ true → AllTrue (action_of r i s)
  picked_true (Goto lines) p = λ k w e. let at = get_mapped always lines k w e in ap (λ (x : Formula ℕ × Point). value_at old x.0) (sym at.2)
  picked_true (If Star) p = star_true (at_line i.next) (at_line i.other)
  picked_true (If (Is e)) p = absurd (let h : false ≡ true = p in cc)
  picked_true (While Star) p = star_true (at_line i.next) (at_line i.other)
  picked_true (While (Is e)) p = absurd (let h : false ≡ true = p in cc)
  picked_true Skip p = absurd (let h : false ≡ true = p in cc)
  picked_true (Assign targets values) p = tt
  picked_true (Assume e) p = absurd (let h : false ≡ true = p in cc)
  picked_true (Assert e) p = absurd (let h : false ≡ true = p in cc)
  picked_true (Call targets callee arguments) p = tt
  picked_true (Return values) p = tt
  picked_true Else p = absurd (let h : false ≡ true = p in cc)
  picked_true EndIf p = absurd (let h : false ≡ true = p in cc)
  picked_true EndWhile p = absurd (let h : false ≡ true = p in cc)
  picked_true EndProc p = tt

  only_way : (a : Formula ℕ × Point) → FirstTrue (Jumps (a ∷ []))
  only_way a zero w e t =
      let same = same_Some a w e in
      cond-true (value_at old a.0) (Some a) None (subst (λ (x : Formula ℕ × Point). IsTrue (value_at old x.0)) (sym same) t) ∙ ap Some same
  only_way a (suc k) w e t = cc

  one_of_two : (e : Formula ℕ) (a b : Point) → FirstTrue (on_choice (Is e) a b)
  one_of_two e a b zero w h t =
      let same = same_Some (e, a) w h in
      cond-true (value_at old e) (Some (e, a)) _ (subst (λ (x : Formula ℕ × Point). IsTrue (value_at old x.0)) (sym same) t) ∙ ap Some same
  one_of_two e a b (suc zero) w h t =
      let same = same_Some (Opposite e, b) w h in
      let opposite : not (value_at old e) ≡ true = subst (λ (x : Formula ℕ × Point). IsTrue (value_at old x.0)) (sym same) t in
      by_value (value_at old e) opposite ∙ ap Some same
    where
      by_value : (c : Bool) → not c ≡ true → cond {A = Option (Formula ℕ × Point)} c (Some (e, a)) (cond {A = Option (Formula ℕ × Point)} (not c) (Some (Opposite e, b)) None) ≡ Some (Opposite e, b)
      by_value true o = cc
      by_value false o = refl
  one_of_two e a b (suc (suc k)) w h t = cc

  pub others_first : (s : Statement) → is_picked s ≡ false → FirstTrue (action_of r i s)
  others_first (Goto lines) p = absurd (let h : true ≡ false = p in cc)
  others_first (If Star) p = absurd (let h : true ≡ false = p in cc)
  others_first (If (Is e)) p = one_of_two e (at_line i.next) (at_line i.other)
  others_first (While Star) p = absurd (let h : true ≡ false = p in cc)
  others_first (While (Is e)) p = one_of_two e (at_line i.next) (at_line i.other)
  others_first Skip p = only_way (always i.next)
  others_first (Assign targets values) p = tt
  others_first (Assume e) p = only_way (e, at_line i.next)
  others_first (Assert e) p = one_of_two e (at_line i.next) (record { line = i.line; failed = true })
  others_first (Call targets callee arguments) p = tt
  others_first (Return values) p = tt
  others_first Else p = only_way (always i.other)
  others_first EndIf p = only_way (always i.next)
  others_first EndWhile p = only_way (always i.other)
  others_first EndProc p = tt
