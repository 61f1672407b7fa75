-- The targets and values of planned rules, by the layout.
use Rattle.std.specs.List.{range_with_len}
use Rattle.std.proofs.Common.{◌≡◌, ℕ, zero, suc, ◌+◌, ◌<◌, ◌≤◌, List, ◌++◌, length, replicate, refl, sym, ap, ap₂, arith}
use Rattle.std.proofs.lemmas.List.{length-map}
use Rattle.std.proofs.Math.ListN.{length-append, length-replicate}
use Rattle.boolean_programs.specs.declared.statement.Choice.{Choice}
use Rattle.boolean_programs.specs.declared.statement.Choice.TheVariants.{Star}
use Rattle.boolean_programs.specs.Programs.{Procedure, Program, width}
use Rattle.boolean_programs.specs.Lists.{Each}
use Rattle.lowering_laws.specs.Lowering.{Assigns, variables, first_local, slot_of, renamed_choice, in_slots, entry_values}
use Rattle.lowering_laws.specs.Plans.{IsEffectOver}
use Rattle.boolean_lowering.specs.declared.layout.Layout.{Layout}
use Rattle.boolean_lowering.specs.private.Layouts.{variables_in, IsLayout}
use Rattle.boolean_lowering.proofs.LayoutLemmas.{variables_same}
use Rattle.boolean_lowering.proofs.NameLemmas.{slots_of_free}

length_range : (a n : ℕ) → length (range_with_len a n) ≡ n
length_range a zero = refl
length_range a (suc n) = ap suc (length_range (a + 1) n)

-- a range of variables ends where they do
range_below : (a m n : ℕ) → Each (λ t. t < n) (range_with_len a m) → a ≤ n → a + m ≤ n
range_below a zero n each le = omega arith
range_below a (suc m) n each le =
    let first : a < n = each 0 a refl in
    let later = range_below (a + 1) m n (λ k t e. each (suc k) t e) (omega arith) in
    omega arith

module _ (p : Program) (l : Layout) (is : IsLayout p l) where
  -- the locals of a callee, with the arguments and free values behind them
  module _ (q : Procedure) (arguments : List Choice) (over : IsEffectOver (variables p) (Assigns (range_with_len (first_local p) (width q)) (entry_values p q arguments))) where
    pub call_long : width q ≡ length arguments + q.locals
    call_long =
        let whole = length-append (in_slots p arguments) (replicate q.locals Star) in
        let named = length-map arguments (renamed_choice (slot_of p)) in
        let free = length-replicate q.locals Star in
        let range = length_range (first_local p) (width q) in
        let same = over.0 in
        omega arith

    pub call_small : l.globals + l.returns + length arguments + q.locals ≤ 24
    call_small =
        let within = range_below (first_local p) (width q) (variables p) over.1 (omega arith) in
        let long = call_long in
        let globals = is.globals in
        let returns = is.returns in
        let few : variables_in l ≤ 24 = l.few in
        let same = variables_same p l is in
        omega arith

    pub call_same : (first free : ℕ) → first ≡ l.globals + l.returns → free ≡ q.locals
        → Assigns (range_with_len first (length arguments + free)) (in_slots p arguments ++ replicate free Star) ≡ Assigns (range_with_len (first_local p) (width q)) (entry_values p q arguments)
    call_same first free at same =
        let globals = is.globals in
        let returns = is.returns in
        let long = call_long in
        let begins : first ≡ first_local p = omega arith in
        let many : length arguments + free ≡ width q = omega arith in
        ap₂ Assigns (ap₂ range_with_len begins many) (ap (λ n. in_slots p arguments ++ replicate n Star) same)

  -- return slots, with values and free ones behind them
  module _ (values : List Choice) (free : ℕ) (over : IsEffectOver (variables p) (Assigns (range_with_len p.globals (length (values ++ replicate free Star))) (in_slots p (values ++ replicate free Star)))) where
    return_long : length (values ++ replicate free Star) ≡ length values + free
    return_long = let whole = length-append values (replicate free Star) in let copies = length-replicate free Star in omega arith

    pub return_small : l.globals + length values + free ≤ 24
    return_small =
        let within = range_below p.globals (length (values ++ replicate free Star)) (variables p) over.1 (omega arith) in
        let long = return_long in
        let globals = is.globals in
        let few : variables_in l ≤ 24 = l.few in
        let same = variables_same p l is in
        omega arith

    pub return_same : Assigns (range_with_len l.globals (length values + free)) (in_slots p values ++ replicate free Star)
        ≡ Assigns (range_with_len p.globals (length (values ++ replicate free Star))) (in_slots p (values ++ replicate free Star))
    return_same = ap₂ Assigns (ap₂ range_with_len is.globals (sym return_long)) (sym (slots_of_free (slot_of p) values free))
