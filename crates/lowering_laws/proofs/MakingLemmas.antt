-- What a loop that makes the lowering needs.
use Rattle.std.proofs.Common.{◌≡◌, ℕ, zero, suc, ◌+◌, ◌≤◌, Bool, List, [], ◌∷◌, ◌++◌, length, map, refl, sym, ap, ◌∙◌, subst, arith, append_assoc}
use Rattle.std.specs.Prelude.{Some, slice_get}
use Rattle.std.proofs.lemmas.Option.{same_Some}
use Rattle.pushdown_rules.specs.declared.rule.Rule.{Rule}
use Rattle.pushdown_rules.specs.Pushdown.{Pushdown}
use Rattle.boolean_programs.specs.Programs.{Procedure, Program, width}
use Rattle.boolean_programs.specs.Lines.{Instruction}
use Rattle.boolean_machine.specs.Machine.{action}
use Rattle.boolean_programs.specs.Lists.{Each}
use Rattle.setting_runs.specs.Relations.{Setting}
use Rattle.relation_weights.specs.declared.rel_map.Slot.{Slot}
use Rattle.lowering_laws.specs.Lowering.{Planned, line_rules, rules_from, plan, first_local, variables, symbols, IsLowered, IsLowering}
use Rattle.boolean_programs.specs.Structure.{largest}
use Rattle.lowering_laws.specs.Plans.{AreLowered, IsNarrow}

-- the plan with one line more
pub plan_more : (p : Program) (base : ℕ) (is : List Instruction) (i : Instruction) → rules_from p base (is ++ i ∷ []) ≡ rules_from p base is ++ line_rules p (base + length is) i (action p i)
plan_more p base [] i = at_end (line_rules p base i (action p i)) ∙ ap (λ k. line_rules p k i (action p i)) (let e : base ≡ base + 0 = omega arith in e)
  where
    at_end : (ts : List Planned) → ts ++ [] ≡ ts
    at_end [] = refl
    at_end (t ∷ ts) = ap (λ (xs : List Planned). t ∷ xs) (at_end ts)
plan_more p base (j ∷ is) i =
    ap (λ (ts : List Planned). line_rules p base j (action p j) ++ ts)
    (plan_more p (suc base) is i ∙ ap (λ k. rules_from p (suc base) is ++ line_rules p k i (action p i)) (let e : suc base + length is ≡ base + suc (length is) = omega arith in e))
    ∙ sym (append_assoc (line_rules p base j (action p j)) (rules_from p (suc base) is) (line_rules p (base + suc (length is)) i (action p i)))

module _ {S W Map : Type 0} (n : ℕ) (relates : W → Setting → Setting → Bool) (slots : Map → ℕ → Slot) where
  -- one rule more
  pub lowered_more : (rs : List (Rule S W Map)) (ts : List Planned) (r : Rule S W Map) (t : Planned) → AreLowered n relates slots rs ts → IsLowered n relates slots r t → AreLowered n relates slots (rs ++ r ∷ []) (ts ++ t ∷ [])
  lowered_more [] [] r t are is = (is, tt)
  lowered_more [] (u ∷ ts) r t are is = absurd are
  lowered_more (q ∷ rs) [] r t are is = absurd are
  lowered_more (q ∷ rs) (u ∷ ts) r t are is = (are.0, lowered_more rs ts r t are.1 is)

  as_many : (rs : List (Rule S W Map)) (ts : List Planned) → AreLowered n relates slots rs ts → length rs ≡ length ts
  as_many [] [] are = refl
  as_many [] (t ∷ ts) are = absurd are
  as_many (r ∷ rs) [] are = absurd are
  as_many (r ∷ rs) (t ∷ ts) are = ap suc (as_many rs ts are.1)

  each_lowered : (rs : List (Rule S W Map)) (ts : List Planned) → AreLowered n relates slots rs ts → (k : ℕ) (r : Rule S W Map) (t : Planned) → slice_get rs k ≡ Some r → slice_get ts k ≡ Some t → IsLowered n relates slots r t
  each_lowered [] ts are k r t e d = cc
  each_lowered (q ∷ rs) [] are k r t e d = absurd are
  each_lowered (q ∷ rs) (u ∷ ts) are zero r t e d =
      subst (λ x. IsLowered n relates slots r x) (same_Some u t d) (subst (λ x. IsLowered n relates slots x u) (same_Some q r e) are.0)
  each_lowered (q ∷ rs) (u ∷ ts) are (suc k) r t e d = each_lowered rs ts are.1 k r t e d

pub is_lowering : {S W Map : Type 0} (relates : W → Setting → Setting → Bool) (slots : Map → ℕ → Slot) (p : Program) (system : Pushdown S W Map) → system.controls ≡ 1 → system.symbols ≡ symbols p
    → AreLowered (variables p) relates slots system.rules (plan p) → IsLowering relates slots p system
is_lowering relates slots p system one count are = record {
  controls = one;
  symbols_are = count;
  count = as_many (variables p) relates slots system.rules (plan p) are;
  rules = λ k r t e d. each_lowered (variables p) relates slots system.rules (plan p) are k r t e d;
}

-- ---- the number of variables

largest_within : (qs : List Procedure) (low n : ℕ) → low ≤ n → Each (λ (q : Procedure). low + width q ≤ n) qs → low + largest (map width qs) ≤ n
largest_within [] low n room narrow = omega arith
largest_within (q ∷ qs) low n room narrow =
    let first = narrow 0 q refl in
    let later = largest_within qs low n room (λ k x e. narrow (suc k) x e) in
    omega arith

-- where each procedure is narrow, there are few variables
pub few_variables : (p : Program) (n : ℕ) → first_local p ≤ n → IsNarrow n p → variables p ≤ n
few_variables p n room narrow = largest_within p.procs (first_local p) n room narrow
