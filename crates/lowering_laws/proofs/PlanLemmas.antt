-- Which rules the plan has, and which symbols.
use Rattle.std.proofs.Common.{◌≡◌, ℕ, zero, suc, ◌+◌, ◌<◌, Bool, true, false, cond, List, [], ◌∷◌, length, filter, refl, sym, ap, ◌∙◌, subst, arith, ◌⊎◌, inl, inr}
use Rattle.std.specs.Prelude.{Option, None, Some, slice_get, option_map, unwrap_or}
use Rattle.std.proofs.lemmas.Option.{same_Some, slice_get_within}
use Rattle.pushdown_rules.specs.declared.rule.Rule.{Rule}
use Rattle.pushdown_rules.specs.Pushdown.{Pushdown}
use Rattle.boolean_programs.specs.Programs.{Program}
use Rattle.boolean_programs.specs.Lines.{Instruction, code, line_numbers, instruction_at}
use Rattle.boolean_programs.specs.Lists.{place_in}
use Rattle.boolean_programs.specs.declared.point.Point.{Point}
use Rattle.boolean_machine.specs.Machine.{action}
use Rattle.boolean_machine.specs.Lawful.{is_assert, IsPointOf}
use Rattle.setting_runs.specs.Relations.{Setting}
use Rattle.relation_weights.specs.declared.rel_map.Slot.{Slot}
use Rattle.lowering_laws.specs.Lowering.{Planned, line_rules, rules_from, plan, variables, IsLowered, IsLowering, assert_lines, symbol_of, symbol}
use Rattle.lowering_laws.proofs.PlaceLemmas.{get_front, get_back, get_joined, get_within, get_map, place_is, place_of}
use Rattle.lowering_laws.proofs.ShapeLemmas.{head_is}

-- the planned rules of a body line
pub record PlannedBy (p : Program) (base : ℕ) (is : List Instruction) (t : Planned) : Type 0 where
  pub number : ℕ
  pub instruction : Instruction
  pub place : ℕ
  pub which : ℕ
  pub is_at : number ≡ base + place
  pub there : slice_get is place ≡ Some instruction
  pub among : slice_get (line_rules p number instruction (action p instruction)) which ≡ Some t

pub planned_by : (p : Program) (base : ℕ) (is : List Instruction) (j : ℕ) (t : Planned) → slice_get (rules_from p base is) j ≡ Some t → PlannedBy p base is t
planned_by p base [] j t e = cc
planned_by p base (i ∷ is) j t e = by_part (get_joined (line_rules p base i (action p i)) (rules_from p (suc base) is) j t e) (λ l h. planned_by p (suc base) is l t h)
  where
    by_part : ((slice_get (line_rules p base i (action p i)) j ≡ Some t) ⊎ ((l : ℕ) × (slice_get (rules_from p (suc base) is) l ≡ Some t)))
        → ((l : ℕ) → slice_get (rules_from p (suc base) is) l ≡ Some t → PlannedBy p (suc base) is t) → PlannedBy p base (i ∷ is) t
    by_part (inl h) more = record { number = base; instruction = i; place = 0; which = j; is_at = omega arith; there = refl; among = h }
    by_part (inr h) more =
        let later = more h.0 h.1 in
        record { number = later.number; instruction = later.instruction; place = suc later.place; which = later.which; is_at = let e = later.is_at in omega arith; there = later.there; among = later.among }

find_planned : (p : Program) (base : ℕ) (is : List Instruction) (k number : ℕ) (i : Instruction) (l : ℕ) (t : Planned) → number ≡ base + k → slice_get is k ≡ Some i
    → slice_get (line_rules p number i (action p i)) l ≡ Some t → (j : ℕ) × (slice_get (rules_from p base is) j ≡ Some t)
find_planned p base [] k number i l t same there among = cc
find_planned p base (i' ∷ is) zero number i l t same there among =
    let here : slice_get (line_rules p base i' (action p i')) l ≡ Some t =
    subst (λ n. slice_get (line_rules p n i' (action p i')) l ≡ Some t) (let e : number ≡ base = omega arith in e)
    (subst (λ x. slice_get (line_rules p number x (action p x)) l ≡ Some t) (sym (same_Some i' i there)) among) in
    (l, get_front (line_rules p base i' (action p i')) (rules_from p (suc base) is) l t here)
find_planned p base (i' ∷ is) (suc k) number i l t same there among =
    let later = find_planned p (suc base) is k number i l t (omega arith) there among in
    get_back (line_rules p base i' (action p i')) (rules_from p (suc base) is) later.0 t later.1

module _ {S W Map : Type 0} {relates : W → Setting → Setting → Bool} {slots : Map → ℕ → Slot} {p : Program} {system : Pushdown S W Map} (low : IsLowering relates slots p system) where
  -- a rule of the system, by the line whose rule it is
  pub record IsRuleOf (j : ℕ) (r : Rule S W Map) : Type 0 where
    pub number : ℕ
    pub instruction : Instruction
    pub which : ℕ
    pub planned : Planned
    pub there : slice_get (code p) number ≡ Some instruction
    pub among : slice_get (line_rules p number instruction (action p instruction)) which ≡ Some planned
    pub lowered : IsLowered (variables p) relates slots r planned
    pub symbol : r.symbol ≡ number

  pub rule_of : (j : ℕ) (r : Rule S W Map) → slice_get system.rules j ≡ Some r → IsRuleOf j r
  rule_of j r there =
      let within : j < length system.rules = slice_get_within system.rules j r there in
      let count = low.count in
      let planned = get_within (plan p) j (omega arith) in
      let by = planned_by p 0 (code p) j planned.0 planned.1 in
      let lowered = low.rules j r planned.0 there planned.1 in
      let same : by.number ≡ by.place = let e = by.is_at in omega arith in
      record {
        number = by.number;
        instruction = by.instruction;
        which = by.which;
        planned = planned.0;
        there = ap (slice_get (code p)) same ∙ by.there;
        among = by.among;
        lowered = lowered;
        symbol = lowered.symbol ∙ head_is p by.number by.instruction (action p by.instruction) by.which planned.0 by.among;
      }

  -- the rule of the system for a planned one
  pub record IsRuleFor (t : Planned) : Type 0 where
    pub number : ℕ
    pub rule : Rule S W Map
    pub there : slice_get system.rules number ≡ Some rule
    pub lowered : IsLowered (variables p) relates slots rule t

  pub rule_for : (k : ℕ) (i : Instruction) (l : ℕ) (t : Planned) → slice_get (code p) k ≡ Some i → slice_get (line_rules p k i (action p i)) l ≡ Some t → IsRuleFor t
  rule_for k i l t there among =
      let planned = find_planned p 0 (code p) k k i l t (omega arith) there among in
      let within : planned.0 < length (plan p) = slice_get_within (plan p) planned.0 t planned.1 in
      let count = low.count in
      let r = get_within system.rules planned.0 (omega arith) in
      record { number = planned.0; rule = r.0; there = r.1; lowered = low.rules planned.0 r.0 t r.1 planned.1 }

-- ---- symbols

abbrev at_place : List Instruction → Option ℕ → Option Instruction
at_place is o = elim o [ None ↦ None | Some k ↦ slice_get is k ]

found_at : (is : List Instruction) (o : Option ℕ) (i : Instruction) → at_place is o ≡ Some i → (k : ℕ) × (o ≡ Some k) × (slice_get is k ≡ Some i)
found_at is None i e = cc
found_at is (Some k) i e = (k, refl, e)

-- the place of a body line
pub place_of_line : (p : Program) (n : ℕ) (i : Instruction) → instruction_at p n ≡ Some i → (k : ℕ) × (place_in (line_numbers (code p)) n ≡ Some k) × (slice_get (code p) k ≡ Some i)
place_of_line p n i e = found_at (code p) (place_in (line_numbers (code p)) n) i e

pub line_at_place : (p : Program) (n k : ℕ) (i : Instruction) → place_in (line_numbers (code p)) n ≡ Some k → slice_get (code p) k ≡ Some i → instruction_at p n ≡ Some i
line_at_place p n k i place there = ap (at_place (code p)) place ∙ there

abbrev asserts : Instruction → Bool
asserts i = is_assert i.statement

-- an assert stands among the asserts
among_asserts : (is : List Instruction) (k : ℕ) (i : Instruction) → slice_get is k ≡ Some i → is_assert i.statement ≡ true → (j : ℕ) × (slice_get (line_numbers (filter asserts is)) j ≡ Some i.line)
among_asserts [] k i e assert = cc
among_asserts (i' ∷ is) zero i e assert = at_head (asserts i') (ap asserts (same_Some i' i e) ∙ assert)
  where
    at_head : (b : Bool) → b ≡ true → (j : ℕ) × (slice_get (line_numbers (cond b (i' ∷ filter asserts is) (filter asserts is))) j ≡ Some i.line)
    at_head true h = (0, ap (λ (x : Instruction). Some x.line) (same_Some i' i e))
    at_head false h = cc
among_asserts (i' ∷ is) (suc k) i e assert = past (asserts i') (among_asserts is k i e assert)
  where
    past : (b : Bool) → ((j : ℕ) × (slice_get (line_numbers (filter asserts is)) j ≡ Some i.line)) → (j : ℕ) × (slice_get (line_numbers (cond b (i' ∷ filter asserts is) (filter asserts is))) j ≡ Some i.line)
    past true h = (suc h.0, h.1)
    past false h = h

-- the line of an instruction is the number that it was looked up by
pub line_is : (p : Program) (n : ℕ) (i : Instruction) → instruction_at p n ≡ Some i → i.line ≡ n
line_is p n i e =
    let at = place_of_line p n i e in
    let number : slice_get (line_numbers (code p)) at.0 ≡ Some n = place_is (line_numbers (code p)) n at.0 at.1 in
    let mapped : slice_get (line_numbers (code p)) at.0 ≡ Some i.line = get_map (λ (x : Instruction). x.line) (code p) at.0 i at.2 in
    same_Some i.line n (sym mapped ∙ number)

-- each point has its symbol
pub point_symbol : (p : Program) (procedure : ℕ) (point : Point) → IsPointOf p procedure point → symbol_of p point ≡ Some (symbol p point)
point_symbol p procedure point is_point = by_kind point.failed refl
  where
    known : (o : Option ℕ) (k : ℕ) → o ≡ Some k → o ≡ Some (unwrap_or o 0)
    known o k e = e ∙ ap Some (sym (ap (λ x. unwrap_or x 0) e))

    by_kind : (b : Bool) → point.failed ≡ b → symbol_of p point ≡ Some (symbol p point)
    by_kind false e =
        let at = place_of_line p point.line is_point.instruction is_point.there in
        let kind : Bool → Option ℕ = λ b. elim b [ false ↦ place_in (line_numbers (code p)) point.line | true ↦ option_map (λ k. length (code p) + k) (place_in (assert_lines p) point.line) ] in
        known (symbol_of p point) at.0 (ap kind e ∙ at.1)
    by_kind true e =
        let at = place_of_line p point.line is_point.instruction is_point.there in
        let kind : Bool → Option ℕ = λ b. elim b [ false ↦ place_in (line_numbers (code p)) point.line | true ↦ option_map (λ k. length (code p) + k) (place_in (assert_lines p) point.line) ] in
        let stands = among_asserts (code p) at.0 is_point.instruction at.2 (is_point.asserts e) in
        let line : is_point.instruction.line ≡ point.line = line_is p point.line is_point.instruction is_point.there in
        let place = place_of (assert_lines p) point.line stands.0 (stands.1 ∙ ap Some line) in
        known (symbol_of p point) (length (code p) + place.0) (ap kind e ∙ ap (option_map (λ k. length (code p) + k)) place.1)
