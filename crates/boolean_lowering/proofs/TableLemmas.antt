-- The points of a program's lines, and the lowering that its rules make.
use Rattle.std.proofs.Common.{◌≡◌, ℕ, ◌+◌, ◌≤◌, Bool, true, false, cond, List, [], ◌∷◌, ◌++◌, length, map, filter, refl, sym, ap, ap₂, ◌∙◌, subst, arith}
use Rattle.std.specs.Prelude.{IsTrue}
use Rattle.std.proofs.lemmas.List.{length-map}
use Rattle.std.proofs.Math.ListN.{length-append}
use Rattle.pushdown_rules.specs.Pushdown.{Pushdown}
use Rattle.relation_laws.specs.Building.{Parts}
use Rattle.relation_laws.specs.Relations.{leads}
use Rattle.relation_weights.specs.declared.rel_map.RelMap.{RelMap}
use Rattle.boolean_programs.specs.Programs.{Program}
use Rattle.boolean_programs.specs.Lines.{Instruction, code, line_numbers}
use Rattle.boolean_programs.specs.Structure.{IsRead, rises}
use Rattle.boolean_machine.specs.Lawful.{is_assert}
use Rattle.boolean_machine.specs.Machine.{at_line}
use Rattle.lowering_laws.specs.Lowering.{variables, symbols, symbol_points, assert_lines, failure_at, plan, IsLowering}
use Rattle.lowering_laws.specs.Plans.{AreLowered}
use Rattle.lowering_laws.specs.Weights.{slots_of, IsDiagramLowering}
use Rattle.boolean_lowering.specs.declared.spot.Spot.{Spot}
use Rattle.boolean_lowering.specs.private.Spots.{instruction_of, line_of, asserts_at}
use Rattle.boolean_lowering.specs.private.Tables.{points_in}
use Rattle.boolean_lowering.specs.private.Made.{IsFor, AreAdded}

lines_same : (spots : List Spot) → map line_of spots ≡ line_numbers (map instruction_of spots)
lines_same [] = refl
lines_same (s ∷ ss) = ap (λ ns. line_of s ∷ ns) (lines_same ss)

abbrev asserts : List Instruction → List Instruction
asserts is = filter (λ (i : Instruction). is_assert i.statement) is

asserts_same : (spots : List Spot) → map line_of (filter asserts_at spots) ≡ line_numbers (asserts (map instruction_of spots))
asserts_same [] = refl
asserts_same (s ∷ ss) = by_test (asserts_at s) (asserts_same ss)
  where
    by_test : (b : Bool) → map line_of (filter asserts_at ss) ≡ line_numbers (asserts (map instruction_of ss))
        → map line_of (cond b (s ∷ filter asserts_at ss) (filter asserts_at ss)) ≡ line_numbers (cond b (instruction_of s ∷ asserts (map instruction_of ss)) (asserts (map instruction_of ss)))
    by_test true e = ap (λ ns. line_of s ∷ ns) e
    by_test false e = e

module _ (p : Program) (spots : List Spot) (are : map instruction_of spots ≡ code p) where
  pub lines_are : map line_of spots ≡ line_numbers (code p)
  lines_are = lines_same spots ∙ ap line_numbers are

  pub asserts_are : map line_of (filter asserts_at spots) ≡ assert_lines p
  asserts_are = asserts_same spots ∙ ap (λ is. line_numbers (asserts is)) are

  -- the points of the lines are those of the symbols
  pub points_are : points_in (map line_of spots) (map line_of (filter asserts_at spots)) ≡ symbol_points p
  points_are = ap₂ points_in lines_are asserts_are

  pub lines_rise : IsRead p → IsTrue (rises 0 (map line_of spots))
  lines_rise read = subst (λ ns. rises 0 ns ≡ true) (sym lines_are) read.rising

  pub few_lines : (n : ℕ) → symbols p ≤ n → length spots + length (filter asserts_at spots) ≤ n
  few_lines n few =
      let lines = ap (λ ns. length ns) lines_are in
      let fails = ap (λ ns. length ns) asserts_are in
      let long = length-map spots line_of in
      let many = length-map (filter asserts_at spots) line_of in
      let all = length-map (code p) (λ (i : Instruction). i.line) in
      omega arith

-- as many points as symbols
pub points_long : (p : Program) → length (symbol_points p) ≡ symbols p
points_long p =
    let whole = length-append (map at_line (line_numbers (code p))) (map failure_at (assert_lines p)) in
    let lines = length-map (line_numbers (code p)) at_line in
    let numbers = length-map (code p) (λ (i : Instruction). i.line) in
    let fails = length-map (assert_lines p) failure_at in
    omega arith

-- rules that were added to none as planned are the lowering
pub lowering_made : (p : Program) (old new : Pushdown ℕ Parts RelMap)
    → ((p : Program) (system : Pushdown ℕ Parts RelMap) → system.controls ≡ 1 → system.symbols ≡ symbols p → AreLowered (variables p) leads slots_of system.rules (plan p) → IsLowering leads slots_of p system)
    → IsFor p old → old.rules ≡ [] → AreAdded p old new (plan p) → IsDiagramLowering p new
lowering_made p old new law is none are =
    let only : new.rules ≡ are.rules = ap (λ (s : Pushdown ℕ Parts RelMap). s.rules) are.added ∙ ap (λ rs. rs ++ are.rules) none in
    record {
      semiring = ap (λ (s : Pushdown ℕ Parts RelMap). s.semiring) are.added ∙ is.semiring;
      lowering = law p new
          (ap (λ (s : Pushdown ℕ Parts RelMap). s.controls) are.added ∙ is.controls)
          (ap (λ (s : Pushdown ℕ Parts RelMap). s.symbols) are.added ∙ is.symbols_are)
          (subst (λ rs. AreLowered (variables p) leads slots_of rs (plan p)) (sym only) are.lowered);
    }
