-- The lowering of a small program.
use Rattle.std.proofs.Common.{◌≡◌, ℕ, true, List, [], ◌∷◌, map, refl, arith}
use Rattle.std.specs.Prelude.{Option, None, Some, slice_get}
use Rattle.truth_tables.specs.Formulas.{Formula, Constant, Variable, Opposite, Binary}
use Rattle.boolean_programs.specs.declared.statement.Choice.TheVariants.{Star, Is}
use Rattle.boolean_machine.specs.Machine.{at_line}
use Rattle.pushdown_rules.specs.Answers.{HasFeasibleRun}
use Rattle.config_patterns.specs.Membership.{has_member}
use Rattle.relation_laws.specs.Relations.{leads}
use Rattle.relation_weights.specs.Relations.{relation_operations}
use Rattle.relation_weights.specs.RelationLaws.{relation_laws}
use Rattle.setting_runs.specs.Relations.{MeansRelations}
use Rattle.boolean_machine.proofs.CallerLemmas.{small, small_is_lawful, failure, fails, trace, loop}
use Rattle.relation_weights.specs.declared.rel_map.Slot.{Slot}
use Rattle.relation_weights.specs.declared.rel_map.Slot.TheVariants.{Caller, Callee}
use Rattle.lowering_laws.specs.Lowering.{Planned, Effect, Assumes, Assigns, plan, variables, symbols, symbol_of, map_slot}
use Rattle.lowering_laws.specs.Queries.{stack_of, entry_pattern, point_pattern}
use Rattle.lowering_laws.specs.Made.{lowering_of}
use Rattle.lowering_laws.specs.Weights.{slots_of}
use Rattle.lowering_laws.proofs.ReachingLemmas.{feasible_of}
use Rattle.lowering_laws.proofs.MadeLemmas.{lowering_valid, lowering_is}

-- variables: the global, one return slot, one local slot
three : variables small ≡ 3
three = refl

-- seven body lines and one failure
eight : symbols small ≡ 8
eight = refl

failure_last : symbol_of small failure ≡ Some 7
failure_last = refl

no_point : symbol_of small (at_line 10) ≡ None
no_point = refl

no_assert : symbol_of small (record { line = 9; failed = true }) ≡ None
no_assert = refl

abbrev heads : List Planned → List (ℕ × List ℕ × Effect)
heads ts = map {B = ℕ × List ℕ × Effect} (λ (t : Planned). (t.head, t.right, t.effect)) ts

abbrev g : Formula ℕ
g = Variable 0

abbrev x : Formula ℕ
x = Variable 2

-- the rules in their order: of the assert first pass, then failure
rules : heads (plan small) ≡
    (0, 1 ∷ [], Assumes (Binary 8 (Opposite g) (Opposite x)))
    ∷ (1, 2 ∷ [], Assigns (2 ∷ []) (Is (Constant true) ∷ []))
    ∷ (2, 5 ∷ 3 ∷ [], Assigns (2 ∷ []) (Is x ∷ []))
    ∷ (3, 4 ∷ [], Assumes (Opposite g))
    ∷ (3, 7 ∷ [], Assumes (Opposite (Opposite g)))
    ∷ (4, [], Assigns [] [])
    ∷ (5, [], Assigns (1 ∷ []) (Is x ∷ []))
    ∷ (6, [], Assigns (1 ∷ []) (Star ∷ [])) ∷ []
rules = refl

abbrev slots_in : Option Planned → List Slot
slots_in None = []
slots_in (Some t) = elim t.map [ None ↦ [] | Some h ↦ h 0 ∷ h 1 ∷ h 2 ∷ [] ]

-- the call's map: the target from the return slot, all else from the caller
call_map : slots_in (slice_get (plan small) 2) ≡ Callee 1 ∷ Caller ∷ Caller ∷ []
call_map = refl

-- the stacks that the states of its trace stand for: in the call the symbol of the line below it waits
stacks : map (stack_of small) trace ≡ (0 ∷ []) ∷ (1 ∷ []) ∷ (2 ∷ []) ∷ (5 ∷ 3 ∷ []) ∷ (3 ∷ []) ∷ (7 ∷ []) ∷ []
stacks = refl

-- the rules of blocks: true before false, and both at `*`
loop_rules : map {B = ℕ × List ℕ} (λ (t : Planned). (t.head, t.right)) (plan loop) ≡
    (0, 1 ∷ []) ∷ (1, 2 ∷ []) ∷ (1, 12 ∷ []) ∷ (2, 3 ∷ []) ∷ (3, 4 ∷ []) ∷ (3, 6 ∷ []) ∷ (4, 5 ∷ []) ∷ (5, 6 ∷ []) ∷ (6, 7 ∷ []) ∷ (6, 9 ∷ [])
    ∷ (7, 8 ∷ []) ∷ (8, 11 ∷ []) ∷ (9, 10 ∷ []) ∷ (10, 11 ∷ []) ∷ (11, 1 ∷ []) ∷ (12, 13 ∷ []) ∷ (13, []) ∷ []
loop_rules = refl

-- a call without targets: globals come from the callee, all else from the caller
untargeted_call : map_slot small [] 0 ∷ map_slot small [] 1 ∷ map_slot small [] 2 ∷ [] ≡ Callee 0 ∷ Caller ∷ Caller ∷ []
untargeted_call = refl

-- the assert of its line 8 can fail, and so its lowering has a feasible run there
found : MeansRelations (relation_operations 3) 3 leads slots_of
    → HasFeasibleRun (relation_operations 3) (lowering_of small) (has_member (entry_pattern small)) (has_member (point_pattern small failure))
found means = feasible_of (lowering_is small small_is_lawful) small_is_lawful (lowering_valid small small_is_lawful (omega arith) (omega arith)) (relation_laws 3) means failure fails
