-- States of the machine beside configurations and settings: the invariant of both halves.
use Rattle.std.proofs.Common.{◌≡◌, ℕ, ◌+◌, ◌<◌, ◌≤◌, Bool, false, List, [], ◌∷◌, length, map, arith, ◌⊎◌, inl, inr}
use Rattle.std.specs.Prelude.{Some, slice_get, slice_index_or}
use Rattle.pushdown_rules.specs.RunValue.{Frame as SavedFrame}
use Rattle.boolean_programs.specs.declared.statement.Choice.{Choice}
use Rattle.boolean_programs.specs.Programs.{Procedure, Program, width}
use Rattle.boolean_programs.specs.declared.statement.Statement.TheVariants.{Call}
use Rattle.boolean_programs.specs.Lines.{Instruction, instruction_at}
use Rattle.boolean_machine.specs.Machine.{at_line, Frame, State}
use Rattle.boolean_machine.specs.Lawful.{IsPointOf}
use Rattle.setting_runs.specs.Relations.{Setting}
use Rattle.relation_weights.specs.declared.rel_map.Slot.{Slot}
use Rattle.lowering_laws.specs.Lowering.{variables, symbol_of, slot_of, first_local, local_slots, map_slot}
use Rattle.boolean_programs.specs.Structure.{return_slots}
use Rattle.lowering_laws.proofs.PlaceLemmas.{within_largest, get_map}
use Rattle.lowering_laws.proofs.NameLemmas.{Shows, slot_global, slot_local, below_or}

-- The top frame stands at the point of a symbol, in some procedure, and the setting shows its bits.
pub record Top (p : Program) (gs : List Bool) (f : Frame) (g : ℕ) (z : Setting) (procedure : ℕ) : Type 0 where
  pub point : IsPointOf p procedure f.point
  pub symbol : symbol_of p f.point ≡ Some g
  pub owner : Procedure
  pub found : slice_get p.procs procedure ≡ Some owner
  pub wide : length f.locals ≡ width owner
  pub shows : Shows p z gs f.locals

-- A frame that waits at a call of `callee`: the symbol is that of the line below the call, the saved setting has the
-- locals, and the map is the call's.
pub record Waiting {Map : Type 0} (p : Program) (slots : Map → ℕ → Slot) (callee : ℕ) (f : Frame) (g : ℕ) (m : SavedFrame Setting Map) (procedure : ℕ) : Type 0 where
  pub call : Instruction
  pub targets : List ℕ
  pub arguments : List Choice
  pub whole : f.point.failed ≡ false
  pub there : instruction_at p f.point.line ≡ Some call
  pub statement : call.statement ≡ Call targets callee arguments
  pub within : call.procedure ≡ procedure
  pub symbol : symbol_of p (at_line call.next) ≡ Some g
  pub owner : Procedure
  pub found : slice_get p.procs procedure ≡ Some owner
  pub wide : length f.locals ≡ width owner
  pub shows : (j : ℕ) → j < length f.locals → m.saved (first_local p + j) ≡ slice_index_or f.locals j false
  pub map : (v : ℕ) → v < variables p → slots m.map v ≡ map_slot p targets v

module _ {Map : Type 0} (p : Program) (slots : Map → ℕ → Slot) where
  -- the frames below one of a procedure
  abbrev pub Waits : ℕ → List Frame → List ℕ → List (SavedFrame Setting Map) → Type 0
  Waits callee [] [] [] = Unit {0}
  Waits callee [] [] (m ∷ ms) = ⊥
  Waits callee [] (g ∷ stack) ms = ⊥
  Waits callee (f ∷ fs) [] ms = ⊥
  Waits callee (f ∷ fs) (g ∷ stack) [] = ⊥
  Waits callee (f ∷ fs) (g ∷ stack) (m ∷ ms) = (procedure : ℕ) × Waiting p slots callee f g m procedure × Waits procedure fs stack ms

  -- the frames of a state, the stack of a configuration, the settings at the open calls and the present one
  abbrev pub MatchesFrames : List Bool → List Frame → List ℕ → List (SavedFrame Setting Map) → Setting → Type 0
  MatchesFrames gs [] [] ms z = (ms ≡ []) × ((k : ℕ) → k < length gs → z k ≡ slice_index_or gs k false)
  MatchesFrames gs [] (g ∷ stack) ms z = ⊥
  MatchesFrames gs (f ∷ fs) [] ms z = ⊥
  MatchesFrames gs (f ∷ fs) (g ∷ stack) ms z = (procedure : ℕ) × Top p gs f g z procedure × Waits procedure fs stack ms

  pub record Matches (state : State) (stack : List ℕ) (ms : List (SavedFrame Setting Map)) (z : Setting) : Type 0 where
    pub globals : length state.globals ≡ p.globals
    pub frames : MatchesFrames state.globals state.frames stack ms z

-- ---- names are within the variables

module _ (p : Program) (k : ℕ) (q : Procedure) (found : slice_get p.procs k ≡ Some q) where
  pub width_within : width q ≤ local_slots p
  width_within = within_largest (map width p.procs) k (width q) (get_map width p.procs k q found)

  pub returns_within : q.returns ≤ return_slots p
  returns_within = within_largest (map (λ (r : Procedure). r.returns) p.procs) k q.returns (get_map (λ (r : Procedure). r.returns) p.procs k q found)

  pub slot_within : (j : ℕ) → j < p.globals + width q → slot_of p j < variables p
  slot_within j h = by_case (below_or j p.globals)
    where
      by_case : ((j < p.globals) ⊎ (p.globals ≤ j)) → slot_of p j < variables p
      by_case (inl b) = let at = slot_global p j b in omega arith
      by_case (inr b) = let at = slot_local p j b in let w = width_within in omega arith
