-- What the making of a lowering may rely on: planned rules are over the lowering's symbols and variables.
use Rattle.std.specs.Prelude.{◌≡◌, ◌↔◌, ℕ, ◌+◌, ◌<◌, ◌≤◌, Bool, IsTrue, List, [], ◌∷◌, length, IfSome, IsSome}
use Rattle.truth_tables.specs.Formulas.{is_over}
use Rattle.pushdown_rules.specs.declared.rule.Rule.{Rule}
use Rattle.boolean_programs.specs.Programs.{Procedure, Program, width}
use Rattle.boolean_programs.specs.Lists.{Each, StandOnce}
use Rattle.boolean_programs.specs.Structure.{IsValueOver}
use Rattle.setting_runs.specs.Relations.{Setting}
use Rattle.relation_weights.specs.declared.rel_map.Slot.{Slot}
use Rattle.relation_weights.specs.declared.rel_map.Slot.TheVariants.{Caller, Callee}
use Rattle.lowering_laws.specs.Lowering.{Effect, Assumes, Assigns, Planned, IsLowered, first_local, variables, symbols}

-- an effect over n variables, whose targets differ
abbrev pub IsEffectOver : ℕ → Effect → Type 0
IsEffectOver n (Assumes e) = IsTrue (is_over n e)
IsEffectOver n (Assigns targets values) = (length targets ≡ length values) × Each (λ t. t < n) targets × Each (IsValueOver n) values × StandOnce targets

-- a slot of a map over n variables
abbrev pub IsSlotOver : ℕ → Slot → Type 0
IsSlotOver n Caller = Unit {0}
IsSlotOver n (Callee u) = u < n

-- a planned rule over the lowering's symbols and variables
pub record IsWithin (p : Program) (t : Planned) : Type 0 where
  pub head : t.head < symbols p
  pub right : Each (λ g. g < symbols p) t.right
  pub short : length t.right ≤ 2
  pub pushes : IsSome t.map ↔ (length t.right ≡ 2)
  pub effect : IsEffectOver (variables p) t.effect
  pub slots : IfSome t.map (λ h. (v : ℕ) → v < variables p → IsSlotOver (variables p) (h v))

-- the globals, the greatest number of returned values, and the names of a procedure are at most n together
abbrev pub IsNarrow : ℕ → Program → Type 0
IsNarrow n p = Each (λ (q : Procedure). first_local p + width q ≤ n) p.procs

-- rules as they were planned, one by one
abbrev pub AreLowered : {S W Map : Type 0} → ℕ → (W → Setting → Setting → Bool) → (Map → ℕ → Slot) → List (Rule S W Map) → List Planned → Type 0
AreLowered n relates slots [] [] = Unit {0}
AreLowered n relates slots [] (t ∷ ts) = ⊥
AreLowered n relates slots (r ∷ rs) [] = ⊥
AreLowered n relates slots (r ∷ rs) (t ∷ ts) = IsLowered n relates slots r t × AreLowered n relates slots rs ts
