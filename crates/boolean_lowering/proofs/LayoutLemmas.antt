-- The variables of a program, as the code keeps them.
use Rattle.std.proofs.Common.{◌≡◌, ℕ, suc, ◌+◌, ◌≤◌, max, List, drop, map, ap, ap₂, ◌∙◌, arith, nat_lt, if◌then◌else◌}
use Rattle.std.specs.Prelude.{Some, slice_get}
use Rattle.wpds_base.specs.Limits.{most_related}
use Rattle.boolean_programs.specs.declared.program.Proc.{Proc}
use Rattle.boolean_programs.specs.Programs.{Procedure, Program, procedure_of, width}
use Rattle.boolean_programs.specs.Lists.{Each}
use Rattle.boolean_programs.specs.Structure.{largest, IsRead}
use Rattle.boolean_machine.proofs.CallerLemmas.{get_map}
use Rattle.lowering_laws.specs.Lowering.{slot_of, variables, first_local}
use Rattle.lowering_laws.specs.Plans.{IsNarrow}
use Rattle.boolean_lowering.specs.declared.layout.Layout.{Layout}
use Rattle.boolean_lowering.specs.private.Layouts.{variables_in, slot_in, IsLayout}
use Rattle.boolean_lowering.proofs.ListLemmas.{drop_at}

max_joined : (m a b : ℕ) → max m (max a b) ≡ max (max m a) b
max_joined m a b = omega arith

-- the greatest of the procedures from one on
pub largest_left : (f : Procedure → ℕ) (procs : List Proc) (k : ℕ) (q : Proc) (all most : ℕ) → slice_get procs k ≡ Some q
    → all ≡ max most (largest (map f (map procedure_of (drop k procs)))) → all ≡ max (max most (f (procedure_of q))) (largest (map f (map procedure_of (drop (suc k) procs))))
largest_left f procs k q all most e is =
    is ∙ ap (λ (qs : List Proc). max most (largest (map f (map procedure_of qs)))) (drop_at procs k q e) ∙ max_joined most (f (procedure_of q)) (largest (map f (map procedure_of (drop (suc k) procs))))

-- a procedure has few names
pub few_names : (procs : List Proc) (k : ℕ) (q : Proc) → Each (λ (r : Procedure). width r ≤ most_related) (map procedure_of procs) → slice_get procs k ≡ Some q → width (procedure_of q) ≤ most_related
few_names procs k q few e = few k (procedure_of q) (get_map procedure_of procs k q e)

-- a program that is read has few variables
pub few_before : (p : Program) → IsRead p → first_local p ≤ most_related
few_before p read = let narrow = read.narrow p.main read.main read.found in omega arith

pub each_narrow : (p : Program) → IsRead p → IsNarrow most_related p
each_narrow p read = read.narrow

pub each_few : (p : Program) → IsRead p → Each (λ (q : Procedure). width q ≤ most_related) p.procs
each_few p read = λ k q e. let narrow = read.narrow k q e in omega arith

-- the slots are those of the program
pub slots_same : (p : Program) (l : Layout) → IsLayout p l → slot_in l ≡ slot_of p
slots_same p l is =
    let slot : ℕ → ℕ → ℕ → ℕ = λ g r k. if nat_lt k g then k else k + r in
    ap₂ slot is.globals is.returns

pub variables_same : (p : Program) (l : Layout) → IsLayout p l → variables_in l ≡ variables p
variables_same p l is = let g = is.globals in let r = is.returns in let n = is.locals in omega arith
