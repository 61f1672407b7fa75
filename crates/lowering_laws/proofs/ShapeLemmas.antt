-- The heads of planned rules.
use Rattle.std.proofs.Common.{◌≡◌, ℕ, zero, suc, [], ◌∷◌, sym, ap}
use Rattle.std.specs.Prelude.{Some, slice_get}
use Rattle.std.proofs.lemmas.Option.{same_Some}
use Rattle.boolean_programs.specs.Programs.{Program}
use Rattle.boolean_programs.specs.Lines.{Instruction}
use Rattle.boolean_machine.specs.Machine.{Action, Jumps, Sets, Calls, Returns}
use Rattle.lowering_laws.specs.Lowering.{Planned, line_rules, jump_rule}
use Rattle.lowering_laws.proofs.PlaceLemmas.{get_mapped}

-- the rule of a list with one rule
pub alone : {X : Type 0} (x : X) (l : ℕ) (y : X) → slice_get (x ∷ []) l ≡ Some y → x ≡ y
alone x zero y e = same_Some x y e
alone x (suc l) y e = cc

pub head_is : (p : Program) (k : ℕ) (i : Instruction) (a : Action) (l : ℕ) (t : Planned) → slice_get (line_rules p k i a) l ≡ Some t → t.head ≡ k
head_is p k i (Jumps ways) l t e =
    let by = get_mapped (jump_rule p k) ways l t e in ap (λ (x : Planned). x.head) (sym by.2)
head_is p k i (Sets targets values) l t e = ap (λ (x : Planned). x.head) (sym (alone _ l t e))
head_is p k i (Calls targets callee arguments) l t e = ap (λ (x : Planned). x.head) (sym (alone _ l t e))
head_is p k i (Returns values) l t e = ap (λ (x : Planned). x.head) (sym (alone _ l t e))
