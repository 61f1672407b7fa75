-- Targets of an assignment as the semiring of relations takes them.
use Rattle.std.proofs.Common.{◌≡◌, ℕ, suc, ◌<◌, Bool, true, false, cond, List, [], ◌∷◌, refl, sym, ap, ◌∙◌, arith}
use Rattle.std.specs.Prelude.{Option, None, Some, slice_get, option_map, nat_eq}
use Rattle.std.specs.List.{list_any}
use Rattle.std.proofs.lemmas.Bool.{eqb-true, eq-eqb, or_from, cond-true}
use Rattle.std.proofs.lemmas.Option.{same_Some}
use Rattle.truth_tables.specs.Formulas.{Formula}
use Rattle.diagram_ops.specs.Quantifying.{is_listed}
use Rattle.relation_weights.specs.Actions.{AreTargets, IsValueOver as IsTargetOver}
use Rattle.boolean_programs.specs.Lists.{Each, StandOnce, place_in}
use Rattle.boolean_programs.specs.Structure.{IsValueOver}
use Rattle.lowering_laws.specs.Lowering.{Assigns}
use Rattle.lowering_laws.specs.Plans.{IsEffectOver}
use Rattle.lowering_laws.specs.Weights.{choice_of, targets_of, values_of}

none_listed : (ns : List ℕ) (m : ℕ) → ((j : ℕ) → slice_get ns j ≡ Some m → ⊥) → list_any (λ v. nat_eq v m) ns ≡ false
none_listed [] m differs = refl
none_listed (n ∷ ns) m differs = or_from (nat_eq n m) (list_any (λ v. nat_eq v m) ns) (by_test (nat_eq n m) refl) (none_listed ns m (λ j e. differs (suc j) e))
  where
    by_test : (b : Bool) → nat_eq n m ≡ b → nat_eq n m ≡ false
    by_test true e = absurd (differs 0 (ap Some (eqb-true n m e)))
    by_test false e = e

-- the first of numbers that stand once is none of the others
first_once : (m : ℕ) (ns : List ℕ) → StandOnce (m ∷ ns) → is_listed ns m ≡ false
first_once m ns once = none_listed ns m (λ j e.
    let at : place_in (m ∷ ns) m ≡ Some (suc j) = once (suc j) m e in
    let here : place_in (m ∷ ns) m ≡ Some 0 = cond-true (nat_eq m m) (Some 0) _ (eq-eqb m m refl) in
    let same : 0 ≡ suc j = same_Some 0 (suc j) (sym here ∙ at) in
    absurd (omega arith))

-- and the others stand once
later_once : (m : ℕ) (ns : List ℕ) → StandOnce (m ∷ ns) → StandOnce ns
later_once m ns once = λ k n e. by_test (nat_eq m n) (place_in ns n) k (once (suc k) n e)
  where
    by_place : (o : Option ℕ) (k : ℕ) → option_map (λ j. suc j) o ≡ Some (suc k) → o ≡ Some k
    by_place None k e = cc
    by_place (Some j) k e = let same : suc j ≡ suc k = same_Some (suc j) (suc k) e in ap Some (let f : j ≡ k = omega arith in f)

    by_test : (b : Bool) (o : Option ℕ) (k : ℕ) → cond b (Some 0) (option_map (λ j. suc j) o) ≡ Some (suc k) → o ≡ Some k
    by_test true o k e = let same : 0 ≡ suc k = same_Some 0 (suc k) e in absurd (omega arith)
    by_test false o k e = by_place o k e

target_over : (n : ℕ) (v : Option (Formula ℕ)) → IsValueOver n (choice_of v) → IsTargetOver n v
target_over n None over = tt
target_over n (Some f) over = over

targets_over : (n : ℕ) (ts : List (ℕ × Option (Formula ℕ))) → Each (λ t. t < n) (targets_of ts) → Each (IsValueOver n) (values_of ts) → StandOnce (targets_of ts) → AreTargets n ts
targets_over n [] below over once = tt
targets_over n (t ∷ ts) below over once = (
  below 0 t.0 refl,
  target_over n t.1 (over 0 (choice_of t.1) refl),
  first_once t.0 (targets_of ts) once,
  targets_over n ts (λ k x e. below (suc k) x e) (λ k x e. over (suc k) x e) (later_once t.0 (targets_of ts) once),
)

-- an effect over n variables has targets that the semiring takes
pub targets_are : (n : ℕ) (ts : List (ℕ × Option (Formula ℕ))) → IsEffectOver n (Assigns (targets_of ts) (values_of ts)) → AreTargets n ts
targets_are n ts over = targets_over n ts over.1 over.2 over.3
