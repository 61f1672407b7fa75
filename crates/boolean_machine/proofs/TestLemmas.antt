-- The tests of lawful programs.
use Rattle.std.proofs.Common.{◌≡◌, ℕ, zero, suc, ◌+◌, ◌<◌, Bool, true, false, not, ◌&&◌, ◌||◌, nat_eq, nat_lt, List, [], ◌∷◌, length, refl, sym, ap, ◌∙◌, arith, ◌⊎◌, inl, inr}
use Rattle.std.specs.Prelude.{Option, None, Some, is_none, slice_get, option_map, cond, IsTrue}
use Rattle.std.specs.List.{list_all}
use Rattle.std.proofs.lemmas.Bool.Decides.{nat_tests}
use Rattle.std.proofs.lemmas.Bool.{eqb-true, eq-eqb, and_parts, cond-true, cond-false}
use Rattle.std.proofs.lemmas.Option.{same_Some}
use Rattle.std.proofs.lemmas.List.{nil_from_length}
use Rattle.truth_tables.specs.Formulas.{Formula, is_over}
use Rattle.boolean_programs.specs.declared.statement.Choice.{Choice}
use Rattle.boolean_programs.specs.Programs.{Procedure, Program, width}
use Rattle.boolean_programs.specs.declared.point.Point.{Point}
use Rattle.boolean_programs.specs.Lines.{Instruction, code, instruction_at, first_line}
use Rattle.boolean_programs.specs.Lists.{place_in, Each, StandOnce}
use Rattle.boolean_machine.specs.Machine.{at_line, Action, Jumps, Sets, Calls, Returns, action}
use Rattle.boolean_machine.specs.Lawful.{is_assert, IsPointOf, FitsCallee, IsLawfulAction, IsLawfulLine, IsLawful, is_point_of, are_below, are_values_over, fits_callee, is_lawful_action, is_lawful_line, begins_lawfully, is_lawful, stand_once}
use Rattle.boolean_programs.specs.Structure.{is_choice_over}

-- what a list passes, each element passes
pub each_passes : {X : Type 0} (test : X → Bool) (xs : List X) → list_all test xs ≡ true → Each (λ x. IsTrue (test x)) xs
each_passes test [] h k x e = cc
each_passes test (y ∷ xs) h zero x e = ap test (sym (same_Some y x e)) ∙ (and_parts (test y) (list_all test xs) h).0
each_passes test (y ∷ xs) h (suc k) x e = each_passes test xs (and_parts (test y) (list_all test xs) h).1 k x e

implies : (a b : Bool) → (not a || b) ≡ true → a ≡ true → b ≡ true
implies true b h e = h
implies false b h e = cc

either : (a b : Bool) → (a || b) ≡ true → (a ≡ true) ⊎ (b ≡ true)
either true b h = inl refl
either false b h = inr h

-- ---- numbers that stand once

same_None : {X : Type 0} (o : Option X) → is_none o ≡ true → o ≡ None
same_None None h = refl
same_None (Some x) h = cc

stands : (ns : List ℕ) (k n : ℕ) → slice_get ns k ≡ Some n → (j : ℕ) × (place_in ns n ≡ Some j)
stands [] k n e = cc
stands (m ∷ ns) zero n e = (0, cond-true (nat_eq m n) (Some 0) _ (eq-eqb m n (same_Some m n e)))
stands (m ∷ ns) (suc k) n e = by_test (nat_eq m n) (stands ns k n e)
  where
    by_test : (b : Bool) → ((j : ℕ) × (place_in ns n ≡ Some j)) → (j : ℕ) × (cond b (Some 0) (option_map (λ i. suc i) (place_in ns n)) ≡ Some j)
    by_test true there = (0, refl)
    by_test false there = (suc there.0, ap (option_map (λ i. suc i)) there.1)

pub once_passes : (ns : List ℕ) → stand_once ns ≡ true → StandOnce ns
once_passes [] h k n e = cc
once_passes (m ∷ ns) h zero n e = cond-true (nat_eq m n) (Some 0) _ (eq-eqb m n (same_Some m n e))
once_passes (m ∷ ns) h (suc k) n e =
    let parts = and_parts (is_none (place_in ns m)) (stand_once ns) h in
    cond-false (nat_eq m n) (Some 0) _ (differ (nat_eq m n) refl parts.0) ∙ ap (option_map (λ i. suc i)) (once_passes ns parts.1 k n e)
  where
    differ : (b : Bool) → nat_eq m n ≡ b → is_none (place_in ns m) ≡ true → b ≡ false
    differ true t none =
        let there = stands ns k n e in
        let both : None ≡ Some there.0 = sym (same_None (place_in ns m) none) ∙ ap (place_in ns) (eqb-true m n t) ∙ there.1 in
        cc
    differ false t none = refl

module _ (p : Program) where
  pub point_passes : (procedure : ℕ) (point : Point) → is_point_of p procedure point ≡ true → IsPointOf p procedure point
  point_passes procedure point h = by_line (instruction_at p point.line) refl h
    where
      by_line : (o : Option Instruction) → instruction_at p point.line ≡ o
          → (elim o [ None ↦ false | Some i ↦ nat_eq i.procedure procedure && (not point.failed || is_assert i.statement) ]) ≡ true → IsPointOf p procedure point
      by_line None e t = cc
      by_line (Some i) e t =
          let parts = and_parts (nat_eq i.procedure procedure) (not point.failed || is_assert i.statement) t in
          record { instruction = i; there = e; owner = eqb-true i.procedure procedure parts.0; asserts = implies point.failed (is_assert i.statement) parts.1 }

  below_passes : (n : ℕ) (targets : List ℕ) → are_below n targets ≡ true → Each (λ t. t < n) targets
  below_passes n targets h k t e = let small = each_passes (λ x. nat_lt x n) targets h k t e in lt_from t n small
    where
      lt_from : (a c : ℕ) → nat_lt a c ≡ true → a < c
      lt_from a c h = grind (arith, nat_tests)

  callee_passes : (targets : List ℕ) (callee : ℕ) (arguments : List Choice) → fits_callee p targets callee arguments ≡ true → FitsCallee p targets callee arguments
  callee_passes targets callee arguments h = by_procedure (slice_get p.procs callee) refl h
    where
      by_procedure : (o : Option Procedure) → slice_get p.procs callee ≡ o
          → (elim o [ None ↦ false | Some q ↦ is_point_of p callee (at_line (first_line q.body)) && nat_eq (length arguments) q.params && (nat_eq (length targets) 0 || nat_eq (length targets) q.returns) ]) ≡ true
          → FitsCallee p targets callee arguments
      by_procedure None e t = cc
      by_procedure (Some q) e t =
          let begins = at_line (first_line q.body) in
          let outer = and_parts (is_point_of p callee begins && nat_eq (length arguments) q.params) (nat_eq (length targets) 0 || nat_eq (length targets) q.returns) t in
          let inner = and_parts (is_point_of p callee begins) (nat_eq (length arguments) q.params) outer.0 in
          record {
            procedure = q;
            found = e;
            begins = point_passes callee begins inner.0;
            arguments_fit = eqb-true (length arguments) q.params inner.1;
            targets_fit = by_count (either (nat_eq (length targets) 0) (nat_eq (length targets) q.returns) outer.1);
          }
        where
          by_count : ((nat_eq (length targets) 0 ≡ true) ⊎ (nat_eq (length targets) q.returns ≡ true)) → (targets ≡ []) ⊎ (length targets ≡ q.returns)
          by_count (inl n) = inl (nil_from_length targets (eqb-true (length targets) 0 n))
          by_count (inr s) = inr (eqb-true (length targets) q.returns s)

  action_passes : (i : Instruction) (q : Procedure) (n : ℕ) (a : Action) → is_lawful_action p i q n a ≡ true → IsLawfulAction p i q n a
  action_passes i q n (Jumps ways) h = λ k w e.
      let passed = each_passes (λ (x : Formula ℕ × Point). is_over n x.0 && is_point_of p i.procedure x.1) ways h k w e in
      let parts = and_parts (is_over n w.0) (is_point_of p i.procedure w.1) passed in
      (parts.0, point_passes i.procedure w.1 parts.1)
  action_passes i q n (Sets targets values) h =
      let next = is_point_of p i.procedure (at_line i.next) && stand_once targets in
      let first = and_parts (nat_eq (length targets) (length values)) (are_below n targets && (are_values_over n values && next)) h in
      let second = and_parts (are_below n targets) (are_values_over n values && next) first.1 in
      let third = and_parts (are_values_over n values) next second.1 in
      (eqb-true (length targets) (length values) first.0, below_passes n targets second.0, each_passes (is_choice_over n) values third.0, point_passes i.procedure (at_line i.next) (and_parts (is_point_of p i.procedure (at_line i.next)) (stand_once targets) third.1).0, once_passes targets (and_parts (is_point_of p i.procedure (at_line i.next)) (stand_once targets) third.1).1)
  action_passes i q n (Calls targets callee arguments) h =
      let next = is_point_of p i.procedure (at_line i.next) && stand_once targets in
      let first = and_parts (fits_callee p targets callee arguments) (are_below n targets && (are_values_over n arguments && next)) h in
      let second = and_parts (are_below n targets) (are_values_over n arguments && next) first.1 in
      let third = and_parts (are_values_over n arguments) next second.1 in
      (callee_passes targets callee arguments first.0, below_passes n targets second.0, each_passes (is_choice_over n) arguments third.0, point_passes i.procedure (at_line i.next) (and_parts (is_point_of p i.procedure (at_line i.next)) (stand_once targets) third.1).0, once_passes targets (and_parts (is_point_of p i.procedure (at_line i.next)) (stand_once targets) third.1).1)
  action_passes i q n (Returns values) h =
      let parts = and_parts (nat_eq (length values) q.returns) (are_values_over n values) h in
      (eqb-true (length values) q.returns parts.0, each_passes (is_choice_over n) values parts.1)

  line_passes : (i : Instruction) → is_lawful_line p i ≡ true → IsLawfulLine p i
  line_passes i h = by_procedure (slice_get p.procs i.procedure) refl h
    where
      by_procedure : (o : Option Procedure) → slice_get p.procs i.procedure ≡ o → (elim o [ None ↦ false | Some q ↦ is_lawful_action p i q (p.globals + width q) (action p i) ]) ≡ true → IsLawfulLine p i
      by_procedure None e t = cc
      by_procedure (Some q) e t = record { owner = q; found = e; acts = action_passes i q (p.globals + width q) (action p i) t }

  -- a program that passes is lawful
  pub lawful_passes : is_lawful p ≡ true → IsLawful p
  lawful_passes h =
      let parts = and_parts (begins_lawfully p) (list_all (is_lawful_line p) (code p)) h in
      by_main (slice_get p.procs p.main) refl parts.0 (λ k i e. line_passes i (each_passes (is_lawful_line p) (code p) parts.1 k i e))
    where
      by_main : (o : Option Procedure) → slice_get p.procs p.main ≡ o → (elim o [ None ↦ false | Some q ↦ is_point_of p p.main (at_line (first_line q.body)) ]) ≡ true → Each (IsLawfulLine p) (code p) → IsLawful p
      by_main None e t lines = cc
      by_main (Some q) e t lines = record { main = q; found = e; begins = point_passes p.main (at_line (first_line q.body)) t; lines = lines }
