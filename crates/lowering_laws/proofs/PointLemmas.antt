-- A symbol's number is the place of its point.
use Rattle.std.proofs.Common.{◌≡◌, ℕ, zero, suc, ◌+◌, ◌<◌, ◌≤◌, Bool, true, false, cond, List, [], ◌∷◌, ◌++◌, length, map, filter, refl, sym, ap, ◌∙◌, arith, nat_lt, ◌⊎◌, inl, inr}
use Rattle.std.specs.Prelude.{Some, slice_get, option_map}
use Rattle.std.proofs.lemmas.Bool.Decides.{nat_tests}
use Rattle.std.proofs.lemmas.Bool.{and_parts, and_from}
use Rattle.std.proofs.lemmas.List.{length-map}
use Rattle.boolean_programs.specs.Programs.{Program}
use Rattle.boolean_programs.specs.Lines.{Instruction, code, line_numbers}
use Rattle.boolean_programs.specs.declared.point.Point.{Point}
use Rattle.boolean_machine.specs.Machine.{at_line}
use Rattle.boolean_machine.specs.Lawful.{is_assert}
use Rattle.boolean_programs.specs.Structure.{rises, IsRead}
use Rattle.boolean_machine.proofs.CallerLemmas.{get_mapped}
use Rattle.boolean_machine.proofs.CallerLemmas.{place_once}
use Rattle.lowering_laws.specs.Lowering.{assert_lines, symbol_of, symbol_points, failure_at}

lt_from : (a c : ℕ) → nat_lt a c ≡ true → a < c
lt_from a c h = grind (arith, nat_tests)

lt_true : (a b : ℕ) → a < b → nat_lt a b ≡ true
lt_true a b h = grind (arith, nat_tests)

rises_from : (low low' : ℕ) (ns : List ℕ) → low ≤ low' → rises low' ns ≡ true → rises low ns ≡ true
rises_from low low' [] h r = refl
rises_from low low' (n ∷ ns) h r =
    let parts = and_parts (nat_lt low' n) (rises n ns) r in
    let small : low' < n = lt_from low' n parts.0 in
    and_from (nat_lt low n) (rises n ns) (lt_true low n (omega arith)) parts.1

-- lines that are left out let the others rise
rises_filtered : (test : Instruction → Bool) (low : ℕ) (is : List Instruction) → rises low (line_numbers is) ≡ true → rises low (line_numbers (filter test is)) ≡ true
rises_filtered test low [] r = refl
rises_filtered test low (i ∷ is) r =
    let parts = and_parts (nat_lt low i.line) (rises i.line (line_numbers is)) r in
    by_test (test i) parts.0 (rises_filtered test i.line is parts.1)
  where
    by_test : (b : Bool) → nat_lt low i.line ≡ true → rises i.line (line_numbers (filter test is)) ≡ true → rises low (line_numbers (cond b (i ∷ filter test is) (filter test is))) ≡ true
    by_test true first later = and_from (nat_lt low i.line) (rises i.line (line_numbers (filter test is))) first later
    by_test false first later = let small : low < i.line = lt_from low i.line first in rises_from low i.line (line_numbers (filter test is)) (omega arith) later

behind_or : {X : Type 0} (xs ys : List X) (m : ℕ) (x : X) → slice_get (xs ++ ys) m ≡ Some x → (slice_get xs m ≡ Some x) ⊎ ((j : ℕ) × (slice_get ys j ≡ Some x) × (m ≡ length xs + j))
behind_or [] ys m x e = inr (m, e, omega arith)
behind_or (y ∷ xs) ys zero x e = inl e
behind_or (y ∷ xs) ys (suc m) x e = by_part (behind_or xs ys m x e)
  where
    by_part : ((slice_get xs m ≡ Some x) ⊎ ((j : ℕ) × (slice_get ys j ≡ Some x) × (m ≡ length xs + j))) → (slice_get xs m ≡ Some x) ⊎ ((j : ℕ) × (slice_get ys j ≡ Some x) × (suc m ≡ suc (length xs) + j))
    by_part (inl h) = inl h
    by_part (inr h) = inr (h.0, h.1, let e' = h.2 in omega arith)

pub symbol_at : (p : Program) → IsRead p → (point : Point) (g : ℕ) → slice_get (symbol_points p) g ≡ Some point → symbol_of p point ≡ Some g
symbol_at p read point g e = by_part (behind_or (map at_line (line_numbers (code p))) (map failure_at (assert_lines p)) g point e)
  where
    by_part : ((slice_get (map at_line (line_numbers (code p))) g ≡ Some point) ⊎ ((j : ℕ) × (slice_get (map failure_at (assert_lines p)) j ≡ Some point) × (g ≡ length (map at_line (line_numbers (code p))) + j))) → symbol_of p point ≡ Some g
    by_part (inl h) =
        let at = get_mapped at_line (line_numbers (code p)) g point h in
        ap (symbol_of p) (sym at.2) ∙ place_once 0 (line_numbers (code p)) g at.0 read.rising at.1
    by_part (inr h) =
        let at = get_mapped failure_at (assert_lines p) h.0 point h.1 in
        let long : length (map at_line (line_numbers (code p))) ≡ length (code p) = length-map (line_numbers (code p)) at_line ∙ length-map (code p) (λ (i : Instruction). i.line) in
        let same = h.2 in
        ap (symbol_of p) (sym at.2)
        ∙ ap (option_map (λ k. length (code p) + k)) (place_once 0 (assert_lines p) h.0 at.0 (rises_filtered (λ (i : Instruction). is_assert i.statement) 0 (code p) read.rising) at.1)
        ∙ ap Some (let z : length (code p) + h.0 ≡ g = omega arith in z)
