-- The code of a program and the body lines of its procedures.
use Rattle.std.proofs.Common.{◌≡◌, ◌⊎◌, inl, inr, ℕ, zero, suc, ◌+◌, ◌<◌, Bool, true, false, List, [], ◌∷◌, map, None, Some, Option, refl, sym, ap, ◌∙◌, arith}
use Rattle.std.specs.Prelude.{slice_get, option_map, nat_eq}
use Rattle.std.proofs.lemmas.Bool.{eq-eqb, eqb-true, cond-true, cond-false}
use Rattle.std.proofs.lemmas.Option.{same_Some}
use Rattle.boolean_programs.specs.declared.program.Proc.{Proc}
use Rattle.boolean_programs.specs.declared.program.BodyLine.{BodyLine}
use Rattle.boolean_programs.specs.Programs.{Program, procedure_of}
use Rattle.boolean_programs.specs.Lines.{Instruction, instructions, code_from, code, line_numbers, instruction_at}
use Rattle.boolean_programs.specs.Lists.{place_in}
use Rattle.program_laws.proofs.ListLemmas.{get_front, get_back, get_joined, get_map}
use Rattle.program_laws.proofs.BodyLemmas.{RisesTo}

-- ---- from an instruction to its body line

in_body : (k : ℕ) (above ls : List BodyLine) (m : ℕ) (i : Instruction) → slice_get (instructions k above ls) m ≡ Some i → (l : BodyLine) × (slice_get ls m ≡ Some l) × (i.procedure ≡ k) × (i.statement ≡ l.statement)
in_body k above [] m i e = cc
in_body k above (x ∷ ls) zero i e = (x, refl, ap (λ (j : Instruction). j.procedure) (sym (same_Some _ i e)), ap (λ (j : Instruction). j.statement) (sym (same_Some _ i e)))
in_body k above (x ∷ ls) (suc m) i e = in_body k (x ∷ above) ls m i e

pub record IsOf (base : ℕ) (qs : List Proc) (i : Instruction) : Type 0 where
  pub place : ℕ
  pub owner : Proc
  pub found : slice_get qs place ≡ Some owner
  pub number : i.procedure ≡ base + place
  pub index : ℕ
  pub body_line : BodyLine
  pub there : slice_get owner.body index ≡ Some body_line
  pub statement : i.statement ≡ body_line.statement

pub in_code : (base : ℕ) (qs : List Proc) (m : ℕ) (i : Instruction) → slice_get (code_from base (map procedure_of qs)) m ≡ Some i → IsOf base qs i
in_code base [] m i e = cc
in_code base (q ∷ qs) m i e = by_part (get_joined (instructions base [] q.body) (code_from (suc base) (map procedure_of qs)) m i e) (λ j h. in_code (suc base) qs j i h)
  where
    by_part : ((slice_get (instructions base [] q.body) m ≡ Some i) ⊎ ((j : ℕ) × (slice_get (code_from (suc base) (map procedure_of qs)) j ≡ Some i))) → ((j : ℕ) → slice_get (code_from (suc base) (map procedure_of qs)) j ≡ Some i → IsOf (suc base) qs i) → IsOf base (q ∷ qs) i
    by_part (inl h) more =
        let l = in_body base [] q.body m i h in
        record { place = 0; owner = q; found = refl; number = let e = l.2 in omega arith; index = m; body_line = l.0; there = l.1; statement = l.3 }
    by_part (inr h) more =
        let later = more h.0 h.1 in
        record { place = suc later.place; owner = later.owner; found = later.found; number = let e = later.number in omega arith; index = later.index; body_line = later.body_line; there = later.there; statement = later.statement }

-- ---- from a body line to its instruction

of_body : (k : ℕ) (above ls : List BodyLine) (m : ℕ) (l : BodyLine) → slice_get ls m ≡ Some l → (i : Instruction) × (slice_get (instructions k above ls) m ≡ Some i) × (i.line ≡ l.line) × (i.procedure ≡ k) × (i.statement ≡ l.statement)
of_body k above [] m l e = cc
of_body k above (x ∷ ls) zero l e = (_, refl, ap (λ (y : BodyLine). y.line) (same_Some x l e), refl, ap (λ (y : BodyLine). y.statement) (same_Some x l e))
of_body k above (x ∷ ls) (suc m) l e = of_body k (x ∷ above) ls m l e

pub of_code : (base : ℕ) (qs : List Proc) (k : ℕ) (q : Proc) (j : ℕ) (l : BodyLine) → slice_get qs k ≡ Some q → slice_get q.body j ≡ Some l
    → (m : ℕ) × (i : Instruction) × (slice_get (code_from base (map procedure_of qs)) m ≡ Some i) × (i.line ≡ l.line) × (i.procedure ≡ base + k) × (i.statement ≡ l.statement)
of_code base [] k q j l e d = cc
of_code base (r ∷ qs) zero q j l e d =
    let same : r ≡ q = same_Some r q e in
    let there : slice_get r.body j ≡ Some l = ap (λ (x : Proc). slice_get x.body j) same ∙ d in
    let i = of_body base [] r.body j l there in
    (j, i.0, get_front (instructions base [] r.body) (code_from (suc base) (map procedure_of qs)) j i.0 i.1, i.2, let e = i.3 in omega arith, i.4)
of_code base (r ∷ qs) (suc k) q j l e d =
    let later = of_code (suc base) qs k q j l e d in
    let back = get_back (instructions base [] r.body) (code_from (suc base) (map procedure_of qs)) later.0 later.1 later.2 in
    (back.0, later.1, back.1, later.3, let e = later.4 in omega arith, later.5)

-- ---- an instruction by its number

above_low : (low high n : ℕ) (ns : List ℕ) (m : ℕ) → RisesTo low ns high → slice_get ns m ≡ Some n → low < n
above_low low high n [] m r e = cc
above_low low high n (k ∷ ns) zero r e = let same : k ≡ n = same_Some k n e in let h = r.0 in omega arith
above_low low high n (k ∷ ns) (suc m) r e = let more = above_low k high n ns m r.1 e in let h = r.0 in omega arith

place_of : (low high : ℕ) (ns : List ℕ) (m n : ℕ) → RisesTo low ns high → slice_get ns m ≡ Some n → place_in ns n ≡ Some m
place_of low high [] m n r e = cc
place_of low high (k ∷ ns) zero n r e = cond-true (nat_eq k n) (Some 0) _ (eq-eqb k n (same_Some k n e))
place_of low high (k ∷ ns) (suc m) n r e =
    cond-false (nat_eq k n) (Some 0) _ (differ (nat_eq k n) refl) ∙ ap (option_map (λ j. suc j)) (place_of k high ns m n r.1 e)
  where
    differ : (b : Bool) → nat_eq k n ≡ b → b ≡ false
    differ false t = refl
    differ true t =
        let same : k ≡ n = eqb-true k n t in
        let more = above_low k high n ns m r.1 e in
        absurd (omega arith)

pub at_number : (p : Program) (high m : ℕ) (i : Instruction) → RisesTo 0 (line_numbers (code p)) high → slice_get (code p) m ≡ Some i → instruction_at p i.line ≡ Some i
at_number p high m i r e =
    let at_place : Option ℕ → Option Instruction = λ o. elim o [ None ↦ None | Some k ↦ slice_get (code p) k ] in
    ap at_place (place_of 0 high (line_numbers (code p)) m i.line r (get_map (λ (x : Instruction). x.line) (code p) m i e)) ∙ e
