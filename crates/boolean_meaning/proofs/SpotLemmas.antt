-- Where the line of a number stands.
use Rattle.std.proofs.Common.{◌≡◌, ℕ, suc, ◌+◌, Bool, true, false, List, [], ◌∷◌, ◌++◌, take, drop, reverse, map, nat_eq, refl, sym, ap, ◌∙◌, arith}
use Rattle.std.specs.Prelude.{Option, None, Some, slice_get, option_map}
use Rattle.std.proofs.lemmas.Bool.{cond-true, cond-false}
use Rattle.boolean_programs.specs.declared.program.BodyLine.{BodyLine}
use Rattle.boolean_programs.specs.declared.program.Proc.{Proc}
use Rattle.boolean_programs.specs.Lists.{place_in}
use Rattle.boolean_programs.specs.Programs.{Program, procedure_of}
use Rattle.boolean_programs.specs.Lines.{Instruction, line_numbers, instructions, first_line, other_line, code_from, code, instruction_at}
use Rattle.boolean_programs.specs.Structure.{IsRead}
use Rattle.boolean_meaning.specs.declared.lines.Spot.{Spot}
use Rattle.boolean_meaning.specs.private.Spots.{instruction_of, found_in}
use Rattle.boolean_meaning.specs.private.Outcomes.{IsSpotOf}
use Rattle.boolean_meaning.proofs.PlaceLemmas.{drop_at, reverse_at}

abbrev at_place : List Instruction → Option ℕ → Option Instruction
at_place is o = elim o [ None ↦ None | Some k ↦ slice_get is k ]

pub found_here : (i : Instruction) (is : List Instruction) (n : ℕ) → nat_eq i.line n ≡ true → found_in (i ∷ is) n ≡ Some i
found_here i is n e = ap (at_place (i ∷ is)) (cond-true (nat_eq i.line n) (Some 0) _ e)

pub found_later : (i : Instruction) (is : List Instruction) (n : ℕ) → nat_eq i.line n ≡ false → found_in (i ∷ is) n ≡ found_in is n
found_later i is n e = ap (at_place (i ∷ is)) (cond-false (nat_eq i.line n) (Some 0) _ e) ∙ by_place (place_in (line_numbers is) n)
  where
    by_place : (o : Option ℕ) → at_place (i ∷ is) (option_map (λ k. suc k) o) ≡ at_place is o
    by_place None = refl
    by_place (Some k) = refl

pub found_front : (is js : List Instruction) (n : ℕ) (i : Instruction) → found_in is n ≡ Some i → found_in (is ++ js) n ≡ Some i
found_front [] js n i e = cc
found_front (h ∷ is) js n i e = by_test (nat_eq h.line n) refl (found_front is js n i)
  where
    by_test : (b : Bool) → nat_eq h.line n ≡ b → (found_in is n ≡ Some i → found_in (is ++ js) n ≡ Some i) → found_in (h ∷ is ++ js) n ≡ Some i
    by_test true t more = found_here h (is ++ js) n t ∙ sym (found_here h is n t) ∙ e
    by_test false t more = found_later h (is ++ js) n t ∙ more (sym (found_later h is n t) ∙ e)

pub found_back : (is js : List Instruction) (n : ℕ) → found_in is n ≡ None → found_in (is ++ js) n ≡ found_in js n
found_back [] js n e = refl
found_back (h ∷ is) js n e = by_test (nat_eq h.line n) refl (found_back is js n)
  where
    by_test : (b : Bool) → nat_eq h.line n ≡ b → (found_in is n ≡ None → found_in (is ++ js) n ≡ found_in js n) → found_in (h ∷ is ++ js) n ≡ found_in js n
    by_test true t more = let there = sym (found_here h is n t) ∙ e in cc
    by_test false t more = found_later h (is ++ js) n t ∙ more (sym (found_later h is n t) ∙ e)

-- the instructions of a body from a place on
abbrev pub from_place : ℕ → List BodyLine → ℕ → List Instruction
from_place k body j = instructions k (reverse (take j body)) (drop j body)

abbrev pub instruction_in : ℕ → List BodyLine → ℕ → BodyLine → Instruction
instruction_in k body j l = record {
  line = l.line;
  procedure = k;
  statement = l.statement;
  next = first_line (drop (suc j) body);
  other = other_line (reverse (take j body)) l.statement (drop (suc j) body);
}

pub from_more : (k : ℕ) (body : List BodyLine) (j : ℕ) (l : BodyLine) → slice_get body j ≡ Some l
    → from_place k body j ≡ instruction_in k body j l ∷ from_place k body (suc j)
from_more k body j l e =
    ap (instructions k (reverse (take j body))) (drop_at body j l e)
    ∙ ap (λ above. instruction_in k body j l ∷ instructions k above (drop (suc j) body)) (sym (reverse_at body j l e))

pub spot_later : (k n : ℕ) (body : List BodyLine) (j : ℕ) (l : BodyLine) → slice_get body j ≡ Some l → nat_eq l.line n ≡ false
    → found_in (from_place k body j) n ≡ found_in (from_place k body (suc j)) n
spot_later k n body j l e t = ap (λ is. found_in is n) (from_more k body j l e) ∙ found_later (instruction_in k body j l) (from_place k body (suc j)) n t

-- ---- the code of procedures, one after the other

pub code_more : (procs : List Proc) (k : ℕ) (q : Proc) → slice_get procs k ≡ Some q
    → code_from k (map procedure_of (drop k procs)) ≡ instructions k [] q.body ++ code_from (suc k) (map procedure_of (drop (suc k) procs))
code_more procs k q e = ap (λ (qs : List Proc). code_from k (map procedure_of qs)) (drop_at procs k q e)

pub find_here : (procs : List Proc) (k : ℕ) (q : Proc) (n : ℕ) (i : Instruction) → slice_get procs k ≡ Some q
    → found_in (instructions k [] q.body) n ≡ Some i → found_in (code_from k (map procedure_of (drop k procs))) n ≡ Some i
find_here procs k q n i e h =
    ap (λ is. found_in is n) (code_more procs k q e) ∙ found_front (instructions k [] q.body) (code_from (suc k) (map procedure_of (drop (suc k) procs))) n i h

pub find_later : (procs : List Proc) (k : ℕ) (q : Proc) (n : ℕ) → slice_get procs k ≡ Some q
    → found_in (instructions k [] q.body) n ≡ None → found_in (code_from k (map procedure_of (drop k procs))) n ≡ found_in (code_from (k + 1) (map procedure_of (drop (k + 1) procs))) n
find_later procs k q n e h =
    ap (λ is. found_in is n) (code_more procs k q e) ∙ found_back (instructions k [] q.body) (code_from (suc k) (map procedure_of (drop (suc k) procs))) n h
    ∙ ap (λ j. found_in (code_from j (map procedure_of (drop j procs))) n) (let f : suc k ≡ k + 1 = omega arith in f)

pub found_index : (is : List Instruction) (o : Option ℕ) (i : Instruction) → at_place is o ≡ Some i → (k : ℕ) × (slice_get is k ≡ Some i)
found_index is None i e = cc
found_index is (Some k) i e = (k, e)

-- the spot of a line
pub spot_is : (p : Program) → IsRead p → (n : ℕ) (spot : Spot) → instruction_at p n ≡ Some (instruction_of spot)
    → slice_get p.procs spot.procedure ≡ Some (procedure_of spot.owner.now) → IsSpotOf p n spot
spot_is p read n spot there owner =
    let index = found_index (code p) (place_in (line_numbers (code p)) n) (instruction_of spot) there in
    let narrow = read.narrow spot.procedure (procedure_of spot.owner.now) owner in
    record { there = there; owner = owner; fits = read.lines index.0 (instruction_of spot) index.1; small = omega arith }
