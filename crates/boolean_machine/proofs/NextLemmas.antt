-- The line below a body line is the next instruction.
use Rattle.std.proofs.Common.{◌≡◌, ℕ, zero, suc, ◌+◌, Bool, true, false, List, [], ◌∷◌, ◌++◌, length, refl, ap, ◌∙◌, subst, arith, ◌⊎◌, inl, inr}
use Rattle.std.specs.Prelude.{Some, slice_get, IsTrue}
use Rattle.std.proofs.lemmas.Option.{same_Some}
use Rattle.boolean_programs.specs.declared.program.BodyLine.{BodyLine}
use Rattle.boolean_programs.specs.Programs.{Procedure, Program}
use Rattle.boolean_programs.specs.Lines.{Instruction, instructions, code_from, code, first_line}
use Rattle.boolean_programs.specs.Lists.{Each}
use Rattle.boolean_programs.specs.Structure.{Block, nested, IsRead}
use Rattle.boolean_machine.proofs.ListLemmas.{get_front}
use Rattle.boolean_machine.proofs.BlockLemmas.{goes_on, Opened, Later, later, last}

abbrev pub Follows : List Instruction → ℕ → Instruction → Type 0
Follows is m i = (j : Instruction) × (slice_get is (suc m) ≡ Some j) × (j.line ≡ i.next)

first_below : (k : ℕ) (l : BodyLine) (ls above : List BodyLine) (blocks : List Block) → nested blocks ls ≡ true → (j : Instruction) × (slice_get (instructions k above ls) 0 ≡ Some j) × (j.line ≡ first_line ls)
first_below k l [] above blocks t = cc
first_below k l (m ∷ ls) above blocks t = (_, refl, refl)

below : (k : ℕ) (ls above : List BodyLine) (blocks : List Block) → nested blocks ls ≡ true → Opened above (length blocks) → (m : ℕ) (i : Instruction) → slice_get (instructions k above ls) m ≡ Some i → goes_on i.statement ≡ true
    → Follows (instructions k above ls) m i
below k [] above blocks t opened m i e g = cc
below k (l ∷ ls) above blocks t opened zero i e g =
    let same = same_Some _ i e in
    let more = later l l.statement above ls blocks (ap (λ (x : Instruction). goes_on x.statement) same ∙ g) t opened in
    let first = first_below k l ls (l ∷ above) more.0 more.1 in
    (first.0, first.1, first.2 ∙ ap (λ (x : Instruction). x.next) same)
below k (l ∷ ls) above blocks t opened (suc m) i e g = by_kind (goes_on l.statement) refl (λ more. below k ls (l ∷ above) more.0 more.1 more.2 m i e g)
  where
    by_kind : (b : Bool) → goes_on l.statement ≡ b → (Later l l.statement above ls → Follows (instructions k (l ∷ above) ls) m i) → Follows (instructions k (l ∷ above) ls) m i
    by_kind true h more = more (later l l.statement above ls blocks h t opened)
    by_kind false h more =
        let none : ls ≡ [] = last l l.statement ls blocks h t in
        let nothing : slice_get (instructions k (l ∷ above) []) m ≡ Some i = subst (λ (xs : List BodyLine). slice_get (instructions k (l ∷ above) xs) m ≡ Some i) none e in
        absurd (empty m i nothing)
      where
        empty : (j : ℕ) (i : Instruction) → slice_get (instructions k (l ∷ above) []) j ≡ Some i → ⊥
        empty j i h = cc

in_front : (is js : List Instruction) (m : ℕ) (i : Instruction) → Follows is m i → Follows (is ++ js) m i
in_front is js m i h = (h.0, get_front is js (suc m) h.0 h.1, h.2)

-- an element of two lists joined stands in the first, or so far behind it
behind_or : (xs ys : List Instruction) (m : ℕ) (i : Instruction) → slice_get (xs ++ ys) m ≡ Some i → (slice_get xs m ≡ Some i) ⊎ ((j : ℕ) × (slice_get ys j ≡ Some i) × (m ≡ length xs + j))
behind_or [] ys m i e = inr (m, e, omega arith)
behind_or (x ∷ xs) ys zero i e = inl e
behind_or (x ∷ xs) ys (suc m) i e = by_part (behind_or xs ys m i e)
  where
    by_part : ((slice_get xs m ≡ Some i) ⊎ ((j : ℕ) × (slice_get ys j ≡ Some i) × (m ≡ length xs + j))) → (slice_get xs m ≡ Some i) ⊎ ((j : ℕ) × (slice_get ys j ≡ Some i) × (suc m ≡ suc (length xs) + j))
    by_part (inl h) = inl h
    by_part (inr h) = inr (h.0, h.1, let e' = h.2 in omega arith)

get_behind : (xs ys : List Instruction) (j : ℕ) (i : Instruction) → slice_get ys j ≡ Some i → slice_get (xs ++ ys) (length xs + j) ≡ Some i
get_behind [] ys j i h = ap (slice_get ys) (let z : 0 + j ≡ j = omega arith in z) ∙ h
get_behind (x ∷ xs) ys j i h = ap (slice_get (x ∷ xs ++ ys)) (let z : suc (length xs) + j ≡ suc (length xs + j) = omega arith in z) ∙ get_behind xs ys j i h

code_below : (base : ℕ) (qs : List Procedure) → Each (λ (q : Procedure). IsTrue (nested [] q.body)) qs → (m : ℕ) (i : Instruction) → slice_get (code_from base qs) m ≡ Some i → goes_on i.statement ≡ true → Follows (code_from base qs) m i
code_below base [] blocks m i e g = cc
code_below base (q ∷ qs) blocks m i e g = by_part (behind_or (instructions base [] q.body) (code_from (suc base) qs) m i e) (λ j h. code_below (suc base) qs (λ n x d. blocks (suc n) x d) j i h g)
  where
    by_part : ((slice_get (instructions base [] q.body) m ≡ Some i) ⊎ ((j : ℕ) × (slice_get (code_from (suc base) qs) j ≡ Some i) × (m ≡ length (instructions base [] q.body) + j)))
        → ((j : ℕ) → slice_get (code_from (suc base) qs) j ≡ Some i → Follows (code_from (suc base) qs) j i) → Follows (code_from base (q ∷ qs)) m i
    by_part (inl h) more = in_front (instructions base [] q.body) (code_from (suc base) qs) m i (below base q.body [] [] (blocks 0 q refl) (λ d h. absurd (omega arith)) m i h g)
    by_part (inr h) more =
        let later = more h.0 h.1 in
        let at : suc m ≡ length (instructions base [] q.body) + suc h.0 = let e' = h.2 in omega arith in
        (later.0, ap (slice_get (code_from base (q ∷ qs))) at ∙ get_behind (instructions base [] q.body) (code_from (suc base) qs) (suc h.0) later.0 later.1, later.2)

-- the instruction of the line below is the next one
pub next_follows : (p : Program) → IsRead p → (m : ℕ) (i : Instruction) → slice_get (code p) m ≡ Some i → goes_on i.statement ≡ true → Follows (code p) m i
next_follows p read m i e g = code_below 0 p.procs read.blocks m i e g
