-- Body lines one after the other.
use Rattle.std.proofs.Common.{◌≡◌, ℕ, suc, ◌<◌, List, [], ◌∷◌, ◌++◌, length, take, drop, reverse, map, get_or, sym, ap, ◌∙◌}
use Rattle.std.specs.Prelude.{Some, slice_get}
use Rattle.std.proofs.lemmas.Option.{get_or_from_slice_get}
use Rattle.std.proofs.lemmas.List.{reverse-append}
use Rattle.line_jumps.specs.Jumps.{others}
use Rattle.boolean_programs.specs.declared.program.BodyLine.{BodyLine}
use Rattle.boolean_programs.specs.declared.program.Proc.{Proc}
use Rattle.boolean_programs.specs.Programs.{procedure_of}
use Rattle.boolean_programs.specs.Lines.{first_line, other_line, instructions, code_from}
use Rattle.boolean_lowering.proofs.ListLemmas.{drop_at, take_at, first_left, others_left, get_below}

reverse_at : {X : Type 0} (xs : List X) (j : ℕ) (x : X) → slice_get xs j ≡ Some x → reverse (take (suc j) xs) ≡ x ∷ reverse (take j xs)
reverse_at xs j x e = ap (λ zs. reverse zs) (take_at xs j x e) ∙ reverse-append (take j xs) (x ∷ [])

module _ (body : List BodyLine) (j : ℕ) (l : BodyLine) (there : slice_get body j ≡ Some l) where
  others_at : others (reverse (take j body)) (drop j body) ≡ other_line (reverse (take j body)) l.statement (drop (suc j) body) ∷ others (reverse (take (suc j) body)) (drop (suc j) body)
  others_at =
      ap (others (reverse (take j body))) (drop_at body j l there)
      ∙ ap (λ above. other_line (reverse (take j body)) l.statement (drop (suc j) body) ∷ others above (drop (suc j) body)) (sym (reverse_at body j l there))

  module _ (jumps : List ℕ) (left : drop j jumps ≡ others (reverse (take j body)) (drop j body)) where
    jump_at : slice_get jumps j ≡ Some (other_line (reverse (take j body)) l.statement (drop (suc j) body))
    jump_at = first_left jumps (others (reverse (take (suc j) body)) (drop (suc j) body)) j _ (left ∙ others_at)

    -- there is a jump for each line
    pub jump_below : j < length jumps
    jump_below = get_below jumps j _ jump_at

    -- the jumps of the lines below
    pub jumps_left : drop (suc j) jumps ≡ others (reverse (take (suc j) body)) (drop (suc j) body)
    jumps_left = others_left jumps (others (reverse (take (suc j) body)) (drop (suc j) body)) j _ (left ∙ others_at)

    -- the line, and those below
    pub spots_left : (k n m : ℕ) → n ≡ first_line (drop (suc j) body) → m ≡ get_or jumps j 0
        → instructions k (reverse (take j body)) (drop j body) ≡ record { line = l.line; procedure = k; statement = l.statement; next = n; other = m } ∷ instructions k (reverse (take (suc j) body)) (drop (suc j) body)
    spots_left k n m next other =
        let here : get_or jumps j 0 ≡ other_line (reverse (take j body)) l.statement (drop (suc j) body) = get_or_from_slice_get jumps j _ 0 jump_at in
        ap (instructions k (reverse (take j body))) (drop_at body j l there)
        ∙ ap (λ above. record { line = l.line; procedure = k; statement = l.statement; next = first_line (drop (suc j) body); other = other_line (reverse (take j body)) l.statement (drop (suc j) body) } ∷ instructions k above (drop (suc j) body)) (sym (reverse_at body j l there))
        ∙ ap (λ n'. record { line = l.line; procedure = k; statement = l.statement; next = n'; other = other_line (reverse (take j body)) l.statement (drop (suc j) body) } ∷ instructions k (reverse (take (suc j) body)) (drop (suc j) body)) (sym next)
        ∙ ap (λ m'. record { line = l.line; procedure = k; statement = l.statement; next = n; other = m' } ∷ instructions k (reverse (take (suc j) body)) (drop (suc j) body)) (sym here ∙ sym other)

-- the lines of procedures from one on
pub code_left : (procs : List Proc) (k : ℕ) (q : Proc) → slice_get procs k ≡ Some q
    → code_from k (map procedure_of (drop k procs)) ≡ instructions k [] q.body ++ code_from (suc k) (map procedure_of (drop (suc k) procs))
code_left procs k q e = ap (λ (qs : List Proc). code_from k (map procedure_of qs)) (drop_at procs k q e)
