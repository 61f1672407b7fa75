-- The widths of the procedures of body lines.
use Rattle.std.proofs.Common.{◌≡◌, ℕ, zero, suc, ◌+◌, ◌≤◌, List, [], ◌∷◌, ◌++◌, length, map, drop, replicate, refl, sym, ap, ap₂, ◌∙◌, append_assoc, arith}
use Rattle.std.specs.Prelude.{Some, slice_get, option_map, unwrap_or}
use Rattle.std.proofs.lemmas.Option.{slice_get-map}
use Rattle.std.proofs.lemmas.List.{map-append}
use Rattle.wpds_base.specs.Limits.{most_related}
use Rattle.boolean_programs.specs.declared.program.BodyLine.{BodyLine}
use Rattle.boolean_programs.specs.declared.program.Proc.{Proc}
use Rattle.boolean_programs.specs.Programs.{Program, procedure_of, width}
use Rattle.boolean_programs.specs.Lines.{instructions, code_from}
use Rattle.boolean_programs.specs.Structure.{IsRead}
use Rattle.boolean_meaning.specs.HeldStates.{width_of}
use Rattle.boolean_lowering.proofs.CallerLemmas.{code_left}
use Rattle.program_traces.specs.private.Readers.{line_width}

pub replicate_next : {X : Type 0} (n : ℕ) (x : X) → replicate (n + 1) x ≡ replicate n x ++ x ∷ []
replicate_next n x = ap (λ k. replicate k x) (let e : n + 1 ≡ suc n = omega arith in e) ∙ last n x
  where
    last : {X : Type 0} (n : ℕ) (x : X) → replicate (suc n) x ≡ replicate n x ++ x ∷ []
    last zero x = refl
    last (suc n) x = ap (λ xs. x ∷ xs) (last n x)

body_widths : (p : Program) (k : ℕ) (above body : List BodyLine) → map (line_width p) (instructions k above body) ≡ replicate (length body) (width_of p k)
body_widths p k above [] = refl
body_widths p k above (l ∷ ls) = ap (λ ws. width_of p k ∷ ws) (body_widths p k (l ∷ above) ls)

module _ (p : Program) (procs : List Proc) (are : p.procs ≡ map procedure_of procs) (k : ℕ) (q : Proc) (there : slice_get procs k ≡ Some q) where
  pub procedure_at : slice_get p.procs k ≡ Some (procedure_of q)
  procedure_at = ap (λ ps. slice_get ps k) are ∙ slice_get-map procedure_of procs k ∙ ap (option_map procedure_of) there

  width_is : width_of p k ≡ width (procedure_of q)
  width_is = ap (λ o. unwrap_or (option_map width o) 0) procedure_at

  pub widths_next : (widths more : List ℕ) → more ≡ widths ++ replicate (length q.body) (width (procedure_of q))
      → more ++ map (line_width p) (code_from (k + 1) (map procedure_of (drop (k + 1) procs))) ≡ widths ++ map (line_width p) (code_from k (map procedure_of (drop k procs)))
  widths_next widths more e =
      let next : k + 1 ≡ suc k = omega arith in
      let rest : ℕ → List ℕ = λ i. map (line_width p) (code_from i (map procedure_of (drop i procs))) in
      ap₂ (λ (a b : List ℕ). a ++ b) e (ap rest next)
      ∙ append_assoc widths (replicate (length q.body) (width (procedure_of q))) (rest (suc k))
      ∙ ap (λ ws. widths ++ (ws ++ rest (suc k))) (ap (replicate (length q.body)) (sym width_is) ∙ sym (body_widths p k [] q.body))
      ∙ ap (λ ws. widths ++ ws) (sym (map-append (line_width p) (instructions k [] q.body) (code_from (suc k) (map procedure_of (drop (suc k) procs)))))
      ∙ ap (λ is. widths ++ map (line_width p) is) (sym (code_left procs k q there))

  pub width_few : IsRead p → width (procedure_of q) ≤ most_related
  width_few read = let h = read.narrow k (procedure_of q) procedure_at in omega arith
