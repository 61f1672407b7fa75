-- Which procedure a body line belongs to.
use Rattle.std.proofs.Common.{Bor, ◌≡◌, ℕ, zero, suc, List, [], ◌∷◌, ◌++◌, map, length, replicate, refl, sym, ap, ap₂, ◌∙◌}
use Rattle.std.specs.Prelude.{Option, None, Some, slice_get, option_map}
use Rattle.std.proofs.lemmas.List.{map-append}
use Rattle.std.proofs.lemmas.Option.{slice_get-map, slice_get_read, slice_get_past}
use Rattle.std.specs.Slice.{IsItemAt}
use Rattle.boolean_programs.specs.declared.program.BodyLine.{BodyLine}
use Rattle.boolean_programs.specs.declared.program.Proc.{Proc}
use Rattle.boolean_programs.specs.declared.program.Program.{Program as ParsedProgram}
use Rattle.boolean_programs.specs.Programs.{program_of, procedure_of}
use Rattle.boolean_programs.specs.Lines.{Instruction, instructions, code_from, code, line_numbers}
use Rattle.boolean_programs.specs.Lists.{place_in}
use Rattle.state_text.specs.States.{proc_at}
use Rattle.state_text.specs.private.Owners.{owners_of, owners_from}

abbrev owner : Instruction → ℕ
owner i = i.procedure

-- what is lent at a place
pub lent : (xs : List Proc) (k : ℕ) (r : Option (Bor Proc)) → IsItemAt xs k r → option_map (λ (b : Bor Proc). b.now) r ≡ slice_get xs k
lent xs k None is = sym (slice_get_past xs k is.3)
lent xs k (Some b) is = sym (slice_get_read xs _ k b.now refl is.3.0 is.1)

of_body : (k : ℕ) (above body : List BodyLine) → map (λ (i : Instruction). i.procedure) (instructions k above body) ≡ replicate (length body) k
of_body k above [] = refl
of_body k above (l ∷ ls) = ap (λ xs. k ∷ xs) (of_body k (l ∷ above) ls)

from_code : (k : ℕ) (qs : List Proc) → owners_from k qs ≡ map owner (code_from k (map procedure_of qs))
from_code k [] = refl
from_code k (q ∷ qs) =
    ap₂ (λ xs ys. xs ++ ys) (sym (of_body k [] q.body)) (from_code (suc k) qs)
    ∙ sym (map-append owner (instructions k [] q.body) (code_from (suc k) (map procedure_of qs)))

-- those of all body lines
pub of_program : (p : ParsedProgram) → owners_from 0 p.procs ≡ owners_of (program_of p)
of_program p = from_code 0 p.procs

-- the procedure of a line that stands at a place of the code
module _ (p : ParsedProgram) (n : ℕ) where
  abbrev lines : List ℕ
  lines = line_numbers (code (program_of p))

  abbrev procedure_on : Option Instruction → Option Proc
  procedure_on o = elim o [ None ↦ None | Some i ↦ slice_get p.procs i.procedure ]

  there : (o : Option ℕ) → place_in lines n ≡ o → proc_at p n ≡ procedure_on (elim o [ None ↦ None | Some k ↦ slice_get (code (program_of p)) k ])
  there o is = ap (λ o. procedure_on (elim o [ None ↦ None | Some k ↦ slice_get (code (program_of p)) k ])) is

  pub on_none : ((k : ℕ) → place_in lines n ≡ Some k → ⊥) → None ≡ proc_at p n
  on_none none = go (place_in lines n) refl
    where
      go : (o : Option ℕ) → place_in lines n ≡ o → None ≡ proc_at p n
      go None is = sym (there None is)
      go (Some k) is = absurd (none k is)

  pub unowned : (g : ℕ) → place_in lines n ≡ Some g → slice_get (owners_of (program_of p)) g ≡ None → None ≡ proc_at p n
  unowned g is none = go (slice_get (code (program_of p)) g) refl
    where
      go : (o : Option Instruction) → slice_get (code (program_of p)) g ≡ o → None ≡ proc_at p n
      go None lacks = sym (there (Some g) is ∙ ap procedure_on lacks)
      go (Some i) has = absurd (let bad : Some i.procedure ≡ None = sym (ap (option_map owner) has) ∙ sym (slice_get-map owner (code (program_of p)) g) ∙ none in cc)

  pub owned : (g k : ℕ) → place_in lines n ≡ Some g → slice_get (owners_of (program_of p)) g ≡ Some k → slice_get p.procs k ≡ proc_at p n
  owned g k is some = go (slice_get (code (program_of p)) g) refl
    where
      go : (o : Option Instruction) → slice_get (code (program_of p)) g ≡ o → slice_get p.procs k ≡ proc_at p n
      go None lacks = absurd (let bad : None ≡ Some k = sym (ap (option_map owner) lacks) ∙ sym (slice_get-map owner (code (program_of p)) g) ∙ some in cc)
      go (Some i) has =
          let e : Some i.procedure ≡ Some k = sym (ap (option_map owner) has) ∙ sym (slice_get-map owner (code (program_of p)) g) ∙ some in
          let same : i.procedure ≡ k = cc in
          ap (slice_get p.procs) (sym same) ∙ sym (there (Some g) is ∙ ap procedure_on has)
