-- Two texts on which the laws' words are worked out. The counts are taken from the format's sentences by hand.
use Rattle.std.proofs.Common.{◌≡◌, ℕ, Bool, true, false, List, [], ◌∷◌, ◌++◌, length, refl}
use Rattle.std.specs.Prelude.{codes, Result, Ok, Err}
use Rattle.std.specs.List.{list_all}
use Rattle.wpds_port.specs.declared.Refusal.{Refusal}
use Rattle.boolean_programs.specs.declared.program.Program.{Program as ParsedProgram}
use Rattle.boolean_programs.specs.declared.point.Point.{Point}
use Rattle.boolean_programs.specs.Programs.{Procedure, Program, program_of}
use Rattle.boolean_programs.specs.Lines.{code, line_numbers}
use Rattle.boolean_programs.specs.Structure.{nested, rises}
use Rattle.boolean_machine.specs.Lawful.{is_lawful, is_point_of}
use Rattle.program_forms.specs.Programs.{read_as}
use Rattle.program_laws.specs.ReadPrograms.{points, rules}

-- What is seen of a text that is a program: how many points and rules there are, how many queries; that blocks nest, that
-- numbers rise, that it is lawful; and that its first query asks for a point of the procedure of this place.
pub record Seen : Type 0 where
  pub points : ℕ
  pub rules : ℕ
  pub queries : ℕ
  pub nest : Bool
  pub rise : Bool
  pub lawful : Bool
  pub asked : Bool

abbrev first_asked : Program → ℕ → List Point → Bool
first_asked p k [] = false
first_asked p k (point ∷ rest) = is_point_of p k point

abbrev seen_of : ℕ → ParsedProgram → Seen
seen_of k q =
    let p = program_of q in
    record {
      points = points p;
      rules = rules p;
      queries = length q.queries;
      nest = list_all (λ (r : Procedure). nested [] r.body) p.procs;
      rise = rises 0 (line_numbers (code p));
      lawful = is_lawful p;
      asked = first_asked p k q.queries;
    }

abbrev seen : ℕ → Result ParsedProgram Refusal → Result Seen Refusal
seen k (Ok p) = Ok (seen_of k p)
seen k (Err r) = Err r

abbrev all_well : (points rules queries : ℕ) → Result Seen Refusal
all_well points rules queries = Ok (record {
  points = points;
  rules = rules;
  queries = queries;
  nest = true;
  rise = true;
  lawful = true;
  asked = true;
})

-- Blocks in one another, a `goto` to two labels, an assert inside, and a call. Main has ten body lines with one assert, and
-- `f` has two. Of their rules `while`, `if`, `goto` and `assert` make two each, the other eight lines one each.
nested_blocks : seen 0 (read_as (codes "bool 1" ++ 10 ∷ (codes "global g" ++ 10 ∷ (codes "proc main()" ++ 10 ∷ (codes "  local x" ++ 10 ∷ (codes "  x := *" ++ 10 ∷ (codes "  A: while x" ++ 10 ∷ (codes "    if *" ++ 10 ∷ (codes "      goto A B" ++ 10 ∷ (codes "    else" ++ 10 ∷ (codes "      C: assert g" ++ 10 ∷ (codes "    end" ++ 10 ∷ (codes "  end" ++ 10 ∷ (codes "  B: x := call f(x)" ++ 10 ∷ (codes "end" ++ 10 ∷ (codes "proc f(a) returns 1" ++ 10 ∷ (codes "  return a" ++ 10 ∷ (codes "end" ++ 10 ∷ (codes "query fails C" ++ 10 ∷ (codes "query reach B" ++ 10 ∷ [])))))))))))))))))))) ≡ all_well 13 16 2
nested_blocks = refl

-- Main stands last, is called, and is asked for; an empty procedure has one body line; a remark and an empty line count for
-- nothing.
main_at_last : seen 1 (read_as (codes "# two procedures" ++ 10 ∷ (codes "bool 1" ++ 10 ∷ (codes "proc f(a, b) returns 2" ++ 10 ∷ (codes "" ++ 10 ∷ (codes "end" ++ 10 ∷ (codes "query reach L" ++ 10 ∷ (codes "proc main()" ++ 10 ∷ (codes "local x y" ++ 10 ∷ (codes "x, y := call f(y, x | y)" ++ 10 ∷ (codes "L: call main()" ++ 10 ∷ (codes "assume x = y" ++ 10 ∷ (codes "end" ++ 10 ∷ []))))))))))))) ≡ all_well 5 5 1
main_at_last = refl
