-- Which procedure a body line belongs to.
use Rattle.std.specs.Prelude.{ℕ, suc, List, [], ◌∷◌, ◌++◌, map, length, replicate}
use Rattle.boolean_programs.specs.declared.program.Proc.{Proc}
use Rattle.boolean_programs.specs.Programs.{Program}
use Rattle.boolean_programs.specs.Lines.{Instruction, code}

-- the places of the procedures of all body lines, in order
abbrev pub owners_of : Program → List ℕ
owners_of p = map (λ (i : Instruction). i.procedure) (code p)

-- the same of parsed procedures, of which the first has the place k
abbrev pub owners_from : ℕ → List Proc → List ℕ
owners_from k [] = []
owners_from k (q ∷ qs) = replicate (length q.body) k ++ owners_from (suc k) qs
