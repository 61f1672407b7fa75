use Rattle.std.proofs.Common.{◌≡◌, ◌⊎◌, inl, inr, refl}
use Rattle.std.specs.Prelude.{Result, Ok, Err}
use Rattle.boolean_programs.specs.declared.program.Program.{Program}
use Rattle.wpds_port.specs.declared.Refusal.{Refusal}
use Rattle.program_forms.specs.Programs.{read_as}
use Rattle.program_forms.proofs.laws.one_program_or_one_refusal.Goals as goal

either_way : (r : Result Program Refusal) → ((p : Program) × (r ≡ Ok p)) ⊎ ((q : Refusal) × (r ≡ Err q))
either_way (Ok p) = inl (p, refl)
either_way (Err q) = inr (q, refl)

pub returns-clause-one : goal.returns-clause-one
returns-clause-one c = λ bytes. either_way (read_as bytes)
