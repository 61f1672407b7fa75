-- Symbols of points, and the widths at lines.
use Rattle.std.proofs.Common.{◌≡◌, ◌≢◌, ℕ, ◌≤◌, List, map, refl, sym, ap, ◌∙◌, lit≤, arith}
use Rattle.std.specs.Prelude.{Option, None, Some, slice_get, option_map, unwrap_or}
use Rattle.std.proofs.lemmas.Option.{slice_get-map}
use Rattle.wpds_base.specs.Limits.{most_related}
use Rattle.boolean_programs.specs.declared.point.Point.{Point}
use Rattle.boolean_programs.specs.Programs.{Procedure, Program, width}
use Rattle.boolean_programs.specs.Lines.{Instruction, code, instruction_at}
use Rattle.boolean_programs.specs.Structure.{IsRead}
use Rattle.boolean_machine.specs.Machine.{at_line}
use Rattle.boolean_meaning.specs.HeldStates.{width_of, width_at}
use Rattle.lowering_laws.specs.Lowering.{symbol, symbol_of, symbol_points}
use Rattle.program_traces.specs.private.Readers.{line_width}

module _ (p : Program) (point : Point) where
  pub symbol_there : (g : ℕ) → symbol_of p point ≡ Some g → g ≡ symbol p point
  symbol_there g e = sym (ap (λ o. unwrap_or o 0) e)

  pub no_symbol : ((g : ℕ) → symbol_of p point ≡ Some g → slice_get (symbol_points p) g ≡ Some point) → ((g : ℕ) → slice_get (symbol_points p) g ≢ Some point) → symbol_of p point ≡ None
  no_symbol law none = by_option (symbol_of p point) refl
    where
      by_option : (o : Option ℕ) → symbol_of p point ≡ o → symbol_of p point ≡ None
      by_option None e = e
      by_option (Some g) e = absurd (none g (law g e))

module _ (p : Program) (line : ℕ) where
  abbrev width_by : Option Instruction → ℕ
  width_by o = elim o [ None ↦ 0 | Some i ↦ width_of p i.procedure ]

  abbrev line_by : Option ℕ → Option Instruction
  line_by o = elim o [ None ↦ None | Some k ↦ slice_get (code p) k ]

  pub width_none : symbol_of p (at_line line) ≡ None → width_at p line ≡ 0
  width_none e = ap (λ (o : Option ℕ). width_by (line_by o)) e

  pub width_there : (widths : List ℕ) → widths ≡ map (line_width p) (code p) → (g : ℕ) → symbol_of p (at_line line) ≡ Some g → width_at p line ≡ unwrap_or (slice_get widths g) 0
  width_there widths are g e =
      ap (λ (o : Option ℕ). width_by (line_by o)) e
      ∙ by_option (slice_get (code p) g)
      ∙ sym (ap (λ o. unwrap_or o 0) (ap (λ ws. slice_get ws g) are ∙ slice_get-map (line_width p) (code p) g))
    where
      by_option : (o : Option Instruction) → (elim o [ None ↦ 0 | Some i ↦ width_of p i.procedure ]) ≡ unwrap_or (option_map (line_width p) o) 0
      by_option None = refl
      by_option (Some i) = refl

  pub width_few : IsRead p → width_at p line ≤ most_related
  width_few read = by_line (instruction_at p line)
    where
      by_procedure : (k : ℕ) (o : Option Procedure) → slice_get p.procs k ≡ o → unwrap_or (option_map width o) 0 ≤ most_related
      by_procedure k None e = lit≤ tt
      by_procedure k (Some q) e = let h = read.narrow k q e in omega arith

      by_line : (o : Option Instruction) → (elim o [ None ↦ 0 | Some i ↦ width_of p i.procedure ]) ≤ most_related
      by_line None = lit≤ tt
      by_line (Some i) = by_procedure i.procedure (slice_get p.procs i.procedure) refl
