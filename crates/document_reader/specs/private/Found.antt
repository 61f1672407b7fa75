-- The first refusal of lines that are read one by one.
use Rattle.std.specs.Prelude.{ℕ, List, [], Option, None, Some, option_map}
use Rattle.wpds_port.specs.declared.Refusal.{Refusal}
use Rattle.wpds_port.specs.Refusals.{refusal}
use Rattle.document_forms.specs.FirstRefusal.{Counted, first_refused, missing}

-- of these lines the first refusal, or what is missing on the line after the last
abbrev pub found_first : (all after : ℕ) → List Counted → Option Refusal
found_first all after ls = elim (first_refused all [] ls) [
  | Some r ↦ Some r
  | None ↦ option_map (refusal after) (missing ls)
]
