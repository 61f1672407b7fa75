-- What reading the parts of a statement gives.
use Rattle.std.specs.Prelude.{◌≡◌, IsTrue, ℕ, List, length, map, flat_map, is_none}
use Rattle.std.specs.List.{list_any}
use Rattle.truth_tables.specs.Grammar.{has_large_table}
use Rattle.document_forms.specs.Names.{has_unknown}
use Rattle.document_forms.specs.Weights.{ValueForm}
use Rattle.document_forms.specs.Kinds.{value_names, value_trees}
use Rattle.document_forms.specs.declared.weight.ValueText.{ValueText}
use Rattle.document_forms.specs.declared.weight.ValueText.TheVariants.{Free, Is as IsText}
use Rattle.boolean_programs.specs.declared.statement.Choice.{Choice}
use Rattle.boolean_programs.specs.declared.statement.Choice.TheVariants.{Star, Is}
use Rattle.rule_reader.specs.NameReads.{AreNumbersRead, HasNames}
use Rattle.rule_reader.specs.TreeReads.{HasFaults, is_sound, is_too_deep}
use Rattle.program_forms.specs.Declared.{Whole, label_named}
use Rattle.program_forms.specs.Kinds.{is_elsewhere}
use Rattle.program_forms.specs.Programs.{choice_of, line_of_label}
use Rattle.program_statements.specs.declared.choices.ChoicesRead.{ChoicesRead}
use Rattle.program_statements.specs.declared.targets.TargetsRead.{TargetsRead}
use Rattle.program_statements.specs.declared.labels.LabelsRead.{LabelsRead}

abbrev pub choice_said : ValueText → Choice
choice_said Free = Star
choice_said (IsText e) = Is e

-- These values were read over the names: this is amiss, and where nothing is, they stand.
pub record HasChoices (names : List (List ℕ)) (vs : List ValueForm) (r : ChoicesRead) : Type 0 where
  pub faults :
      HasFaults (has_unknown names (flat_map value_names vs))
      (list_any has_large_table (flat_map value_trees vs))
      (list_any is_too_deep (flat_map value_trees vs)) r.faults
  pub count : length r.choices.items ≡ length vs
  pub values : IsTrue (is_sound r.faults) → r.choices.items ≡ map (choice_of names) vs

-- These targets were read over the names.
pub record HasTargets (names xs : List (List ℕ)) (r : TargetsRead) : Type 0 where
  pub variables : AreNumbersRead names xs r.variables
  pub once : HasNames xs r.once

-- These labels were read, below so many `proc` lines.
pub record HasLabels (w : Whole) (begun : ℕ) (xs : List (List ℕ)) (r : LabelsRead) : Type 0 where
  pub lines : r.lines.items ≡ map (line_of_label w) xs
  pub unknown : r.unknown ≡ list_any (λ x. is_none (label_named w.labels x)) xs
  pub elsewhere : r.elsewhere ≡ list_any (λ x. is_elsewhere begun (label_named w.labels x)) xs
