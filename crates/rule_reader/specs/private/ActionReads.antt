-- What reading the actions of a relation gives.
use Rattle.std.specs.Prelude.{◌≡◌, IsTrue, ℕ, ◌||◌, min, nat_lt, List, length, map, flat_map, zip, Option, None, Some, MatchOption}
use Rattle.std.specs.List.{list_any}
use Rattle.wpds_port.specs.declared.Word.{Word}
use Rattle.truth_tables.specs.Grammar.{has_large_table}
use Rattle.document_forms.specs.declared.weight.Assignment.{Assignment}
use Rattle.document_forms.specs.Names.{has_unknown}
use Rattle.document_forms.specs.Words.{is_comma, parted, parted_outside, each, ◌>>=◌}
use Rattle.document_forms.specs.Weights.{ValueForm, ActionForm, AssignForm, ActionsForm, target_of, value_of as value_form_of}
use Rattle.document_forms.specs.Kinds.{value_names, value_trees, action_names, action_trees, is_uneven, is_unlawful, is_deep}
use Rattle.document_forms.specs.Documents.{value_of, action_value}
use Rattle.rule_reader.specs.declared.weights.actions.Targets.{Targets}
use Rattle.rule_reader.specs.declared.weights.actions.Values.{Values}
use Rattle.rule_reader.specs.declared.weights.actions.ActionRead.{ActionRead}
use Rattle.rule_reader.specs.declared.weights.actions.ActionsRead.{ActionsRead}
use Rattle.rule_reader.specs.NameReads.{AreNumbersRead, HasNames}
use Rattle.rule_reader.specs.TreeReads.{is_sound}
use Rattle.rule_reader.specs.TreeReads.{HasFaults, is_too_deep}

-- the assignment with these words on its two sides
abbrev pub sides_of : (front back : List Word) → Option ActionForm
sides_of front back = do
  targets ← each target_of (parted is_comma front)
  values ← each value_form_of (parted_outside 0 is_comma back)
  Some (AssignForm targets values)

pub record HasTargets (items xs : List (List ℕ)) (t : Targets) : Type 0 where
  pub variables : AreNumbersRead items xs t.variables
  pub names : HasNames xs t.names

-- a variable and the value that it is given
abbrev pub assigned : List (List ℕ) → ℕ × ValueForm → Assignment
assigned items p = record { variable = p.0; value = value_of items p.1 }

-- The values that were read are these, in order for these targets.
pub record HasValues (items : List (List ℕ)) (targets : List ℕ) (vs : List ValueForm) (r : Values) : Type 0 where
  pub faults :
      HasFaults (has_unknown items (flat_map value_names vs))
      (list_any has_large_table (flat_map value_trees vs))
      (list_any is_too_deep (flat_map value_trees vs)) r.faults
  pub more : r.more ≡ nat_lt (length targets) (length vs)
  pub count : length r.assignments.items ≡ min (length targets) (length vs)
  pub values :
      IsTrue (is_sound r.faults) → r.assignments.items ≡ map (assigned items) (zip targets vs)

-- The action that was read is this one.
pub record HasAction (items : List (List ℕ)) (a : ActionForm) (r : ActionRead) : Type 0 where
  pub faults :
      HasFaults (has_unknown items (action_names a))
      (is_uneven a || list_any has_large_table (action_trees a))
      (list_any is_too_deep (action_trees a)) r.faults
  pub value : IsTrue (is_sound r.faults) → r.action ≡ action_value items a

abbrev pub IsActionRead : List (List ℕ) → Option ActionForm → Option ActionRead → Type 0
IsActionRead items form read =
    MatchOption read (form ≡ None) (λ r. (a : ActionForm) × (form ≡ Some a) × HasAction items a r)

-- The actions that were read are these.
pub record HasActions (items : List (List ℕ)) (acts : List ActionForm) (r : ActionsRead) : Type 0 where
  pub faults :
      HasFaults (has_unknown items (flat_map action_names acts)) (is_unlawful (ActionsForm acts))
      (is_deep (ActionsForm acts)) r.faults
  pub values : IsTrue (is_sound r.faults) → r.actions.items ≡ map (action_value items) acts
