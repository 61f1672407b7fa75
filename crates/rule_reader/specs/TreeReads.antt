-- What reading expressions and values gives.
use Rattle.std.specs.Prelude.{◌≡◌, IsTrue, ℕ, Bool, true, false, not, ◌||◌, nat_lt, List, [], ◌∷◌, map, filter, slice_index_or, Option, None, Some, MatchOption, unwrap_or}
use Rattle.std.specs.List.{list_any}
use Rattle.wpds_base.specs.Limits.{most_depth}
use Rattle.wpds_port.specs.declared.Mark.TheVariants.{Star}
use Rattle.wpds_port.specs.declared.Word.{Word}
use Rattle.wpds_port.specs.declared.Word.TheVariants.{Mark as Sign}
use Rattle.wpds_port.specs.Tokens.{word_text}
use Rattle.truth_tables.specs.Grammar.{Tree, depth, has_large_table, tree_variables, is_variable_word}
use Rattle.truth_tables.specs.Stacks.{tree_of}
use Rattle.document_forms.specs.Names.{has_unknown}
use Rattle.document_forms.specs.Weights.{ValueForm}
use Rattle.document_forms.specs.Kinds.{value_names, value_trees}
use Rattle.document_forms.specs.Documents.{expression_value, value_of}
use Rattle.rule_reader.specs.Names.{number_among}
use Rattle.rule_reader.specs.declared.weights.WeightFaults.{WeightFaults}
use Rattle.rule_reader.specs.declared.weights.exprs.TreeRead.{TreeRead}
use Rattle.rule_reader.specs.declared.weights.exprs.ValueRead.{ValueRead}

-- nothing is amiss
abbrev pub is_sound : WeightFaults → Bool
is_sound f = not (f.unknown || (f.unlawful || f.deep))

-- what is amiss with one of two parts
abbrev pub either : WeightFaults → WeightFaults → WeightFaults
either f g = record {
  unknown = f.unknown || g.unknown;
  unlawful = f.unlawful || g.unlawful;
  deep = f.deep || g.deep;
}

-- This is amiss. Whether an expression is too deep is told of what is lawful.
pub record HasFaults (some_unknown some_unlawful some_deep : Bool) (f : WeightFaults) : Type 0 where
  pub unknown : f.unknown ≡ some_unknown
  pub unlawful : f.unlawful ≡ some_unlawful
  pub deep : some_unlawful ≡ false → f.deep ≡ some_deep

abbrev pub is_too_deep : Tree → Bool
is_too_deep e = nat_lt most_depth (depth e)

-- the variables among the words of an expression, in order
abbrev pub variables_among : List Word → List (List ℕ)
variables_among ws = map word_text (filter is_variable_word ws)

-- the numbers of names, and 0 for those that are none of the items
abbrev pub numbers_of : List (List ℕ) → List (List ℕ) → List ℕ
numbers_of items xs = map (λ x. unwrap_or (number_among items x) 0) xs

-- the number of the variable at a place among those of the words
abbrev pub number_at : List (List ℕ) → List Word → ℕ → ℕ
number_at items ws k = slice_index_or (numbers_of items (variables_among ws)) k 0

-- The expression that was read is this one, over the items.
pub record HasTree (items : List (List ℕ)) (e : Tree) (r : TreeRead) : Type 0 where
  pub faults :
      HasFaults (has_unknown items (tree_variables e)) (has_large_table e) (is_too_deep e) r.faults
  pub value : IsTrue (is_sound r.faults) → r.expression ≡ expression_value items e

abbrev pub IsTreeRead : List (List ℕ) → List Word → Option TreeRead → Type 0
IsTreeRead items ws read =
    MatchOption read (tree_of ws ≡ None) (λ r. (e : Tree) × (tree_of ws ≡ Some e) × HasTree items e r)

-- ---- values

-- `*` alone
abbrev pub is_star : List Word → Bool
is_star (Sign Star ∷ []) = true
is_star _ = false

-- The value that was read is this one, over the items.
pub record HasValue (items : List (List ℕ)) (v : ValueForm) (r : ValueRead) : Type 0 where
  pub faults :
      HasFaults (has_unknown items (value_names v)) (list_any has_large_table (value_trees v))
      (list_any is_too_deep (value_trees v)) r.faults
  pub value : IsTrue (is_sound r.faults) → r.value ≡ value_of items v
