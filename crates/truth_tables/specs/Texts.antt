-- What reading words as an expression answers.
use Rattle.std.specs.Prelude.{◌≡◌, IsTrue, ℕ, ◌<◌, ◌≤◌, Bool, false, not, List, [], ◌∷◌, bytes_eq, slice_index_or, length}
use Rattle.wpds_port.specs.declared.Word.{Word}
use Rattle.wpds_port.specs.declared.Word.TheVariants.{Name}
use Rattle.truth_tables.specs.Formulas.{Formula, is_over, renamed}
use Rattle.truth_tables.specs.Grammar.{Tree, IsExpression, depth, has_large_table, formula_of, tree_variables}
use Rattle.truth_tables.specs.declared.reading.ExprRead.{ExprRead}
use Rattle.truth_tables.specs.declared.reading.ExprRead.TheVariants.{Read, Form, Table, Deep}

abbrev pub is_name : List ℕ → Word → Bool
is_name x (Name y) = bytes_eq x y
is_name x _ = false

-- a formula in which a place among these names stands for the name
abbrev pub named : List (List ℕ) → Formula ℕ → Formula (List ℕ)
named names f = renamed (λ k. slice_index_or names k []) f

-- the one formula of a list is that of the expression, whose variables it has by their places
abbrev pub IsFormulaOf : Tree → List (Formula ℕ) → Type 0
IsFormulaOf e fs = (f : Formula ℕ) × (fs ≡ f ∷ []) × (named (tree_variables e) f ≡ formula_of e) × IsTrue (is_over (length (tree_variables e)) f)

-- The answer on words, where expressions may be so deep.
abbrev pub IsAnswer : List Word → ℕ → ExprRead → Type 0
IsAnswer words limit (Read fs) =
    (e : Tree) × IsExpression words e × IsTrue (not (has_large_table e)) × (depth e ≤ limit) × IsFormulaOf e fs
IsAnswer words limit Form = (e : Tree) → ¬ IsExpression words e
IsAnswer words limit Table = (e : Tree) × IsExpression words e × IsTrue (has_large_table e)
IsAnswer words limit Deep = (e : Tree) × IsExpression words e × IsTrue (not (has_large_table e)) × (limit < depth e)
