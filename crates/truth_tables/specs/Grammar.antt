-- Expressions: which words are which expression.
use Rattle.std.specs.Prelude.{◌≡◌, IsTrue, ℕ, ◌+◌, ◌-◌, ◌*◌, Bool, true, false, not, ◌||◌, ◌&&◌, nat_le, nat_lt, max, List, [], ◌∷◌, ◌++◌, codes, bytes_eq}
use Rattle.std.specs.List.{list_all}
use Rattle.wpds_port.specs.declared.Mark.{Mark}
use Rattle.wpds_port.specs.declared.Mark.TheVariants.{Implies, Equal, Differs, Or, Xor, And, Not, Open, Close, Comma}
use Rattle.wpds_port.specs.declared.Word.{Word}
use Rattle.wpds_port.specs.declared.Word.TheVariants.{Name, Number, Mark as Sign}
use Rattle.wpds_base.specs.Limits.{most_table2, most_table3}
use Rattle.wpds_port.specs.Tokens.{is_lawful_word}
use Rattle.truth_tables.specs.Formulas.{Formula, Constant as Const, Variable as Var, Opposite, Binary, Ternary}
pub use Rattle.truth_tables.specs.declared.operator.Operator.{Operator}
pub use Rattle.truth_tables.specs.declared.operator.Operator.TheVariants.{Then as ThenOperator, Same as SameOperator, Other as OtherOperator, Or as OrOperator, Xor as XorOperator, And as AndOperator}

-- An expression as it is written, with its brackets. Numbers are kept by their digits.
pub data Tree : Type 0 where
  Constant : Bool → Tree
  Variable : List ℕ → Tree
  Bracket : Tree → Tree
  Inverse : Tree → Tree
  Two : Operator → Tree → Tree → Tree
  Table2 : List ℕ → Tree → Tree → Tree
  Table3 : List ℕ → Tree → Tree → Tree → Tree

-- ---- how a tree is written

abbrev pub operator_mark : Operator → Mark
operator_mark ThenOperator = Implies
operator_mark SameOperator = Equal
operator_mark OtherOperator = Differs
operator_mark OrOperator = Or
operator_mark XorOperator = Xor
operator_mark AndOperator = And

abbrev pub digit_of : Bool → List ℕ
digit_of false = codes "0"
digit_of true = codes "1"

abbrev pub tree_words : Tree → List Word
tree_words (Constant b) = Number (digit_of b) ∷ []
tree_words (Variable x) = Name x ∷ []
tree_words (Bracket e) = Sign Open ∷ tree_words e ++ Sign Close ∷ []
tree_words (Inverse e) = Sign Not ∷ tree_words e
tree_words (Two o a b) = tree_words a ++ Sign (operator_mark o) ∷ tree_words b
tree_words (Table2 n a b) = Name (codes "tab2") ∷ Number n ∷ Sign Open ∷ tree_words a ++ Sign Comma ∷ tree_words b ++ Sign Close ∷ []
tree_words (Table3 n a b c) = Name (codes "tab3") ∷ Number n ∷ Sign Open ∷ tree_words a ++ Sign Comma ∷ tree_words b ++ Sign Comma ∷ tree_words c ++ Sign Close ∷ []

-- ---- levels

-- from the weakest to the strongest
abbrev pub operator_level : Operator → ℕ
operator_level ThenOperator = 1
operator_level SameOperator = 2
operator_level OtherOperator = 2
operator_level OrOperator = 3
operator_level XorOperator = 4
operator_level AndOperator = 5

abbrev pub level : Tree → ℕ
level (Two o a b) = operator_level o
level (Inverse e) = 6
level _ = 7

-- The least level of the operands: `=>` groups to the right, the others to the left.
abbrev pub least_left : Operator → ℕ
least_left ThenOperator = 2
least_left o = operator_level o

abbrev pub least_right : Operator → ℕ
least_right ThenOperator = 1
least_right o = operator_level o + 1

-- words that are no variable in an expression
abbrev pub is_expression_word : List ℕ → Bool
is_expression_word x = bytes_eq x (codes "return") || bytes_eq x (codes "tab2") || bytes_eq x (codes "tab3")

-- a name other than `tab2` and `tab3`: among the words of an expression, a variable
abbrev pub is_variable_word : Word → Bool
is_variable_word (Name x) = not (bytes_eq x (codes "tab2") || bytes_eq x (codes "tab3"))
is_variable_word _ = false

-- the tree groups as the levels say
abbrev pub is_grouped : Tree → Bool
is_grouped (Constant b) = true
is_grouped (Variable x) = not (is_expression_word x)
is_grouped (Bracket e) = is_grouped e
is_grouped (Inverse e) = is_grouped e && nat_le 6 (level e)
is_grouped (Two o a b) = is_grouped a && is_grouped b && nat_le (least_left o) (level a) && nat_le (least_right o) (level b)
is_grouped (Table2 n a b) = is_grouped a && is_grouped b
is_grouped (Table3 n a b c) = is_grouped a && is_grouped b && is_grouped c

-- The tree groups as the levels say, and writes the words.
abbrev pub Writes : Tree → List Word → Type 0
Writes e ws = IsTrue (is_grouped e) × (tree_words e ≡ ws)

-- The words are the expression: each is one that a form takes, and the expression writes them.
abbrev pub IsExpression : List Word → Tree → Type 0
IsExpression ws e = IsTrue (list_all is_lawful_word ws) × Writes e ws

-- ---- what is asked of a tree

abbrev pub depth : Tree → ℕ
depth (Constant b) = 1
depth (Variable x) = 1
depth (Bracket e) = depth e + 1
depth (Inverse e) = depth e + 1
depth (Two o a b) = max (depth a) (depth b) + 1
depth (Table2 n a b) = max (depth a) (depth b) + 1
depth (Table3 n a b c) = max (depth a) (max (depth b) (depth c)) + 1

-- the number that digits write behind a number
abbrev pub number_onto : ℕ → List ℕ → ℕ
number_onto n [] = n
number_onto n (d ∷ ds) = number_onto (10 * n + (d - 48)) ds

abbrev pub number_of : List ℕ → ℕ
number_of digits = number_onto 0 digits

-- a table number is too large
abbrev pub has_large_table : Tree → Bool
has_large_table (Constant b) = false
has_large_table (Variable x) = false
has_large_table (Bracket e) = has_large_table e
has_large_table (Inverse e) = has_large_table e
has_large_table (Two o a b) = has_large_table a || has_large_table b
has_large_table (Table2 n a b) = nat_lt most_table2 (number_of n) || (has_large_table a || has_large_table b)
has_large_table (Table3 n a b c) = nat_lt most_table3 (number_of n) || (has_large_table a || (has_large_table b || has_large_table c))

-- the variables, as often as they stand
abbrev pub tree_variables : Tree → List (List ℕ)
tree_variables (Constant b) = []
tree_variables (Variable x) = x ∷ []
tree_variables (Bracket e) = tree_variables e
tree_variables (Inverse e) = tree_variables e
tree_variables (Two o a b) = tree_variables a ++ tree_variables b
tree_variables (Table2 n a b) = tree_variables a ++ tree_variables b
tree_variables (Table3 n a b c) = tree_variables a ++ (tree_variables b ++ tree_variables c)

-- ---- the operator tables

abbrev pub table_of : Operator → ℕ
table_of ThenOperator = 11
table_of SameOperator = 9
table_of OtherOperator = 6
table_of OrOperator = 14
table_of XorOperator = 6
table_of AndOperator = 8

-- what an expression says, without its brackets, each operator by its table
abbrev pub formula_of : Tree → Formula (List ℕ)
formula_of (Constant b) = Const b
formula_of (Variable x) = Var x
formula_of (Bracket e) = formula_of e
formula_of (Inverse e) = Opposite (formula_of e)
formula_of (Two o a b) = Binary (table_of o) (formula_of a) (formula_of b)
formula_of (Table2 n a b) = Binary (number_of n) (formula_of a) (formula_of b)
formula_of (Table3 n a b c) = Ternary (number_of n) (formula_of a) (formula_of b) (formula_of c)
