-- From words to the tree, a word at a time.
use Rattle.std.specs.Prelude.{ℕ, Bool, true, false, nat_le, if◌then◌else◌, List, [], ◌∷◌, Option, Some, None, option_map, codes, bytes_eq}
use Rattle.wpds_port.specs.declared.Mark.{Mark}
use Rattle.wpds_port.specs.declared.Mark.TheVariants.{Implies, Equal, Differs, Or, Xor, And, Not, Open, Close, Comma}
use Rattle.wpds_port.specs.declared.Word.{Word}
use Rattle.wpds_port.specs.declared.Word.TheVariants.{Name, Number, Mark as Sign}
use Rattle.truth_tables.specs.Grammar.{Operator, ThenOperator, SameOperator, OtherOperator, OrOperator, XorOperator, AndOperator, operator_level, least_left, Tree, Constant, Variable, Bracket, Inverse, Two, Table2, Table3}

-- What stands open before an operand, the newest first on a stack.
pub data Pending : Type 0 where
  AfterNot : Pending
  AfterOperator : Operator → Tree → Pending
  InBracket : Pending
  First2 : List ℕ → Pending
  Second2 : List ℕ → Tree → Pending
  First3 : List ℕ → Pending
  Second3 : List ℕ → Tree → Pending
  Third3 : List ℕ → Tree → Tree → Pending

pub data Reading : Type 0 where
  -- an operand is wanted
  Wants : List Pending → Reading
  -- behind `tab2` and `tab3`, and behind their number
  Word2 : List Pending → Reading
  Word3 : List Pending → Reading
  Number2 : List Pending → List ℕ → Reading
  Number3 : List Pending → List ℕ → Reading
  -- behind an operand
  Has : List Pending → Tree → Reading

-- an operand with what is open before it and binds at least so strongly
abbrev pub joined : ℕ → List Pending → Tree → List Pending × Tree
joined k (AfterNot ∷ ps) e = joined k ps (Inverse e)
joined k (AfterOperator o a ∷ ps) e = elim (nat_le k (operator_level o)) [ true ↦ joined k ps (Two o a e) | false ↦ (AfterOperator o a ∷ ps, e) ]
joined k ps e = (ps, e)

abbrev pub operator_of : Mark → Option Operator
operator_of Implies = Some ThenOperator
operator_of Equal = Some SameOperator
operator_of Differs = Some OtherOperator
operator_of Or = Some OrOperator
operator_of Xor = Some XorOperator
operator_of And = Some AndOperator
operator_of _ = None

abbrev pub after_operator : Operator → List Pending × Tree → Reading
after_operator o r = Wants (AfterOperator o r.1 ∷ r.0)

abbrev pub at_comma : List Pending → Tree → Option Reading
at_comma (First2 n ∷ ps) e = Some (Wants (Second2 n e ∷ ps))
at_comma (First3 n ∷ ps) e = Some (Wants (Second3 n e ∷ ps))
at_comma (Second3 n a ∷ ps) e = Some (Wants (Third3 n a e ∷ ps))
at_comma _ e = None

abbrev pub at_close : List Pending → Tree → Option Reading
at_close (InBracket ∷ ps) e = Some (Has ps (Bracket e))
at_close (Second2 n a ∷ ps) e = Some (Has ps (Table2 n a e))
at_close (Third3 n a b ∷ ps) e = Some (Has ps (Table3 n a b e))
at_close _ e = None

abbrev pub behind_operand : Mark → List Pending → Tree → Option Reading
behind_operand Comma ps e = let r = joined 1 ps e in at_comma r.0 r.1
behind_operand Close ps e = let r = joined 1 ps e in at_close r.0 r.1
behind_operand m ps e = option_map (λ o. after_operator o (joined (least_left o) ps e)) (operator_of m)

abbrev pub constant_of : List ℕ → Option Bool
constant_of n = if bytes_eq n (codes "0") then Some false else (if bytes_eq n (codes "1") then Some true else None)

abbrev pub at_name : List Pending → List ℕ → Option Reading
at_name ps x = if bytes_eq x (codes "return") then None else (if bytes_eq x (codes "tab2") then Some (Word2 ps) else (if bytes_eq x (codes "tab3") then Some (Word3 ps) else Some (Has ps (Variable x))))

abbrev pub next_reading : Reading → Word → Option Reading
next_reading (Wants ps) (Name x) = at_name ps x
next_reading (Wants ps) (Number n) = option_map (λ b. Has ps (Constant b)) (constant_of n)
next_reading (Wants ps) (Sign Not) = Some (Wants (AfterNot ∷ ps))
next_reading (Wants ps) (Sign Open) = Some (Wants (InBracket ∷ ps))
next_reading (Word2 ps) (Number n) = Some (Number2 ps n)
next_reading (Word3 ps) (Number n) = Some (Number3 ps n)
next_reading (Number2 ps n) (Sign Open) = Some (Wants (First2 n ∷ ps))
next_reading (Number3 ps n) (Sign Open) = Some (Wants (First3 n ∷ ps))
next_reading (Has ps e) (Sign m) = behind_operand m ps e
next_reading _ _ = None

abbrev pub alone : List Pending → Tree → Option Tree
alone [] e = Some e
alone (p ∷ ps) e = None

abbrev pub at_end : Reading → Option Tree
at_end (Has ps e) = let r = joined 1 ps e in alone r.0 r.1
at_end _ = None

abbrev pub tree_from : Reading → List Word → Option Tree
tree_from r [] = at_end r
tree_from r (w ∷ ws) = elim (next_reading r w) [ None ↦ None | Some q ↦ tree_from q ws ]

-- the tree that writes the words
abbrev pub tree_of : List Word → Option Tree
tree_of ws = tree_from (Wants []) ws
