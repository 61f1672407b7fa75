-- The reading of an expression over anything that can be made of its parts: a tree, or less where the tree would be too deep.
use Rattle.std.specs.Prelude.{ℕ, Bool, true, false, if◌then◌else◌, nat_le, List, [], ◌∷◌, Option, Some, None, option_map, codes, bytes_eq}
use Rattle.wpds_port.specs.declared.Mark.{Mark}
use Rattle.wpds_port.specs.declared.Mark.TheVariants.{Open, Close, Comma, Not}
use Rattle.wpds_port.specs.declared.Word.{Word}
use Rattle.wpds_port.specs.declared.Word.TheVariants.{Name, Number, Mark as Sign}
use Rattle.truth_tables.specs.Grammar.{Operator, operator_level, least_left, Tree, Constant, Variable, Bracket, Inverse, Two, Table2, Table3}
use Rattle.truth_tables.specs.Stacks.{operator_of, constant_of}

-- what is made of each part; `N` is made of a table's digits
pub record Parts (X N : Type 0) : Type 0 where
  pub constant : Bool → X
  pub variable : List ℕ → X
  pub bracket : X → X
  pub inverse : X → X
  pub two : Operator → X → X → X
  pub number2 : List ℕ → N
  pub number3 : List ℕ → N
  pub table2 : N → X → X → X
  pub table3 : N → X → X → X → X

-- what stands open before an operand
pub data Unclosed (X N : Type 0) : Type 0 where
  NotOpen : Unclosed X N
  OperatorOpen : Operator → X → Unclosed X N
  BracketOpen : Unclosed X N
  First2Open : N → Unclosed X N
  Second2Open : N → X → Unclosed X N
  First3Open : N → Unclosed X N
  Second3Open : N → X → Unclosed X N
  Third3Open : N → X → X → Unclosed X N

pub data Progress (X N : Type 0) : Type 0 where
  Wanted : List (Unclosed X N) → Progress X N
  Behind2 : List (Unclosed X N) → Progress X N
  Behind3 : List (Unclosed X N) → Progress X N
  Counted2 : List (Unclosed X N) → N → Progress X N
  Counted3 : List (Unclosed X N) → N → Progress X N
  Operand : List (Unclosed X N) → X → Progress X N

module _ {X N : Type 0} (p : Parts X N) where
  -- what an expression is made into
  abbrev pub folded : Tree → X
  folded (Constant b) = p.constant b
  folded (Variable x) = p.variable x
  folded (Bracket e) = p.bracket (folded e)
  folded (Inverse e) = p.inverse (folded e)
  folded (Two o a b) = p.two o (folded a) (folded b)
  folded (Table2 n a b) = p.table2 (p.number2 n) (folded a) (folded b)
  folded (Table3 n a b c) = p.table3 (p.number3 n) (folded a) (folded b) (folded c)

  abbrev pub closed : ℕ → List (Unclosed X N) → X → List (Unclosed X N) × X
  closed k (NotOpen ∷ ps) e = closed k ps (p.inverse e)
  closed k (OperatorOpen o a ∷ ps) e = elim (nat_le k (operator_level o)) [ true ↦ closed k ps (p.two o a e) | false ↦ (OperatorOpen o a ∷ ps, e) ]
  closed k ps e = (ps, e)

  abbrev pub behind_comma : List (Unclosed X N) → X → Option (Progress X N)
  behind_comma (First2Open n ∷ ps) e = Some (Wanted (Second2Open n e ∷ ps))
  behind_comma (First3Open n ∷ ps) e = Some (Wanted (Second3Open n e ∷ ps))
  behind_comma (Second3Open n a ∷ ps) e = Some (Wanted (Third3Open n a e ∷ ps))
  behind_comma _ e = None

  abbrev pub behind_close : List (Unclosed X N) → X → Option (Progress X N)
  behind_close (BracketOpen ∷ ps) e = Some (Operand ps (p.bracket e))
  behind_close (Second2Open n a ∷ ps) e = Some (Operand ps (p.table2 n a e))
  behind_close (Third3Open n a b ∷ ps) e = Some (Operand ps (p.table3 n a b e))
  behind_close _ e = None

  abbrev pub operator_waits : Operator → List (Unclosed X N) × X → Progress X N
  operator_waits o r = Wanted (OperatorOpen o r.1 ∷ r.0)

  abbrev pub after_operator : Operator → List (Unclosed X N) → X → Option (Progress X N)
  after_operator o ps e = Some (operator_waits o (closed (least_left o) ps e))

  abbrev pub behind_mark : Mark → List (Unclosed X N) → X → Option (Progress X N)
  behind_mark Comma ps e = let r = closed 1 ps e in behind_comma r.0 r.1
  behind_mark Close ps e = let r = closed 1 ps e in behind_close r.0 r.1
  behind_mark m ps e = option_map (λ o. operator_waits o (closed (least_left o) ps e)) (operator_of m)

  abbrev pub behind_name : List (Unclosed X N) → List ℕ → Option (Progress X N)
  behind_name ps x = if bytes_eq x (codes "return") then None else (if bytes_eq x (codes "tab2") then Some (Behind2 ps) else (if bytes_eq x (codes "tab3") then Some (Behind3 ps) else Some (Operand ps (p.variable x))))

  abbrev pub behind_number : List (Unclosed X N) → List ℕ → Option (Progress X N)
  behind_number ps n = option_map (λ b. Operand ps (p.constant b)) (constant_of n)

  abbrev pub progress : Progress X N → Word → Option (Progress X N)
  progress (Wanted ps) (Name x) = behind_name ps x
  progress (Wanted ps) (Number n) = behind_number ps n
  progress (Wanted ps) (Sign Not) = Some (Wanted (NotOpen ∷ ps))
  progress (Wanted ps) (Sign Open) = Some (Wanted (BracketOpen ∷ ps))
  progress (Behind2 ps) (Number n) = Some (Counted2 ps (p.number2 n))
  progress (Behind3 ps) (Number n) = Some (Counted3 ps (p.number3 n))
  progress (Counted2 ps n) (Sign Open) = Some (Wanted (First2Open n ∷ ps))
  progress (Counted3 ps n) (Sign Open) = Some (Wanted (First3Open n ∷ ps))
  progress (Operand ps e) (Sign m) = behind_mark m ps e
  progress _ _ = None

  abbrev pub only : List (Unclosed X N) → X → Option X
  only [] e = Some e
  only (q ∷ qs) e = None

  abbrev pub at_last : Progress X N → Option X
  at_last (Operand ps e) = let r = closed 1 ps e in only r.0 r.1
  at_last _ = None

  abbrev pub made_from : Progress X N → List Word → Option X
  made_from r [] = at_last r
  made_from r (w ∷ ws) = elim (progress r w) [ None ↦ None | Some q ↦ made_from q ws ]

  -- what is made of the words, if they are an expression
  abbrev pub made_of : List Word → Option X
  made_of ws = made_from (Wanted []) ws
