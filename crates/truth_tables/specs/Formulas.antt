-- What an expression says of its variables.
use Rattle.std.specs.Prelude.{ℕ, Bool, true, false, not, ◌&&◌, nat_lt, List, slice_index_or}
use Rattle.truth_tables.specs.Tables.{value2_of, value3_of}
use Rattle.truth_tables.specs.declared.expr.Expr.{Expr, Const, Var, Not', Two', Three'}

-- A tree of operators over variables of one kind: numbers, or names.
pub data Formula (V : Type 0) : Type 0 where
  Constant : Bool → Formula V
  Variable : V → Formula V
  Opposite : Formula V → Formula V
  Binary : ℕ → Formula V → Formula V → Formula V
  Ternary : ℕ → Formula V → Formula V → Formula V → Formula V

-- the value under bits of the variables
abbrev pub value_under : List Bool → Formula ℕ → Bool
value_under bits (Constant b) = b
value_under bits (Variable k) = slice_index_or bits k false
value_under bits (Opposite f) = not (value_under bits f)
value_under bits (Binary t f g) = value2_of t (value_under bits f) (value_under bits g)
value_under bits (Ternary t f g h) = value3_of t (value_under bits f) (value_under bits g) (value_under bits h)

-- each variable is below this number, and each table of two places below 16
abbrev pub is_over : ℕ → Formula ℕ → Bool
is_over n (Constant b) = true
is_over n (Variable k) = nat_lt k n
is_over n (Opposite f) = is_over n f
is_over n (Binary t f g) = nat_lt t 16 && is_over n f && is_over n g
is_over n (Ternary t f g h) = is_over n f && is_over n g && is_over n h

-- each table of two places is below 16
abbrev pub has_small_tables : {V : Type 0} → Formula V → Bool
has_small_tables (Constant b) = true
has_small_tables (Variable x) = true
has_small_tables (Opposite f) = has_small_tables f
has_small_tables (Binary t f g) = nat_lt t 16 && (has_small_tables f && has_small_tables g)
has_small_tables (Ternary t f g h) = has_small_tables f && (has_small_tables g && has_small_tables h)

-- the formula that an expression in memory is
abbrev pub formula : Expr → Formula ℕ
formula (Const b) = Constant b
formula (Var k) = Variable k
formula (Not' p e) = Opposite (formula e)
formula (Two' t p e q f) = Binary t (formula e) (formula f)
formula (Three' t p e q f r g) = Ternary t (formula e) (formula f) (formula g)

-- with each variable by another name
abbrev pub renamed : {V W : Type 0} → (V → W) → Formula V → Formula W
renamed r (Constant b) = Constant b
renamed r (Variable x) = Variable (r x)
renamed r (Opposite f) = Opposite (renamed r f)
renamed r (Binary t f g) = Binary t (renamed r f) (renamed r g)
renamed r (Ternary t f g h) = Ternary t (renamed r f) (renamed r g) (renamed r h)
