-- What is kept of a reading whose expression is not built: which brackets and tables are open, the newest first, and where it stands.
use Rattle.std.specs.Prelude.{ℕ, Bool, true, false, ◌||◌, nat_lt, if◌then◌else◌, List, [], ◌∷◌, reverse, Option, Some, None, option_map, codes, bytes_eq}
use Rattle.wpds_port.specs.declared.Mark.{Mark}
use Rattle.wpds_port.specs.declared.Mark.TheVariants.{Open, Close, Comma, Not}
use Rattle.wpds_port.specs.declared.Word.{Word}
use Rattle.wpds_port.specs.declared.Word.TheVariants.{Name, Number, Mark as Sign}
use Rattle.wpds_base.specs.Limits.{most_table2, most_table3}
use Rattle.truth_tables.specs.Grammar.{number_of, has_large_table}
use Rattle.truth_tables.specs.Stacks.{operator_of, constant_of, Pending, AfterNot, AfterOperator, InBracket, First2 as TreeFirst2, Second2 as TreeSecond2, First3 as TreeFirst3, Second3 as TreeSecond3, Third3 as TreeThird3, Reading, Wants, Word2, Word3, Number2, Number3, Has}
use Rattle.truth_tables.specs.declared.shape.OpenShape.{OpenShape}
use Rattle.truth_tables.specs.declared.shape.OpenShape.TheVariants.{Bracket, First2, Second2, First3, Second3, Third3}
use Rattle.truth_tables.specs.declared.shape.Place.{Place}
use Rattle.truth_tables.specs.declared.shape.Place.TheVariants.{Wanted, Behind2, Behind3, Counted2, Counted3, Behind}

abbrev pub Shape : Type 0
Shape = List OpenShape × Place

-- ---- a word more

-- the shape in memory, where the bottom stands first
abbrev pub shape_now : Option Place → List OpenShape → Option Shape
shape_now o ps = option_map (λ p. (reverse ps, p)) o

abbrev pub shape_pushed : List OpenShape → OpenShape → Option Shape
shape_pushed ps p = Some (p ∷ ps, Wanted)

abbrev pub shape_name : List ℕ → Option Place
shape_name x = if bytes_eq x (codes "return") then None else (if bytes_eq x (codes "tab2") then Some Behind2 else (if bytes_eq x (codes "tab3") then Some Behind3 else Some Behind))

abbrev pub shape_number : List ℕ → Option Place
shape_number n = option_map (λ b. Behind) (constant_of n)

abbrev pub shape_comma : List OpenShape → Option Shape
shape_comma (First2 ∷ ps) = shape_pushed ps Second2
shape_comma (First3 ∷ ps) = shape_pushed ps Second3
shape_comma (Second3 ∷ ps) = shape_pushed ps Third3
shape_comma _ = None

abbrev pub shape_close : List OpenShape → Option Shape
shape_close (Bracket ∷ ps) = Some (ps, Behind)
shape_close (Second2 ∷ ps) = Some (ps, Behind)
shape_close (Third3 ∷ ps) = Some (ps, Behind)
shape_close _ = None

abbrev pub shape_mark : Mark → List OpenShape → Option Shape
shape_mark Comma ps = shape_comma ps
shape_mark Close ps = shape_close ps
shape_mark m ps = option_map (λ o. (ps, Wanted)) (operator_of m)

abbrev pub next_shape : List OpenShape → Place → Word → Option Shape
next_shape ps Wanted (Name x) = option_map (λ p. (ps, p)) (shape_name x)
next_shape ps Wanted (Number n) = option_map (λ p. (ps, p)) (shape_number n)
next_shape ps Wanted (Sign Not) = Some (ps, Wanted)
next_shape ps Wanted (Sign Open) = shape_pushed ps Bracket
next_shape ps Behind2 (Number n) = Some (ps, Counted2)
next_shape ps Behind3 (Number n) = Some (ps, Counted3)
next_shape ps Counted2 (Sign Open) = shape_pushed ps First2
next_shape ps Counted3 (Sign Open) = shape_pushed ps First3
next_shape ps Behind (Sign m) = shape_mark m ps
next_shape _ _ _ = None

-- the word is a table's number, and too large
abbrev pub large_at : Place → Word → Bool
large_at Behind2 (Number n) = nat_lt most_table2 (number_of n)
large_at Behind3 (Number n) = nat_lt most_table3 (number_of n)
large_at _ _ = false

-- the words may end here
abbrev pub is_whole : Shape → Bool
is_whole ([], Behind) = true
is_whole _ = false

-- ---- of a reading

abbrev pub open_shapes : List Pending → List OpenShape
open_shapes [] = []
open_shapes (AfterNot ∷ ps) = open_shapes ps
open_shapes (AfterOperator o a ∷ ps) = open_shapes ps
open_shapes (InBracket ∷ ps) = Bracket ∷ open_shapes ps
open_shapes (TreeFirst2 n ∷ ps) = First2 ∷ open_shapes ps
open_shapes (TreeSecond2 n a ∷ ps) = Second2 ∷ open_shapes ps
open_shapes (TreeFirst3 n ∷ ps) = First3 ∷ open_shapes ps
open_shapes (TreeSecond3 n a ∷ ps) = Second3 ∷ open_shapes ps
open_shapes (TreeThird3 n a b ∷ ps) = Third3 ∷ open_shapes ps

abbrev pub shape_of : Reading → Shape
shape_of (Wants ps) = (open_shapes ps, Wanted)
shape_of (Word2 ps) = (open_shapes ps, Behind2)
shape_of (Word3 ps) = (open_shapes ps, Behind3)
shape_of (Number2 ps n) = (open_shapes ps, Counted2)
shape_of (Number3 ps n) = (open_shapes ps, Counted3)
shape_of (Has ps e) = (open_shapes ps, Behind)

-- a table number that was read is too large
abbrev pub has_large : List Pending → Bool
has_large [] = false
has_large (AfterNot ∷ ps) = has_large ps
has_large (AfterOperator o a ∷ ps) = has_large_table a || has_large ps
has_large (InBracket ∷ ps) = has_large ps
has_large (TreeFirst2 n ∷ ps) = nat_lt most_table2 (number_of n) || has_large ps
has_large (TreeSecond2 n a ∷ ps) = has_large_table a || (nat_lt most_table2 (number_of n) || has_large ps)
has_large (TreeFirst3 n ∷ ps) = nat_lt most_table3 (number_of n) || has_large ps
has_large (TreeSecond3 n a ∷ ps) = has_large_table a || (nat_lt most_table3 (number_of n) || has_large ps)
has_large (TreeThird3 n a b ∷ ps) = has_large_table b || (has_large_table a || (nat_lt most_table3 (number_of n) || has_large ps))

abbrev pub large_in : Reading → Bool
large_in (Wants ps) = has_large ps
large_in (Word2 ps) = has_large ps
large_in (Word3 ps) = has_large ps
large_in (Number2 ps n) = nat_lt most_table2 (number_of n) || has_large ps
large_in (Number3 ps n) = nat_lt most_table3 (number_of n) || has_large ps
large_in (Has ps e) = has_large_table e || has_large ps
