-- Lines while they are written, each from its end, and runs while they are counted and opened.
pub mod Counting
pub mod Opening
use Rattle.std.specs.Prelude.{ℕ, ◌+◌, Bool, List, [], ◌++◌, codes, Option, None, Some, if◌then◌else◌}

-- what stands in a line so far, and how much goes before it
pub record LineText : Type 0 where
  pub text : List ℕ
  pub room : ℕ

-- what stands between a part and those behind it, if there are some
abbrev pub then_text : Bool → List ℕ
then_text more = if more then codes " then " else []

-- a part, if there is one, before others, if there are some
abbrev pub part_text : Option (List ℕ) → Bool → List ℕ
part_text None more = []
part_text (Some t) more = t ++ then_text more

-- how long the parts of a line are at most: a number, and words
abbrev pub number_size : ℕ
number_size = 20

abbrev pub rule_size : ℕ
rule_size = 5 + number_size

abbrev pub set_size : ℕ
set_size = 4 + number_size

abbrev pub then_size : ℕ
then_size = 6

abbrev pub part_size : ℕ
part_size = rule_size + then_size

abbrev pub parts_size : ℕ
parts_size = part_size + part_size + part_size

abbrev pub before_size : ℕ
before_size = set_size + 4

abbrev pub node_size : ℕ
node_size = before_size + parts_size

abbrev pub line_size : ℕ
line_size = 160
