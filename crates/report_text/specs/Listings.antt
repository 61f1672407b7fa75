-- How an answer and its listing are written. Rules are numbered from 1 here, and sets of runs from 0.
use Rattle.std.specs.Prelude.{ℕ, ◌+◌, ◌-◌, List, [], ◌∷◌, ◌++◌, length, Option, None, Some, codes, decimal, option_map, option_to_list}
use Rattle.std.specs.List.{join_by}
use Rattle.witness_graph.specs.declared.node.Node.{Node}
use Rattle.witness_graph.specs.declared.node.Node.TheVariants.{Start, Lower}
use Rattle.witness_graph.specs.declared.node.Side.{Side}
use Rattle.witness_graph.specs.declared.node.Side.TheVariants.{Pre, Post}

abbrev pub rule_text : ℕ → List ℕ
rule_text r = codes "rule " ++ decimal (r + 1)

abbrev pub set_text : ℕ → List ℕ
set_text k = codes "set " ++ decimal k

-- a part, if it is there
abbrev pub rule_part : Option ℕ → List (List ℕ)
rule_part rule = option_to_list (option_map rule_text rule)

abbrev pub set_part : Option ℕ → List (List ℕ)
set_part set = option_to_list (option_map set_text set)

-- the parts of a node that are there, in the order of its runs
abbrev pub parts : Side → (rule first second : Option ℕ) → List (List ℕ)
parts Pre rule first second = rule_part rule ++ (set_part first ++ set_part second)
parts Post rule first second = set_part first ++ (set_part second ++ rule_part rule)

-- the parts, with ` then ` between
abbrev pub parts_text : Side → (rule first second : Option ℕ) → List ℕ
parts_text side rule first second = join_by (λ t. t) (codes " then ") (parts side rule first second)

-- the set before these parts
abbrev pub before_text : Option ℕ → List ℕ
before_text None = []
before_text (Some k) = set_text k ++ codes " or "

abbrev pub node_text : Side → Node → List ℕ
node_text side Start = codes "empty"
node_text side (Lower before rule first second) = before_text before ++ parts_text side rule first second

-- `  set K = TEXT`
abbrev pub set_line : Side → ℕ → Node → List ℕ
set_line side k n = codes "  " ++ set_text k ++ codes " = " ++ node_text side n ++ 10 ∷ []

-- a line for each node, from a number on
abbrev pub set_lines : Side → ℕ → List Node → List ℕ
set_lines side k [] = []
set_lines side k (n ∷ ns) = set_line side k n ++ set_lines side (k + 1) ns

-- which of them the answer is
abbrev pub answer_line : ℕ → List ℕ
answer_line k = codes "  answer " ++ set_text k ++ 10 ∷ []

-- the sets of runs, and which of them the answer is
abbrev pub listing_text : Side → List Node → List ℕ
listing_text side nodes = set_lines side 0 nodes ++ answer_line (length nodes - 1)

-- `query I: VALUE`
abbrev pub query_line : ℕ → List ℕ → List ℕ
query_line i value = codes "query " ++ decimal i ++ codes ": " ++ value ++ 10 ∷ []
