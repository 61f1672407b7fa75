-- What of a reading is in memory: what is open, the newest last, and the formulas of what is built, the newest first.
use Rattle.std.specs.Prelude.{◌≡◌, ℕ, ◌+◌, ◌≤◌, ◌<◌, ◌⊎◌, ◌||◌, Bool, true, false, IsTrue, IfSome, ◌++◌, length, filter, List, [], ◌∷◌, map, reverse, slice_index_or, nat_le, if◌then◌else◌, Option, Some, None, Result, Ok, Err}
use Rattle.std.specs.List.{list_all}
use Rattle.wpds_base.specs.Limits.{most_table2, most_table3}
use Rattle.truth_tables.specs.Formulas.{Formula, is_over}
use Rattle.truth_tables.specs.Grammar.{Operator as OperatorValue, least_left, Tree, depth, number_of, formula_of, has_large_table, is_variable_word}
use Rattle.wpds_port.specs.declared.Mark.{Mark}
use Rattle.wpds_port.specs.declared.Mark.TheVariants.{Open}
use Rattle.wpds_port.specs.declared.Word.{Word}
use Rattle.wpds_port.specs.Tokens.{word_text}
use Rattle.truth_tables.specs.Stacks.{Pending, AfterNot, AfterOperator, InBracket, First2, Second2, First3, Second3, Third3, Reading, Wants, Word2, Word3, Number2, Number3, Has, joined, after_operator, next_reading, at_end, tree_from, tree_of}
use Rattle.truth_tables.specs.Postfix.{taken}
use Rattle.truth_tables.specs.declared.part.Part.{Part}
use Rattle.truth_tables.specs.private.Depths.{least, least_of}
use Rattle.truth_tables.specs.Texts.{named}
use Rattle.truth_tables.specs.private.Shapes.{has_large, large_in}
use Rattle.truth_tables.specs.declared.reading.ExprRead.{ExprRead}
use Rattle.truth_tables.specs.declared.reading.ExprRead.TheVariants.{Form as FormAnswer, Table as TableAnswer, Deep as DeepAnswer}
use Rattle.truth_tables.specs.declared.stop.Stop.{Stop}
use Rattle.truth_tables.specs.declared.stop.Stop.TheVariants.{Form, Excess, Memory}
use Rattle.truth_tables.specs.declared.reader.OpenPart.{OpenPart}
use Rattle.truth_tables.specs.declared.reader.OpenPart.TheVariants.{Not, Operator, Bracket, First2 as KeptFirst2, Second2 as KeptSecond2, First3 as KeptFirst3, Second3 as KeptSecond3, Third3 as KeptThird3}
use Rattle.truth_tables.specs.declared.reader.Position.{Position}
use Rattle.truth_tables.specs.declared.reader.Position.TheVariants.{Wanted, Behind2, Behind3, Counted2, Counted3, Behind}

abbrev pub kept : Pending → OpenPart
kept AfterNot = Not
kept (AfterOperator o a) = Operator o (depth a)
kept InBracket = Bracket
kept (First2 n) = KeptFirst2 (number_of n)
kept (Second2 n a) = KeptSecond2 (number_of n) (depth a)
kept (First3 n) = KeptFirst3 (number_of n)
kept (Second3 n a) = KeptSecond3 (number_of n) (depth a)
kept (Third3 n a b) = KeptThird3 (number_of n) (depth a) (depth b)

abbrev pub held : List Pending → List (Formula (List ℕ))
held [] = []
held (AfterNot ∷ ps) = held ps
held (AfterOperator o a ∷ ps) = formula_of a ∷ held ps
held (InBracket ∷ ps) = held ps
held (First2 n ∷ ps) = held ps
held (Second2 n a ∷ ps) = formula_of a ∷ held ps
held (First3 n ∷ ps) = held ps
held (Second3 n a ∷ ps) = formula_of a ∷ held ps
held (Third3 n a b ∷ ps) = formula_of b ∷ formula_of a ∷ held ps

abbrev pub all_named : List (List ℕ) → List (Formula ℕ) → List (Formula (List ℕ))
all_named names fs = map (named names) fs

-- the formulas have a place among these names for the name, and are over as many variables
pub record AreNamed (names : List (List ℕ)) (gs : List (Formula (List ℕ))) (fs : List (Formula ℕ)) : Type 0 where
  pub same : gs ≡ all_named names fs
  pub over : IsTrue (list_all (is_over (length names)) fs)

pub record IsOpen (names : List (List ℕ)) (ps : List Pending) (now : List OpenPart) (fs : List (Formula ℕ)) : Type 0 where
  pub opened : map kept ps ≡ reverse now
  pub built : AreNamed names (held ps) fs
  pub small : has_large ps ≡ false

-- the same behind an operand of this depth
pub record HasOperand (limit : ℕ) (names : List (List ℕ)) (ps : List Pending) (e : Tree) (now : List OpenPart) (fs : List (Formula ℕ)) (d : ℕ) : Type 0 where
  pub opened : map kept ps ≡ reverse now
  pub built : AreNamed names (formula_of e ∷ held ps) fs
  pub small : has_large_table e || has_large ps ≡ false
  pub depth_is : d ≡ depth e
  pub shallow : d ≤ limit

-- a reading, where it stands so
abbrev pub IsAt : ℕ → List (List ℕ) → Reading → Position → List OpenPart → List (Formula ℕ) → Type 0
IsAt limit names r Wanted now fs = (ps : List Pending) × (r ≡ Wants ps) × IsOpen names ps now fs
IsAt limit names r Behind2 now fs = (ps : List Pending) × (r ≡ Word2 ps) × IsOpen names ps now fs
IsAt limit names r Behind3 now fs = (ps : List Pending) × (r ≡ Word3 ps) × IsOpen names ps now fs
IsAt limit names r (Counted2 t) now fs =
    (ps : List Pending) × (n : List ℕ) × (r ≡ Number2 ps n) × (t ≡ number_of n) × (t ≤ most_table2) × IsOpen names ps now fs
IsAt limit names r (Counted3 t) now fs =
    (ps : List Pending) × (n : List ℕ) × (r ≡ Number3 ps n) × (t ≡ number_of n) × (t ≤ most_table3) × IsOpen names ps now fs
IsAt limit names r (Behind d) now fs = (ps : List Pending) × (e : Tree) × (r ≡ Has ps e) × HasOperand limit names ps e now fs d

-- each expression that begins so is too deep, or has a table number that is too large
abbrev pub IsExcess : ℕ → Reading → Type 0
IsExcess limit r = (limit < least_of r) ⊎ (large_in r ≡ true)

-- an operand over parts of this depth, whose last part is put behind the others
abbrev pub IsMade : ℕ → ℕ → Part → List (Formula ℕ) → Result ℕ Stop → List (Formula ℕ) → Type 0
IsMade limit below p old (Ok d) new = (d ≡ below + 1) × (below < limit) × (new ≡ taken p old)
IsMade limit below p old (Err Excess) new = limit ≤ below
IsMade limit below p old (Err Memory) new = Unit {0}
IsMade limit below p old (Err Form) new = ⊥

-- an operand that is joined, where it is this much deep at least with what is open before it
abbrev pub IsJoined : ℕ → List (List ℕ) → List Pending × Tree → ℕ → Result ℕ Stop → List OpenPart → List (Formula ℕ) → Type 0
IsJoined limit names r l (Ok d) now fs = HasOperand limit names r.0 r.1 now fs d
IsJoined limit names r l (Err Excess) now fs = limit < l
IsJoined limit names r l (Err Memory) now fs = Unit {0}
IsJoined limit names r l (Err Form) now fs = ⊥

-- what comes of joining an operand with what is open
abbrev pub IsJoining : ℕ → ℕ → List OpenPart → List (Formula ℕ) → ℕ → Result ℕ Stop → List OpenPart → List (Formula ℕ) → Type 0
IsJoining limit level old fs operand result now gs =
    (names : List (List ℕ)) (ps : List Pending) (e : Tree) → HasOperand limit names ps e old fs operand
    → IsJoined limit names (joined level ps e) (least ps (depth e)) result now gs

-- what comes of a word more, which leads to this reading if to any
abbrev pub IsStep : ℕ → List (List ℕ) → Option Reading → Result Position Stop → List OpenPart → List (Formula ℕ) → Type 0
IsStep limit names n (Ok p) now fs = (q : Reading) × (n ≡ Some q) × IsAt limit names q p now fs
IsStep limit names n (Err Form) now fs = n ≡ None
IsStep limit names n (Err Excess) now fs = IfSome n (IsExcess limit)
IsStep limit names n (Err Memory) now fs = Unit {0}

-- what comes of leaving a part open
abbrev pub IsOpening : ℕ → List OpenPart → OpenPart → Result Position Stop → List OpenPart → Type 0
IsOpening limit old p (Ok q) now = (q ≡ Wanted) × (now ≡ old ++ p ∷ [])
IsOpening limit old p (Err Excess) now = limit ≤ length old
IsOpening limit old p (Err Memory) now = Unit {0}
IsOpening limit old p (Err Form) now = ⊥

-- the name stands in this place among the names
abbrev pub IsPlaceOf : List (List ℕ) → ℕ → List ℕ → Type 0
IsPlaceOf names place x = (place < length names) × (slice_index_or names place [] ≡ x)

-- the same of a mark that must be an opening bracket
abbrev pub IsBracketed : ℕ → List OpenPart → OpenPart → Mark → Result Position Stop → List OpenPart → Type 0
IsBracketed limit old p Open result now = IsOpening limit old p result now
IsBracketed limit old p m result now = result ≡ Err Form

-- what comes of a word more, in this place among the names if it is one
abbrev pub IsStepping : ℕ → Position → Word → ℕ → List OpenPart → List (Formula ℕ) → Result Position Stop → List OpenPart → List (Formula ℕ) → Type 0
IsStepping limit p w place old fs result now gs =
    (names : List (List ℕ)) (r : Reading) → IsAt limit names r p old fs
    → (is_variable_word w ≡ true → IsPlaceOf names place (word_text w))
    → IsStep limit names (next_reading r w) result now gs

-- what comes of a comma, or of a closing bracket, behind an operand that is joined
abbrev pub IsBehind : (List Pending → Tree → Option Reading) → ℕ → List OpenPart → List (Formula ℕ) → ℕ → Result Position Stop → List OpenPart → List (Formula ℕ) → Type 0
IsBehind next limit old fs d result now gs =
    (names : List (List ℕ)) (ps : List Pending) (e : Tree) → HasOperand limit names ps e old fs d
    → IsStep limit names (next ps e) result now gs

-- an operator behind an operand
abbrev pub with_operator : OperatorValue → List Pending → Tree → Option Reading
with_operator o ps e = Some (after_operator o (joined (least_left o) ps e))

-- the position behind an operand
abbrev pub behind_made : Result ℕ Stop → Result Position Stop
behind_made (Ok d) = Ok (Behind d)
behind_made (Err s) = Err s

-- the position behind the number of a table
abbrev pub counted2 : List ℕ → Result Position Stop
counted2 n = if nat_le (number_of n) most_table2 then Ok (Counted2 (number_of n)) else Err Excess

abbrev pub counted3 : List ℕ → Result Position Stop
counted3 n = if nat_le (number_of n) most_table3 then Ok (Counted3 (number_of n)) else Err Excess

-- what comes of the end, where the reading is this expression if any
abbrev pub IsEnd : ℕ → List (List ℕ) → Option Tree → Result (List (Formula ℕ)) Stop → Type 0
IsEnd limit names o (Ok fs) =
    (e : Tree) × (o ≡ Some e) × (has_large_table e ≡ false) × (depth e ≤ limit) × AreNamed names (formula_of e ∷ []) fs
IsEnd limit names o (Err Form) = o ≡ None
IsEnd limit names o (Err Excess) = IfSome o (λ e. limit < depth e)
IsEnd limit names o (Err Memory) = Unit {0}

abbrev pub IsEnding : ℕ → Position → List OpenPart → List (Formula ℕ) → Result (List (Formula ℕ)) Stop → Type 0
IsEnding limit p old fs result =
    (names : List (List ℕ)) (r : Reading) → IsAt limit names r p old fs → IsEnd limit names (at_end r) result

-- the place behind a word that is a variable or none
abbrev pub IsNextPlace : ℕ → Bool → Result ℕ Stop → Type 0
IsNextPlace place true (Ok next) = next ≡ place + 1
IsNextPlace place false (Ok next) = next ≡ place
IsNextPlace place b (Err s) = s ≡ Memory

abbrev pub variables_among : List Word → List (List ℕ)
variables_among ws = map word_text (filter is_variable_word ws)

-- what comes of building the expression that these words are
abbrev pub IsBuilding : ℕ → List Word → Result (List (Formula ℕ)) Stop → Type 0
IsBuilding limit ws (Ok fs) =
    (e : Tree) × (tree_of ws ≡ Some e) × (has_large_table e ≡ false) × (depth e ≤ limit) × AreNamed (variables_among ws) (formula_of e ∷ []) fs
IsBuilding limit ws (Err Form) = tree_of ws ≡ None
IsBuilding limit ws (Err Excess) = IfSome (tree_of ws) (λ e. (limit < depth e) ⊎ (has_large_table e ≡ true))
IsBuilding limit ws (Err Memory) = Unit {0}

-- the loop that builds it: with the words that are left the reading is what all words are
pub record IsBegun (limit : ℕ) (ws : List Word) (p : Position) (place : ℕ) (left : List Word) (now : List OpenPart) (fs : List (Formula ℕ)) : Type 0 where
  pub reading : Reading
  pub at : IsAt limit (variables_among ws) reading p now fs
  pub leads : tree_from reading left ≡ tree_of ws
  pub seen : List (List ℕ)
  pub names_are : variables_among ws ≡ seen ++ variables_among left
  pub place_is : place ≡ length seen

-- the answer on words that are no expression that is to be read, by its large table if they are one
abbrev pub unbuilt_answer : Option Bool → ExprRead
unbuilt_answer None = FormAnswer
unbuilt_answer (Some true) = TableAnswer
unbuilt_answer (Some false) = DeepAnswer
