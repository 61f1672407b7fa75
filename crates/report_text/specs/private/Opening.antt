-- Runs that are begun, and what they go on with.
use Rattle.std.specs.Prelude.{◌≡◌, ℕ, zero, suc, ◌+◌, ◌*◌, ◌<◌, ◌≤◌, List, [], ◌∷◌, ◌++◌, All, map, fold, Option, None, Some, option_to_list}
use Rattle.witness_graph.specs.Runs.{concatenations, earlier_runs}
use Rattle.report_text.specs.declared.beginning.Part.{Part}
use Rattle.report_text.specs.declared.beginning.Part.TheVariants.{Rule, Node}
use Rattle.report_text.specs.declared.beginning.Beginning.{Beginning}

abbrev pub node_part : ℕ → Part
node_part k = Node k

-- ---- what they stand for

abbrev pub runs_by : (ℕ → List (List ℕ)) → Part → List (List ℕ)
runs_by known (Rule r) = (r ∷ []) ∷ []
runs_by known (Node k) = known k

-- the runs of parts one after the other, of which the last comes first
abbrev pub rest_runs : (ℕ → List (List ℕ)) → List Part → List (List ℕ)
rest_runs known parts = fold (λ rest part. concatenations (runs_by known part) rest) ([] ∷ []) parts

-- each of these runs and then those of parts, behind these rules
abbrev pub runs_behind : (ℕ → List (List ℕ)) → List ℕ → List (List ℕ) → List Part → List (List ℕ)
runs_behind known rules runs parts = map (λ rest. rules ++ rest) (concatenations runs (rest_runs known parts))

abbrev pub begun_runs : (ℕ → List (List ℕ)) → Beginning → List (List ℕ)
begun_runs known b = map (λ rest. b.rules.items ++ rest) (rest_runs known b.parts.items)

-- those of the last first
abbrev pub stack_runs : (ℕ → List (List ℕ)) → List Beginning → List (List ℕ)
stack_runs known stack = fold (λ later b. begun_runs known b ++ later) [] stack

-- ---- how many steps they take at most

-- a node with this number, for each step of what follows it
unfoldable pub node_steps : ℕ → ℕ
node_steps zero = 3
node_steps (suc k) = node_steps k + node_steps k * (node_steps k * 2) + 1

abbrev pub steps_by : Part → ℕ
steps_by (Rule r) = 2
steps_by (Node k) = node_steps k

abbrev pub part_steps : Option ℕ → ℕ
part_steps None = 1
part_steps (Some k) = node_steps k

abbrev pub parts_steps : Option ℕ → Option ℕ → ℕ
parts_steps first second = part_steps first * (part_steps second * 2)

abbrev pub earlier_steps : Option ℕ → ℕ
earlier_steps None = 0
earlier_steps (Some k) = node_steps k

abbrev pub steps : List Part → ℕ
steps parts = fold (λ after part. steps_by part * after) 1 parts

abbrev pub stack_steps : List Beginning → ℕ
stack_steps stack = fold (λ later b. steps b.parts.items + later) 0 stack

-- ---- which nodes they name

abbrev pub IsWithin : ℕ → Part → Type 0
IsWithin n (Rule r) = Unit {0}
IsWithin n (Node k) = k < n

abbrev pub AreWithin : ℕ → List Part → Type 0
AreWithin n parts = All (IsWithin n) parts

abbrev pub IsStack : ℕ → List Beginning → Type 0
IsStack n stack = All (λ b. AreWithin n b.parts.items) stack

-- ---- what is done to them

module _ (n : ℕ) (known : ℕ → List (List ℕ)) where
  -- Parts came first that stand for these runs.
  pub record IsPut (these : List (List ℕ)) (times : ℕ) (old new : List Part) : Type 0 where
    pub runs : rest_runs known new ≡ concatenations these (rest_runs known old)
    pub fewer : steps new ≤ times * steps old
    pub within : AreWithin n old → AreWithin n new

  -- what has the runs of the node before in place of all that a node opens
  pub record IsEarlier (before : Option ℕ) (b : Beginning) (earlier : Option Beginning) : Type 0 where
    pub runs : stack_runs known (option_to_list earlier) ≡ runs_behind known b.rules.items (earlier_runs known before) b.parts.items
    pub fewer : stack_steps (option_to_list earlier) ≤ earlier_steps before * steps b.parts.items
    pub within : IsStack n (option_to_list earlier)

  -- What stands on the stack stands for these runs first, in fewer steps than so many.
  pub record IsOpened (these : List (List ℕ)) (most : ℕ) (old new : List Beginning) : Type 0 where
    pub runs : stack_runs known new ≡ these ++ stack_runs known old
    pub fewer : stack_steps new < most + stack_steps old
    pub within : IsStack n old → IsStack n new

  -- The first of the runs of the stack is this one, or there is none, and the others are left.
  pub record IsNext (run : Option (List ℕ)) (old new : List Beginning) : Type 0 where
    pub runs : stack_runs known old ≡ option_to_list run ++ stack_runs known new
    pub last : run ≡ None → stack_runs known new ≡ []
    pub within : IsStack n new
