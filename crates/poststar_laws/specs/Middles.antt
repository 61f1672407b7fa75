-- The middle states: one for each push rule, numbered behind the items in the order of the rules.
use Rattle.std.specs.Prelude.{ℕ, zero, suc, ◌+◌, nat_eq, Bool, List, [], ◌∷◌, length, Option, None, Some, if◌then◌else◌}
use Rattle.pushdown_rules.specs.declared.rule.Rule.{Rule}
use Rattle.pushdown_rules.specs.Pushdown.{Pushdown}

module _ {S W Map : Type 0} where
  abbrev pub is_push : Rule S W Map → Bool
  is_push r = nat_eq (length r.right) 2

  abbrev pub pushes_of : Rule S W Map → ℕ
  pushes_of r = if is_push r then 1 else 0

  -- how many push rules there are
  abbrev pub count_pushes : List (Rule S W Map) → ℕ
  count_pushes [] = 0
  count_pushes (r ∷ rs) = pushes_of r + count_pushes rs

  -- how many of the rules before number k are push rules
  abbrev pub pushes_before : List (Rule S W Map) → ℕ → ℕ
  pushes_before [] k = 0
  pushes_before (r ∷ rs) zero = 0
  pushes_before (r ∷ rs) (suc k) = pushes_of r + pushes_before rs k

  -- the middle state of the push rule of number k
  abbrev pub middle_of : ℕ → List (Rule S W Map) → ℕ → ℕ
  middle_of base rules k = base + pushes_before rules k

  -- the number of the push rule of which the state is the middle, where the first of these rules has number k, and the
  -- first push rule among them the middle m
  abbrev pub frame_from : ℕ → ℕ → List (Rule S W Map) → ℕ → Option ℕ
  frame_from k m [] q = None
  frame_from k m (r ∷ rs) q = if is_push r then (if nat_eq q m then Some k else frame_from (suc k) (suc m) rs q) else frame_from (suc k) m rs q

  -- the push rule of which the state is the middle, if it is one
  abbrev pub frame_of : ℕ → List (Rule S W Map) → ℕ → Option ℕ
  frame_of base rules q = frame_from 0 base rules q

-- the first middle state: behind the controls and so many items
abbrev pub base_of : {S W Map : Type 0} → ℕ → Pushdown S W Map → ℕ
base_of items p = p.controls + items
