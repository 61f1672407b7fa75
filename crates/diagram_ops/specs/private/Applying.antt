-- What the walk through three operands keeps.
use Rattle.std.specs.Prelude.{◌≡◌, ℕ, ◌+◌, ◌<◌, Bool, List, length, Option, None, Some, option_map, nat_eq, nat_le, if◌then◌else◌}
use Rattle.truth_tables.specs.Tables.{value3_of}
use Rattle.diagram_store.specs.declared.branch.Branch.{Branch}
use Rattle.diagram_store.specs.Nodes.{node_at, IsAbove, IsReduced}
use Rattle.diagram_store.specs.Meaning.{value_at}
use Rattle.diagram_ops.specs.private.Scratch.{Keeps, Stands}

-- the variable of a reference, if it is a node
abbrev pub variable : List Branch → ℕ → Option ℕ
variable nodes r = option_map (λ n. n.var) (node_at nodes r)

-- the lower of two variables
abbrev pub lower : Option ℕ → Option ℕ → Option ℕ
lower None b = b
lower (Some v) None = Some v
lower (Some v) (Some w) = if nat_le v w then Some v else Some w

-- the place of a node's variable in an order, if there is a node
abbrev pub place_in : (ℕ → ℕ) → Option Branch → Option ℕ
place_in order found = option_map (λ n. order n.var) found

-- the place of a reference's variable in an order, if it is a node
abbrev pub place : (ℕ → ℕ) → List Branch → ℕ → Option ℕ
place order nodes r = place_in order (node_at nodes r)

abbrev pub cofactor_of : (ℕ → ℕ) → ℕ → Bool → ℕ → Option Branch → ℕ
cofactor_of order p b r None = r
cofactor_of order p b r (Some n) = if nat_eq (order n.var) p then (if b then n.high else n.low) else r

-- where the walk goes on from a reference by the bit of the variable at a place
abbrev pub cofactor_at : (ℕ → ℕ) → List Branch → ℕ → Bool → ℕ → ℕ
cofactor_at order nodes p b r = cofactor_of order p b r (node_at nodes r)

-- where the walk goes on from a reference by the bit of a variable
abbrev pub cofactor : List Branch → ℕ → Bool → ℕ → ℕ
cofactor nodes v b r = cofactor_at (λ k. k) nodes v b r

-- the value of the table at three references
abbrev pub IsTableOf : ℕ → List Branch → ℕ → ℕ → ℕ → (ℕ → Bool) → Bool → Type 0
IsTableOf table nodes x y z bits b = b ≡ value3_of table (value_at nodes x bits) (value_at nodes y bits) (value_at nodes z bits)

abbrev pub ComesBefore : List Branch → ℕ → ℕ → ℕ → ℕ → Type 0
ComesBefore nodes x y z v = IsAbove nodes v x × IsAbove nodes v y × IsAbove nodes v z

pub record IsApplied (table : ℕ) (nodes : List Branch) (x y z r : ℕ) : Type 0 where
  pub first : x < length nodes + 2
  pub second : y < length nodes + 2
  pub third : z < length nodes + 2
  pub stands : Stands nodes r (IsTableOf table nodes x y z) (ComesBefore nodes x y z)

-- each result that a table knows is one
abbrev pub AreApplied : ℕ → List Branch → (ℕ → ℕ → ℕ → Option ℕ) → Type 0
AreApplied table nodes results = (x y z r : ℕ) → results x y z ≡ Some r → IsApplied table nodes x y z r

pub record Applies (table : ℕ) (old new : List Branch) (results : ℕ → ℕ → ℕ → Option ℕ) (x y z r : ℕ) : Type 0 where
  pub reduced : IsReduced new
  pub keeps : Keeps old new
  pub known : AreApplied table new results
  pub applied : IsApplied table new x y z r
