-- What the walk through a graph keeps.
use Rattle.std.specs.Prelude.{◌≡◌, ℕ, zero, suc, ◌+◌, ◌<◌, Bool, List, [], ◌∷◌, Option, None, Some, if◌then◌else◌}
use Rattle.witness_graph.specs.declared.node.Node.{Node}
use Rattle.witness_graph.specs.Order.{place_of, walk, post_order}

-- each number's place in the order, by a table that is looked up
abbrev pub KnowsPlaces : (ℕ → Option ℕ) → List ℕ → Type 0
KnowsPlaces table order = (k : ℕ) → table k ≡ place_of k order

-- the first of these that is not known
abbrev pub first_new : (ℕ → Bool) → List ℕ → Option ℕ
first_new known [] = None
first_new known (k ∷ ks) = if known k then first_new known ks else Some k

-- what is listed once the walks from a stack are done, the last of it first
abbrev pub finished : List Node → List ℕ → List ℕ → List ℕ
finished nodes [] order = order
finished nodes (k ∷ ks) order = walk nodes (suc k) (finished nodes ks order) k

-- a stack of falling numbers below a limit, none of which is listed
abbrev pub Falls : ℕ → List ℕ → List ℕ → Type 0
Falls limit [] order = Unit {0}
Falls limit (k ∷ ks) order = (k < limit) × (place_of k order ≡ None) × Falls k ks order

pub record IsWalking (nodes : List Node) (root : ℕ) (stack order : List ℕ) (table : ℕ → Option ℕ) : Type 0 where
  pub finishes : finished nodes stack order ≡ post_order nodes root
  pub falls : Falls (root + 1) stack order
  pub known : KnowsPlaces table order

-- one for a number without a place
abbrev pub lacks : Option ℕ → ℕ
lacks None = 1
lacks (Some i) = 0

-- how many numbers below a limit are not listed
unfoldable pub unlisted : ℕ → List ℕ → ℕ
unlisted zero order = 0
unlisted (suc n) order = lacks (place_of n order) + unlisted n order
