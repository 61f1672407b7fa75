-- A walk to true, and the bits that lead it.
use Rattle.std.proofs.Common.{◌≡◌, ℕ, ◌<◌, Bool, true, false, List, length, refl, sym, ap, ◌∙◌, arith}
use Rattle.std.specs.Prelude.{Some, cond, slice_set}
use Rattle.std.proofs.lemmas.List.{get_or-set_same, get_or-set_other}
use Rattle.diagram_store.specs.declared.branch.Branch.{Branch}
use Rattle.diagram_store.specs.Nodes.{node_at, IsAbove}
use Rattle.diagram_store.specs.Meaning.{value_at, bits_of, GoesByBranch}

-- whatever the later bits, the walk from the root comes to a reference
abbrev pub Comes : List Branch → ℕ → ℕ → List Bool → Type 0
Comes nodes root at list = (f : ℕ → Bool) → ((k : ℕ) → IsAbove nodes k at → f k ≡ bits_of list k) → value_at nodes root f ≡ value_at nodes at f

branch : (nodes : List Branch) (n : Branch) (f : ℕ → Bool) (b : Bool) → cond b (value_at nodes n.high f) (value_at nodes n.low f) ≡ value_at nodes (cond b n.high n.low) f
branch nodes n f true = refl
branch nodes n f false = refl

-- one step more, with the bit of the node's variable set
pub comes_on : (nodes : List Branch) → GoesByBranch nodes → (root at : ℕ) (n : Branch) → node_at nodes at ≡ Some n → (list : List Bool) → n.var < length list → Comes nodes root at list
    → (b : Bool) (child : ℕ) → child ≡ cond b n.high n.low → IsAbove nodes n.var child → Comes nodes root child (slice_set list n.var b)
comes_on nodes goes root at n there list within comes b child is above f same =
    let set_there : f n.var ≡ b = same n.var above ∙ get_or-set_same list n.var b false within in
    comes f (λ k before.
    let less : k < n.var = before n there in
    let other : k ≡ n.var → ⊥ = λ e. absurd (omega arith) in
    same k (λ m e. let up : n.var < m.var = above m e in omega arith) ∙ get_or-set_other list n.var k b false other)
    ∙ goes at n f there
    ∙ ap (λ c. cond c (value_at nodes n.high f) (value_at nodes n.low f)) set_there
    ∙ branch nodes n f b
    ∙ ap (λ r. value_at nodes r f) (sym is)
