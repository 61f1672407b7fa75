-- References and the nodes that they name.
use Rattle.std.proofs.Common.{◌≡◌, ℕ, zero, suc, ◌+◌, ◌<◌, ◌≤◌, List, length, refl, ap, sym, ◌∙◌, inl, inr, arith}
use Rattle.std.specs.Prelude.{Option, None, Some, ◌⊎◌, slice_get}
use Rattle.std.proofs.lemmas.Option.{slice_get_within, slice_get_cases, same_Some}
use Rattle.diagram_store.specs.declared.branch.Branch.{Branch}
use Rattle.diagram_store.specs.Nodes.{node_at, HasVariablesBelow}

pub option_cases : {X : Type 0} (o : Option X) → (o ≡ None) ⊎ ((x : X) × (o ≡ Some x))
option_cases None = inl refl
option_cases (Some x) = inr (x, refl)

pub node_within : (nodes : List Branch) (r : ℕ) (n : Branch) → node_at nodes r ≡ Some n → (2 ≤ r) × (r < length nodes + 2)
node_within nodes zero n e = cc
node_within nodes (suc zero) n e = cc
node_within nodes (suc (suc i)) n e = let w : i < length nodes = slice_get_within nodes i n e in (omega arith, omega arith)

pub node_there : (nodes : List Branch) (r : ℕ) → 2 ≤ r → r < length nodes + 2 → (n : Branch) × (node_at nodes r ≡ Some n)
node_there nodes zero a b = absurd (omega arith)
node_there nodes (suc zero) a b = absurd (omega arith)
node_there nodes (suc (suc i)) a b = elim (slice_get_cases nodes i).1 [
  | inl h ↦ (h.0, h.2)
  | inr h ↦ absurd (omega (arith, h.0))
]

pub no_node : (nodes : List Branch) (r : ℕ) → r < 2 → node_at nodes r ≡ None
no_node nodes zero b = refl
no_node nodes (suc zero) b = refl
no_node nodes (suc (suc i)) b = absurd (omega arith)

-- where there is no node, the reference is a constant
pub constant_below : (nodes : List Branch) (r : ℕ) → r < length nodes + 2 → node_at nodes r ≡ None → r < 2
constant_below nodes zero b e = omega arith
constant_below nodes (suc zero) b e = omega arith
constant_below nodes (suc (suc i)) b e = elim (slice_get_cases nodes i).1 [
  | inl h ↦ let f : None ≡ Some h.0 = sym e ∙ h.2 in cc
  | inr h ↦ absurd (omega (arith, h.0))
]

-- two references to one list name one node
pub one_node : (nodes : List Branch) (r : ℕ) (n m : Branch) → node_at nodes r ≡ Some n → node_at nodes r ≡ Some m → n ≡ m
one_node nodes r n m e f = same_Some n m (sym e ∙ f)

-- what a look-up in a view of the nodes found
pub node_found : (view nodes : List Branch) (o found : Option Branch) (r : ℕ) → view ≡ nodes → o ≡ node_at view r → o ≡ found → node_at nodes r ≡ found
node_found view nodes o found r e f g = ap (λ l. node_at l r) (sym e) ∙ sym f ∙ g

pub variables_from_each : (limit : ℕ) (nodes : List Branch) → ((k : ℕ) (n : Branch) → slice_get nodes k ≡ Some n → n.var < limit) → HasVariablesBelow limit nodes
variables_from_each limit nodes each zero n e = cc
variables_from_each limit nodes each (suc zero) n e = cc
variables_from_each limit nodes each (suc (suc k)) n e = each k n e
