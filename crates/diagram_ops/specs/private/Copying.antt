-- The copy of scratch nodes in canonical order.
use Rattle.std.specs.Prelude.{◌≡◌, ℕ, ◌+◌, ◌<◌, Bool, List, length, Option, Some}
use Rattle.diagram_store.specs.declared.branch.Branch.{Branch}
use Rattle.diagram_store.specs.Nodes.{node_at, IsAbove, IsReduced}
use Rattle.diagram_store.specs.Meaning.{value_at}
use Rattle.diagram_store.specs.Canonical.{IsWalked}
use Rattle.diagram_ops.specs.private.Scratch.{Keeps}

-- p of the copy means what r of the scratch does
pub record IsCopied (scratch : List Branch) (r : ℕ) (out : List Branch) (p : ℕ) : Type 0 where
  pub from : r < length scratch + 2
  pub to : p < length out + 2
  pub means : (bits : ℕ → Bool) → value_at out p bits ≡ value_at scratch r bits
  pub above : (v : ℕ) → IsAbove scratch v r → IsAbove out v p

-- reduced nodes, and the place of each reference that is copied
pub record IsCopy (scratch : List Branch) (places : ℕ → Option ℕ) (out : List Branch) : Type 0 where
  pub reduced : IsReduced out
  pub placed : (r p : ℕ) → places r ≡ Some p → IsCopied scratch r out p
  pub every : (p : ℕ) (m : Branch) → node_at out p ≡ Some m → (r : ℕ) × (places r ≡ Some p)

-- a reference is copied, with all that it reaches, in the order of a walk
pub record Copies (scratch : List Branch) (old : ℕ → Option ℕ) (before : List Branch) (new : ℕ → Option ℕ) (after : List Branch) (r p : ℕ) : Type 0 where
  pub copy : IsCopy scratch new after
  pub keeps : Keeps before after
  pub others : (k : ℕ) → r < k → new k ≡ old k
  pub copied : IsCopied scratch r after p
  pub walk : IsWalked after before p after
