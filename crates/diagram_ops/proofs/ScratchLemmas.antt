-- Nodes of a diagram as scratch nodes.
use Rattle.std.proofs.Common.{◌≡◌, ℕ, zero, suc, ◌+◌, ◌<◌, List, [], ◌∷◌, ◌++◌, length, take, get_or, refl, sym, subst, arith}
use Rattle.std.specs.Prelude.{Option, None, Some, slice_get, cond}
use Rattle.std.proofs.lemmas.List.{length-take-le}
use Rattle.diagram_store.specs.declared.branch.Branch.{Branch}
use Rattle.diagram_store.specs.Nodes.{node_at, IsReduced}
use Rattle.diagram_store.proofs.CallerLemmas.{node_within}
use Rattle.diagram_store.specs.Canonical.{IsCanonical}
use Rattle.diagram_store.specs.TripleTables.{same_key}
use Rattle.diagram_ops.specs.private.Scratch.{IsScratch, IsNext}
use Rattle.diagram_ops.specs.private.Images.{IsPlaceOf, IsValue}
use Rattle.diagram_ops.proofs.PushLemmas.{scratch_push}
use Rattle.diagram_ops.proofs.ImageLemmas.{node_of_list, root_within}

get_of_less : {X : Type 0} (xs : List X) (k i : ℕ) (x : X) → slice_get (take k xs) i ≡ Some x → slice_get xs i ≡ Some x
get_of_less xs zero i x e = cc
get_of_less [] (suc k) i x e = cc
get_of_less (y ∷ xs) (suc k) zero x e = e
get_of_less (y ∷ xs) (suc k) (suc i) x e = get_of_less xs k i x e

-- a node of the first ones is one of all
pub node_of_less : (nodes : List Branch) (k r : ℕ) (n : Branch) → node_at (take k nodes) r ≡ Some n → node_at nodes r ≡ Some n
node_of_less nodes k zero n e = e
node_of_less nodes k (suc zero) n e = e
node_of_less nodes k (suc (suc i)) n e = get_of_less nodes k i n e

-- each node may stand behind those before it
pub next_of : (nodes : List Branch) → IsReduced nodes → (k : ℕ) (d : Branch) → k < length nodes → IsNext (take k nodes) (get_or nodes k d)
next_of nodes whole k d below =
    let n : Branch = get_or nodes k d in
    let at : node_at nodes (k + 2) ≡ Some n = node_of_list nodes k d below in
    let count : length (take k nodes) ≡ k = length-take-le k nodes (omega (arith, below)) in
    let before = whole.earlier (k + 2) n at in
    let up = whole.rises (k + 2) n at in
    record {
      low = omega (arith, before.0, count);
      high = omega (arith, before.1, count);
      low_above = λ m e. up.0 m (node_of_less nodes k n.low m e);
      high_above = λ m e. up.1 m (node_of_less nodes k n.high m e);
      differs = whole.differs (k + 2) n at;
      fresh = λ r e.
          let same : r ≡ k + 2 = whole.distinct r (k + 2) n (node_of_less nodes k r n e) at in
          let within = (node_within (take k nodes) r n e).1 in
          absurd (omega (arith, same, within, count));
    }

none_of : (o : Option ℕ) → ((q : ℕ) → o ≡ Some q → ⊥) → o ≡ None
none_of None h = refl
none_of (Some q) h = absurd (h q refl)

-- the scratch with a node that may stand behind it
pub scratch_next : (places next : ℕ → ℕ → ℕ → Option ℕ) (nodes more : List Branch) (r x : ℕ) (n : Branch) → IsScratch places nodes → IsNext nodes n
    → more ≡ nodes ++ n ∷ [] → r ≡ length nodes + 2 → x ≡ n.var → ((a b c : ℕ) → next a b c ≡ cond (same_key (x, n.low, n.high) (a, b, c)) (Some r) (places a b c))
    → IsScratch next more
scratch_next places next nodes more r x n s new is count ex noted =
    (scratch_push places next nodes more r n.var n.low n.high n.var x s is count new.low new.high new.low_above new.high_above new.differs refl
    (none_of (places n.var n.low n.high) (λ q e. new.fresh q (s.found.sound q n e))) ex noted).scratch

-- the root of a diagram stands for itself among its own nodes
pub root_of_nodes : (scratch nodes : List Branch) (root : ℕ) → scratch ≡ nodes → IsCanonical root nodes → IsPlaceOf scratch root (IsValue nodes) nodes root
root_of_nodes scratch nodes root same c =
    let P : List Branch → Type 0 = λ l. IsPlaceOf l root (IsValue nodes) nodes root in
    subst P (sym same) (record { within = root_within nodes root c; means = λ bits. refl; above = λ v h. h })
