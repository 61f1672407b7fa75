-- A canonical diagram over few bits has few nodes, so that 64 bits hold each reference.
use Rattle.std.proofs.Common.{◌≡◌, ℕ, zero, suc, ◌+◌, ◌*◌, ◌^◌, ◌<◌, ◌≤◌, Bool, true, false, cond, List, [], ◌∷◌, length, pow_mono, pow-suc, refl, ap, subst, sym, arith}
use Rattle.std.specs.Prelude.{Option, None, Some, nat_eq, slice_get}
use Rattle.std.proofs.lemmas.List.{length_push}
use Rattle.diagram_store.specs.declared.branch.Branch.{Branch}
use Rattle.diagram_store.specs.Nodes.{node_at, HasVariablesBelow}
use Rattle.diagram_store.specs.Meaning.{set_bit}
use Rattle.diagram_store.specs.Canonical.{IsCanonical}
use Rattle.diagram_store.proofs.CallerLemmas.{node_within}
use Rattle.relation_laws.specs.Building.{Parts, find_from, at_found, with_node, chosen, built}
use Rattle.relation_laws.specs.States.{old_state, new_state}
use Rattle.relation_laws.specs.Relations.{leads, relation_of}
use Rattle.relation_laws.proofs.CallerLemmas.{is_relation_of}

found_adds : (m : Branch) (nodes : List Branch) (found : Option ℕ) → length (at_found m nodes found).nodes ≤ length nodes + 1
found_adds m nodes None = let more = length_push nodes m in omega (arith, more)
found_adds m nodes (Some r) = omega arith

chosen_adds : (v low : ℕ) (high : Parts) → length (chosen v low high).nodes ≤ length high.nodes + 1
chosen_adds v low high = go (nat_eq low high.root)
  where
    go : (b : Bool) → length (cond b high (with_node (record { var = v; low = low; high = high.root }) high.nodes)).nodes ≤ length high.nodes + 1
    go true = omega arith
    go false = let m : Branch = record { var = v; low = low; high = high.root } in found_adds m high.nodes (find_from 2 m high.nodes)

-- a test on k bits adds fewer than 2 ^ k nodes
built_adds : (k v : ℕ) (f : (ℕ → Bool) → Bool) (out : List Branch) → length (built k v f out).nodes < length out + 2 ^ k
unfolding built
built_adds zero v f out = omega arith
built_adds (suc k) v f out =
    let low = built k (suc v) (λ bits. f (set_bit bits v false)) out in
    let high = built k (suc v) (λ bits. f (set_bit bits v true)) low.nodes in
    let first : length low.nodes < length out + 2 ^ k = built_adds k (suc v) (λ bits. f (set_bit bits v false)) out in
    let second : length high.nodes < length low.nodes + 2 ^ k = built_adds k (suc v) (λ bits. f (set_bit bits v true)) low.nodes in
    let last = chosen_adds v low.root high in
    let twice : 2 ^ suc k ≡ 2 ^ k * 2 = pow-suc 2 k in
    omega (arith, first, second, last, twice)

relation_nodes : (n : ℕ) (w : Parts) → length (relation_of n (leads w)).nodes < 2 ^ (2 * n)
unfolding relation_of
relation_nodes n w = let added = built_adds (2 * n) 0 (λ bits. leads w (old_state bits) (new_state bits)) [] in omega (arith, added)

few_nodes : (n : ℕ) (w : Parts) → IsCanonical w.root w.nodes → HasVariablesBelow (2 * n) w.nodes → length w.nodes < 2 ^ (2 * n)
few_nodes n w canonical below =
    subst (λ (v : Parts). length v.nodes < 2 ^ (2 * n)) (sym (is_relation_of n w canonical below (leads w) (λ x y. refl))) (relation_nodes n w)

-- references that 64 bits hold
abbrev pub HasReferences : Branch → Type 0
HasReferences b = (b.low < 2 ^ 64) × (b.high < 2 ^ 64)

pub has_references : (n : ℕ) (w : Parts) → n ≤ 24 → IsCanonical w.root w.nodes → HasVariablesBelow (2 * n) w.nodes → (i : ℕ) (b : Branch) → slice_get w.nodes i ≡ Some b → HasReferences b
has_references n w few canonical below i b at =
    let count = few_nodes n w canonical below in
    let most : 2 ^ (2 * n) ≤ 2 ^ 48 = pow_mono (let less : 2 * n ≤ 48 = omega (arith, few) in less) in
    let within = node_within w.nodes (suc (suc i)) b at in
    let earlier = canonical.reduced.earlier (suc (suc i)) b at in
    (omega (arith, count, most, within, earlier), omega (arith, count, most, within, earlier))
