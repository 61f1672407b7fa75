-- A walk in post-order leaves each reference in its turn.
use Rattle.std.proofs.Common.{◌≡◌, ℕ, zero, suc, ◌+◌, ◌<◌, ◌≤◌, List, [], ◌∷◌, ◌++◌, length, refl, sym, ap, ap₂, ◌∙◌, subst, inl, inr, arith}
use Rattle.std.specs.Prelude.{Some, slice_get, take}
use Rattle.std.proofs.lemmas.Bool.{cases_lt}
use Rattle.std.proofs.lemmas.Option.{same_Some}
use Rattle.std.proofs.lemmas.Grind.{merely}
use Rattle.std.proofs.Math.Logic.{∥∥₁_elim}
use Rattle.std.proofs.Math.Seq.{take-length}
use Rattle.std.proofs.Props.{props}
use Rattle.wpds_base.specs.Lists.{IsIn}
use Rattle.diagram_store.specs.declared.branch.Branch.{Branch}
use Rattle.diagram_store.specs.Nodes.{node_at, IsReduced, HasVariablesBelow}
use Rattle.diagram_store.specs.Canonical.{IsWalked, constant, again, leaves, IsCanonical}
use Rattle.diagram_store.specs.private.Turns.{turn_after, IsTurned}
use Rattle.diagram_store.proofs.NodeLemmas.{node_there}
use Rattle.diagram_store.proofs.MeaningLemmas.{Same}
use Rattle.diagram_store.proofs.TurnLemmas.{turn_below, turn_stays, turn_past, leaves_none, left_node, Leaves, turned_is_one, turned_reads, ReadsBelow}
use Rattle.diagram_store.proofs.TurnLemmas.{leaves as leaves_in_turn}

taken_next : {X : Type 0} (xs : List X) (i : ℕ) (x : X) → slice_get xs i ≡ Some x → take i xs ++ x ∷ [] ≡ take (suc i) xs
taken_next [] i x e = cc
taken_next (y ∷ ys) zero x e = ap (λ z. z ∷ []) (sym (same_Some y x e))
taken_next (y ∷ ys) (suc i) x e = ap (λ zs. y ∷ zs) (taken_next ys i x e)

taken_has : {X : Type 0} (xs : List X) (k i : ℕ) (x : X) → slice_get xs i ≡ Some x → i < k → IsIn x (take k xs)
taken_has xs zero i x e below = absurd (omega arith)
taken_has [] (suc k) i x e below = cc
taken_has (y ∷ ys) (suc k) zero x e below = inl (same_Some y x e)
taken_has (y ∷ ys) (suc k) (suc i) x e below = inr (taken_has ys k i x e (omega arith))

has_taken : {X : Type 0} (xs : List X) (k : ℕ) (x : X) → IsIn x (take k xs) → (i : ℕ) × (i < k) × (slice_get xs i ≡ Some x)
has_taken xs zero x is = absurd is
has_taken [] (suc k) x is = absurd is
has_taken (y ∷ ys) (suc k) x (inl is) = (0, omega arith, ap Some is)
has_taken (y ∷ ys) (suc k) x (inr is) = let h = has_taken ys k x is in (suc h.0, omega (arith, h.1), h.2)

-- what ends in x is a beginning up to a place of x
taken_end : {X : Type 0} (xs ys : List X) (x : X) (j : ℕ) → j ≤ length xs → ys ++ x ∷ [] ≡ take j xs → (i : ℕ) × (j ≡ i + 1) × (ys ≡ take i xs) × (slice_get xs i ≡ Some x)
taken_end xs [] x zero h e = cc
taken_end xs (y ∷ ys) x zero h e = cc
taken_end [] ys x (suc j) h e = absurd (omega arith)
taken_end (z ∷ zs) [] x (suc zero) h e = (0, refl, refl, cc)
taken_end (z ∷ []) [] x (suc (suc j)) h e = absurd (omega arith)
taken_end (z ∷ w ∷ ws) [] x (suc (suc j)) h e = cc
taken_end (z ∷ zs) (y ∷ ys) x (suc j) h e =
    let first : y ≡ z = cc in
    let rest : ys ++ x ∷ [] ≡ take j zs = cc in
    let t = taken_end zs ys x j (omega arith) rest in
    (suc t.0, omega (arith, t.1), ap₂ (λ a l. a ∷ l) first t.2, t.3)

-- what begins nothing has no length
taken_none : {X : Type 0} (xs : List X) (k : ℕ) → k ≤ length xs → [] ≡ take k xs → k ≡ 0
taken_none xs zero h e = refl
taken_none [] (suc k) h e = absurd (omega arith)
taken_none (y ∷ ys) (suc k) h e = cc

two_more : (x : ℕ) → 2 ≤ x → (m : ℕ) × (x ≡ m + 2)
two_more zero h = absurd (omega arith)
two_more (suc zero) h = absurd (omega arith)
two_more (suc (suc m)) h = (m, omega arith)

stays : (nodes : List Branch) (k r : ℕ) → k ≤ length nodes → r < k + 2 → IsWalked nodes (take k nodes) r (take k nodes)
stays nodes k zero h b = constant (omega arith)
stays nodes k (suc zero) h b = constant (omega arith)
stays nodes k (suc (suc i)) h b = let n = node_there nodes (suc (suc i)) (omega arith) (omega arith) in again n.1 (taken_has nodes k i n.0 n.1 (omega arith))

-- a walk by turns, as a walk by the nodes that were left
abbrev IsWalkedByTurns : List Branch → ℕ → Type 0
IsWalkedByTurns nodes d = (k r j : ℕ) → k ≤ length nodes → j ≤ length nodes → turn_after nodes d (k + 2) r ≡ Some (j + 2) → IsWalked nodes (take k nodes) r (take j nodes)

walked_before : (nodes : List Branch) (d k r j : ℕ) → k ≤ length nodes → r < k + 2 → turn_after nodes d (k + 2) r ≡ Some (j + 2) → IsWalked nodes (take k nodes) r (take j nodes)
walked_before nodes d k r j h below e =
    let is = turn_stays nodes d (k + 2) r (j + 2) below e in
    let same : k ≡ j = omega (arith, is) in
    subst (λ (i : ℕ). IsWalked nodes (take k nodes) r (take i nodes)) same (stays nodes k r h below)

walked_node : (nodes : List Branch) (d : ℕ) → IsWalkedByTurns nodes d → (k r j : ℕ) → k ≤ length nodes → j ≤ length nodes → k + 2 ≤ r → Leaves nodes d (k + 2) r (j + 2)
    → IsWalked nodes (take k nodes) r (take j nodes)
walked_node nodes d next k zero j h h' above l = absurd (omega arith)
walked_node nodes d next k (suc zero) j h h' above l = absurd (omega arith)
walked_node nodes d next k (suc (suc i)) j h h' above l =
    let m = two_more l.middle (let past = turn_past nodes d (k + 2) l.node.low l.middle l.low in omega (arith, past.0)) in
    let past = turn_past nodes d l.middle l.node.high (suc (suc i)) l.high in
    let ends : j + 2 ≡ suc (suc i) + 1 = l.ends in
    let first = next k l.node.low m.0 h (omega (arith, past.0, m.1, ends)) (l.low ∙ ap Some m.1) in
    let second = next m.0 l.node.high i (omega (arith, past.0, m.1, ends)) (omega (arith, ends))
    (ap (λ x. turn_after nodes d x l.node.high) (sym m.1) ∙ l.high ∙ ap Some (omega arith)) in
    let last : suc i ≡ j = omega (arith, ends) in
    subst (λ (l : List Branch). IsWalked nodes (take k nodes) (suc (suc i)) l) (taken_next nodes i l.node l.there ∙ ap (λ x. take x nodes) last) (leaves l.there first second)

walked_by_turns : (nodes : List Branch) (d : ℕ) → IsWalkedByTurns nodes d
walked_by_turns nodes zero k r j h h' e = elim (cases_lt r (k + 2)) [
  | inl below ↦ walked_before nodes zero k r j h below e
  | inr above ↦ absurd (leaves_none nodes (k + 2) r (j + 2) above e)
]
walked_by_turns nodes (suc d) k r j h h' e = elim (cases_lt r (k + 2)) [
  | inl below ↦ walked_before nodes (suc d) k r j h below e
  | inr above ↦ walked_node nodes d (walked_by_turns nodes d) k r j h h' above (leaves_in_turn nodes d (k + 2) r (j + 2) above e)
]

-- what was left is a beginning of the nodes, and a walk from the reference ends at this turn
record EndsAt (nodes left : List Branch) (r j : ℕ) : Type 0 where
  pub count : ℕ
  pub up : count ≤ j
  pub taken : left ≡ take count nodes
  pub turns : (d : ℕ) → r ≤ d → turn_after nodes d (count + 2) r ≡ Some (j + 2)

turns_at_node : (nodes : List Branch) (d k m i r : ℕ) (n : Branch) → IsReduced nodes → node_at nodes r ≡ Some n → r ≡ i + 2 → k ≤ m → m ≤ i
    → ((d : ℕ) → n.low ≤ d → turn_after nodes d (k + 2) n.low ≡ Some (m + 2))
    → ((d : ℕ) → n.high ≤ d → turn_after nodes d (m + 2) n.high ≡ Some (i + 2))
    → r ≤ d → turn_after nodes d (k + 2) r ≡ Some (i + 1 + 2)
turns_at_node nodes zero k m i r n all at is up up' low high deep = absurd (omega arith)
turns_at_node nodes (suc d) k m i r n all at is up up' low high deep =
    let before = all.earlier r n at in
    left_node nodes d (k + 2) r (m + 2) n at (omega arith) (low d (omega (arith, before.0))) (high d (omega (arith, before.1)) ∙ ap Some (sym is))
    ∙ ap Some (omega arith)

module _ (nodes : List Branch) (all : IsReduced nodes) where
  turns_by_walk : (left : List Branch) (r : ℕ) (after : List Branch) → IsWalked nodes left r after → (j : ℕ) → j ≤ length nodes → after ≡ take j nodes → EndsAt nodes left r j
  turns_by_walk left r after (constant small) j h e =
      record { count = j; up = omega arith; taken = e; turns = λ d deep. turn_below nodes d (j + 2) r (omega arith) }
  turns_by_walk left r after (again {n = n} at is) j h e =
      let t = has_taken nodes j n (subst (λ (l : List Branch). IsIn n l) e is) in
      let same : r ≡ suc (suc t.0) = all.distinct r (suc (suc t.0)) n at t.2 in
      record { count = j; up = omega arith; taken = e; turns = λ d deep. turn_below nodes d (j + 2) r (omega (arith, same, t.1)) }
  turns_by_walk left r next (leaves {middle = middle} {after = after} {n = n} at low high) j h e =
      let t = taken_end nodes after n j h e in
      let same : r ≡ suc (suc t.0) = all.distinct r (suc (suc t.0)) n at t.3 in
      let last : j ≡ t.0 + 1 = t.1 in
      let second = turns_by_walk middle n.high after high t.0 (omega arith) t.2 in
      let first = turns_by_walk left n.low middle low second.count (omega (arith, second.up)) second.taken in
      record {
        count = first.count;
        up = omega (arith, first.up, second.up);
        taken = first.taken;
        turns = λ d deep.
            turns_at_node nodes d first.count second.count t.0 r n all at (omega arith) first.up second.up first.turns second.turns deep
            ∙ ap (λ x. Some (x + 2)) (sym last);
      }

turned_by_walk : (root : ℕ) (nodes : List Branch) → IsReduced nodes → IsWalked nodes [] root nodes → turn_after nodes root 2 root ≡ Some (length nodes + 2)
turned_by_walk root nodes all walk =
    let t = turns_by_walk nodes all [] root nodes walk (length nodes) (omega arith) (sym (take-length nodes)) in
    let none : t.count ≡ 0 = taken_none nodes t.count t.up t.taken in
    ap (λ k. turn_after nodes root (k + 2) root) (sym none) ∙ t.turns root (omega arith)

pub turned_from_canonical : (root : ℕ) (nodes : List Branch) → IsCanonical root nodes → IsTurned root nodes
turned_from_canonical root nodes c = record { reduced = c.reduced; post_order = ∥∥₁_elim c.post_order (hlevel props) (turned_by_walk root nodes c.reduced) }

pub canonical_from_turned : (root : ℕ) (nodes : List Branch) → IsTurned root nodes → IsCanonical root nodes
canonical_from_turned root nodes c = record {
  reduced = c.reduced;
  post_order = merely (subst (λ (l : List Branch). IsWalked nodes [] root l) (take-length nodes) (walked_by_turns nodes root 0 root (length nodes) (omega arith) (omega arith) c.post_order));
}

pub canonical_is_one : (a b : List Branch) (r s : ℕ) → IsCanonical r a → IsCanonical s b → Same a r b s → (r ≡ s) × (a ≡ b)
canonical_is_one a b r s p q same = turned_is_one a b r s (turned_from_canonical r a p) (turned_from_canonical s b q) same

pub canonical_reads : (limit : ℕ) (nodes : List Branch) (root : ℕ) → IsCanonical root nodes → ReadsBelow limit nodes root → HasVariablesBelow limit nodes
canonical_reads limit nodes root c reads = turned_reads limit nodes root (turned_from_canonical root nodes c) reads
