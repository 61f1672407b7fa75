-- Nodes of a table that are found by themselves, and one more of them.
use Rattle.std.proofs.Common.{◌≡◌, ℕ, zero, suc, ◌+◌, ◌<◌, ◌≤◌, Bool, true, false, ◌&&◌, List, [], ◌∷◌, ◌++◌, length, map, refl, sym, ap, ◌∙◌, subst, inl, inr, arith}
use Rattle.std.specs.Prelude.{Option, None, Some, ◌⊎◌, nat_eq, cond, slice_get, option_map, MatchOption, IsTrue}
use Rattle.std.proofs.lemmas.Bool.{cond-true, eq-eqb}
use Rattle.std.proofs.lemmas.Option.{same_Some, slice_get-map}
use Rattle.std.proofs.lemmas.List.{length_push}
use Rattle.std.specs.Cmp.{unsigned_tied}
use Rattle.std.specs.declared.cmp.Ordering.{Ordering}
use Rattle.std.specs.declared.cmp.Ordering.TheVariants.{Less, Equal, Greater}
use Rattle.std.specs.Ordering.{eq_by_cmp, is_eq, nat_cmp, ordering_then}
use Rattle.key_rows.specs.KeyLaws.{same_numbers, both_equal}
use Rattle.key_rows.specs.Members.{has, number_of}
use Rattle.key_rows.specs.Positions.{last_where}
use Rattle.diagram_store.specs.declared.branch.Branch.{Branch}
use Rattle.diagram_store.specs.Nodes.{node_at, IsAbove, IsReduced, HasVariablesBelow}
use Rattle.diagram_ops.specs.contracts.node.NodeOrd.TheImpl.{ghosts as of_nodes}
use Rattle.diagram_ops.specs.declared.node.Node.{Node}
use Rattle.diagram_ops.specs.NodeTables.{Keeps, KeepsLimits}
use Rattle.diagram_ops.specs.private.Scratch.{Stands, IsChoice}
use Rattle.diagram_ops.specs.private.TableNodes.{branch_of, branches_of, most_nodes, IsMade}
use Rattle.diagram_ops.proofs.KeepingLemmas.{keeps_same}
use Rattle.diagram_ops.proofs.PushLemmas.{keeps_push, node_push, reduced_push, stands_node}

module _ {X : Type 0} (p : X → Bool) where
  -- the last that passes stands there, and passes
  pub last_there : (xs : List X) (k : ℕ) → last_where p xs ≡ Some k → (x : X) × (slice_get xs k ≡ Some x) × (p x ≡ true)
  last_there [] k e = cc
  last_there (y ∷ ys) k e = elim (last_where p ys) as (λ o. last_where p ys ≡ o → elim o [ Some j ↦ Some (suc j) | None ↦ cond (p y) (Some 0) None ] ≡ Some k → (x : X) × (slice_get (y ∷ ys) k ≡ Some x) × (p x ≡ true)) [
    | Some j ↦ λ was f.
        let is : suc j ≡ k = same_Some (suc j) k f in
        let x = last_there ys j was in
        (x.0, ap (slice_get (y ∷ ys)) (sym is) ∙ x.1, x.2)
    | None ↦ λ was f. elim (p y) as (λ b. p y ≡ b → cond b (Some 0) None ≡ Some k → (x : X) × (slice_get (y ∷ ys) k ≡ Some x) × (p x ≡ true)) [
      | true ↦ λ h g. let is : 0 ≡ k = same_Some 0 k g in (y, ap (slice_get (y ∷ ys)) (sym is), h)
      | false ↦ λ h g. cc
    ] refl f
  ] refl e

  abbrev next_last : Bool → Option ℕ → Option ℕ
  next_last b (Some j) = Some (suc j)
  next_last b None = cond b (Some 0) None

  some_last : (o : Option ℕ) (b : Bool) → b ≡ true → next_last b o ≡ None → ⊥
  some_last (Some j) b h f = cc
  some_last None true h f = cc
  some_last None false h f = cc

  none_behind : (o : Option ℕ) (b : Bool) → next_last b o ≡ None → o ≡ None
  none_behind (Some j) b f = cc
  none_behind None b f = refl

  -- where none is last, none passes
  pub none_there : (xs : List X) → last_where p xs ≡ None → (k : ℕ) (x : X) → slice_get xs k ≡ Some x → p x ≡ true → ⊥
  none_there [] e k x at passes = cc
  none_there (y ∷ ys) e zero x at passes = some_last (last_where p ys) (p y) (ap p (same_Some y x at) ∙ passes) e
  none_there (y ∷ ys) e (suc k) x at passes = none_there ys (none_behind (last_where p ys) (p y) e) k x at passes

  pub last_pushed : (xs : List X) (y : X) → last_where p (xs ++ y ∷ []) ≡ cond (p y) (Some (length xs)) (last_where p xs)
  last_pushed [] y = refl
  last_pushed (x ∷ xs) y =
      ap (λ o. elim o [ Some k ↦ Some (suc k) | None ↦ cond (p x) (Some 0) None ]) (last_pushed xs y)
      ∙ elim (p y) as (λ b. elim (cond b (Some (length xs)) (last_where p xs)) [ Some k ↦ Some (suc k) | None ↦ cond (p x) (Some 0) None ] ≡ cond b (Some (suc (length xs))) (elim (last_where p xs) [ Some k ↦ Some (suc k) | None ↦ cond (p x) (Some 0) None ])) [
        | true ↦ refl
        | false ↦ refl
      ]

then_test : (a b : Ordering) → is_eq (ordering_then a b) ≡ (is_eq a && is_eq b)
then_test Less b = refl
then_test Equal b = refl
then_test Greater b = refl

-- nodes that the order does not tell apart have the same parts
pub node_test : (a b : Node) → eq_by_cmp of_nodes.cmp a b ≡ (nat_eq a.var b.var && (nat_eq a.low b.low && nat_eq a.high b.high))
node_test a b =
    then_test (nat_cmp a.var b.var) (ordering_then (nat_cmp a.low b.low) (nat_cmp a.high b.high))
    ∙ ap (λ t. eq_by_cmp nat_cmp a.var b.var && t) (then_test (nat_cmp a.low b.low) (nat_cmp a.high b.high))
    ∙ ap (λ t. t && (eq_by_cmp nat_cmp a.low b.low && eq_by_cmp nat_cmp a.high b.high)) (unsigned_tied a.var b.var)
    ∙ ap (λ t. nat_eq a.var b.var && (t && eq_by_cmp nat_cmp a.high b.high)) (unsigned_tied a.low b.low)
    ∙ ap (λ t. nat_eq a.var b.var && (nat_eq a.low b.low && t)) (unsigned_tied a.high b.high)

moved : (a b c : Bool) → ((b && c) && a) ≡ (a && (b && c))
moved true true true = refl
moved true true false = refl
moved true false c = refl
moved false true true = refl
moved false true false = refl
moved false false c = refl

-- as the code tests it
pub is_key_test : (a b : Node) → ((nat_eq a.low b.low && nat_eq a.high b.high) && nat_eq a.var b.var) ≡ eq_by_cmp of_nodes.cmp a b
is_key_test a b = moved (nat_eq a.var b.var) (nat_eq a.low b.low) (nat_eq a.high b.high) ∙ sym (node_test a b)

node_parts : (a b : Node) → a.var ≡ b.var → a.low ≡ b.low → a.high ≡ b.high → a ≡ b
node_parts a b v l h =
    let made : ℕ → ℕ → ℕ → Node = λ x y z. record { var = x; low = y; high = z } in
    ap (λ x. made x a.low a.high) v ∙ ap (λ x. made b.var x a.high) l ∙ ap (λ x. made b.var b.low x) h

pub same_node : (a b : Node) → eq_by_cmp of_nodes.cmp a b ≡ true → a ≡ b
same_node a b e =
    let first = both_equal (nat_cmp a.var b.var) (ordering_then (nat_cmp a.low b.low) (nat_cmp a.high b.high)) e in
    let second = both_equal (nat_cmp a.low b.low) (nat_cmp a.high b.high) first.1 in
    node_parts a b (same_numbers a.var b.var first.0) (same_numbers a.low b.low second.0) (same_numbers a.high b.high second.1)

node_itself : (a : Node) → eq_by_cmp of_nodes.cmp a a ≡ true
node_itself a =
    node_test a a
    ∙ ap (λ t. t && (nat_eq a.low a.low && nat_eq a.high a.high)) (eq-eqb a.var a.var refl)
    ∙ ap (λ t. t && nat_eq a.high a.high) (eq-eqb a.low a.low refl)
    ∙ eq-eqb a.high a.high refl

abbrev itself : Node → Node
itself n = n

-- where a node stands
abbrev pub number : Node → List Node → Option ℕ
number n nodes = number_of of_nodes.cmp itself n nodes

module _ (old new : List Node) (node : Node) (made : MatchOption (number node old) (new ≡ old ++ node ∷ []) (λ _. new ≡ old)) where
  -- once it is made it is found
  pub made_found : number node new ≡ None → ⊥
  made_found none = elim (number node old) as (λ o. number node old ≡ o → MatchOption o (new ≡ old ++ node ∷ []) (λ _. new ≡ old) → ⊥) [
    | None ↦ λ was m.
        let f : Some (length old) ≡ None =
        sym (ap (number node) m ∙ last_pushed (has of_nodes.cmp itself node) old node ∙ cond-true (eq_by_cmp of_nodes.cmp node node) (Some (length old)) (number node old) (node_itself node)) ∙ none in
        cc
    | Some j ↦ λ was m. let f : Some j ≡ None = sym was ∙ ap (number node) (sym m) ∙ none in cc
  ] refl made

  pub made_at : (k : ℕ) → number node new ≡ Some k → IsMade old new node k
  made_at k e = record {
    there = let t = last_there (has of_nodes.cmp itself node) new k e in t.1 ∙ ap Some (sym (same_node node t.0 t.2));
    either = elim (number node old) as (λ o. number node old ≡ o → MatchOption o (new ≡ old ++ node ∷ []) (λ _. new ≡ old) → (new ≡ old) ⊎ ((new ≡ old ++ node ∷ []) × ((j : ℕ) → slice_get old j ≡ Some node → ⊥))) [
      | None ↦ λ was m. inr (m, λ j at. none_there (has of_nodes.cmp itself node) old was j node at (node_itself node))
      | Some j ↦ λ was m. inl m
    ] refl made;
  }

map_pushed : (nodes : List Node) (n : Node) → branches_of (nodes ++ n ∷ []) ≡ branches_of nodes ++ branch_of n ∷ []
map_pushed [] n = refl
map_pushed (m ∷ nodes) n = ap (λ l. branch_of m ∷ l) (map_pushed nodes n)

pub length_branches : (nodes : List Node) → length (branches_of nodes) ≡ length nodes
length_branches [] = refl
length_branches (m ∷ nodes) = ap suc (length_branches nodes)

-- a member as a node at its reference
pub branch_at : (nodes : List Node) (k r : ℕ) (n : Node) → r ≡ k + 2 → slice_get nodes k ≡ Some n → node_at (branches_of nodes) r ≡ Some (branch_of n)
branch_at nodes k r n e at =
    let is : r ≡ suc (suc k) = omega arith in
    ap (node_at (branches_of nodes)) is ∙ slice_get-map branch_of nodes k ∙ ap (option_map branch_of) at

branch_same : (a b : Node) → branch_of a ≡ branch_of b → a ≡ b
branch_same a b e = node_parts a b (ap (λ (n : Branch). n.var) e) (ap (λ (n : Branch). n.low) e) (ap (λ (n : Branch). n.high) e)

member_of : (o : Option Node) (n : Node) → option_map branch_of o ≡ Some (branch_of n) → o ≡ Some n
member_of None n e = cc
member_of (Some m) n e = ap Some (branch_same m n (same_Some (branch_of m) (branch_of n) e))

fresh_branch : (nodes : List Node) (n : Node) → ((k : ℕ) → slice_get nodes k ≡ Some n → ⊥) → (r : ℕ) → node_at (branches_of nodes) r ≡ Some (branch_of n) → ⊥
fresh_branch nodes n fresh zero e = cc
fresh_branch nodes n fresh (suc zero) e = cc
fresh_branch nodes n fresh (suc (suc k)) e = fresh k (member_of (slice_get nodes k) n (sym (slice_get-map branch_of nodes k) ∙ e))

-- a table once a node is made
pub record Added (old new : List Branch) (r v l h : ℕ) : Type 0 where
  pub reduced : IsReduced new
  pub keeps : Keeps old new
  pub limits : (limit : ℕ) → v < limit → HasVariablesBelow limit old → HasVariablesBelow limit new
  pub stands : Stands new r (IsChoice new v l h) (λ u. u < v)

record Holds (old new : List Branch) (v : ℕ) : Type 0 where
  pub reduced : IsReduced new
  pub keeps : Keeps old new
  pub limits : (limit : ℕ) → v < limit → HasVariablesBelow limit old → HasVariablesBelow limit new

limits_pushed : (nodes : List Branch) (m : Branch) (limit : ℕ) → m.var < limit → HasVariablesBelow limit nodes → HasVariablesBelow limit (nodes ++ m ∷ [])
limits_pushed nodes m limit below all r n e = elim (node_push nodes m n r e) [
  | inl h ↦ all r n h
  | inr h ↦ subst (λ (x : Branch). x.var < limit) h.1 below
]

module _ (old new : List Node) (node : Node) (k : ℕ) (made : IsMade old new node k) (all : IsReduced (branches_of old))
    (low : node.low < length (branches_of old) + 2) (high : node.high < length (branches_of old) + 2)
    (low_above : IsAbove (branches_of old) node.var node.low) (high_above : IsAbove (branches_of old) node.var node.high) (differs : node.low ≡ node.high → ⊥) where
  holds : Holds (branches_of old) (branches_of new) node.var
  holds = elim made.either [
    | inl same ↦
        let P : List Node → Type 0 = λ l. Holds (branches_of old) (branches_of l) node.var in
        subst P (sym same) (record { reduced = all; keeps = keeps_same (branches_of old); limits = λ limit b h. h })
    | inr more ↦
        let P : List Branch → Type 0 = λ l. Holds (branches_of old) l node.var in
        subst P (sym (ap branches_of more.0 ∙ map_pushed old node))
        (record {
          reduced = reduced_push (branches_of old) all (branch_of node) low high low_above high_above differs (fresh_branch old node more.1);
          keeps = keeps_push (branches_of old) (branch_of node);
          limits = limits_pushed (branches_of old) (branch_of node);
        })
  ]

  pub added : (r : ℕ) → r ≡ k + 2 → Added (branches_of old) (branches_of new) r node.var node.low node.high
  added r e = record {
    reduced = holds.reduced;
    keeps = holds.keeps;
    limits = holds.limits;
    stands = stands_node (branches_of new) holds.reduced r (branch_of node) (branch_at new k r node e made.there);
  }

-- how many there are then
pub made_few : (old new : List Node) (node : Node) (k : ℕ) → IsMade old new node k → length old < most_nodes → length new ≤ most_nodes
made_few old new node k made below = elim made.either [
  | inl same ↦ let e : length new ≡ length old = ap length same in omega arith
  | inr more ↦ let e : length new ≡ length old + 1 = ap length more.0 ∙ length_push old node in omega arith
]
