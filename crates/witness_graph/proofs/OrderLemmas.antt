-- The post-order has each node that is reached, once.
use Rattle.std.proofs.Common.{◌≡◌, ℕ, zero, suc, ◌<◌, true, false, List, [], ◌∷◌, ◌++◌, fold, refl, sym, ap, ◌∙◌, subst, ◌⊎◌, inl, inr, arith}
use Rattle.std.specs.Prelude.{None, Some, is_some, option_map, nat_eq}
use Rattle.std.specs.List.{AllByRecursion}
use Rattle.std.proofs.lemmas.Bool.{cond_both, cond-true, cond-false, cases_Bool, cases_eq, eqb-true, eq-eqb}
use Rattle.witness_graph.specs.declared.node.Node.{Node}
use Rattle.witness_graph.specs.declared.node.Side.TheVariants.{Pre}
use Rattle.witness_graph.specs.Nodes.{node_at, named, AreNodes}
use Rattle.std.specs.Prelude.{length, slice_get, ◌+◌, ◌-◌}
use Rattle.std.proofs.lemmas.List.{length_push}
use Rattle.witness_graph.specs.Order.{place_of, is_listed, walk, post_order, Reaches, itself, along}
use Rattle.wpds_base.specs.Lists.{IsIn, IsOnce}
use Rattle.witness_graph.proofs.NodeLemmas.{all_weaker}
use Rattle.witness_graph.proofs.PlaceLemmas.{place_push_other}
use Rattle.witness_graph.proofs.WalkLemmas.{names, walk_step, walk_none, walk_lists, walk_by, fold_keeps}
use Rattle.witness_graph.proofs.ListingLemmas.{members_from, good_order}

some_next : (o : _) → is_some (option_map (λ i. i + 1) o) ≡ is_some o
some_next None = refl
some_next (Some i) = refl

none_next : (o : _) → option_map (λ i. i + 1) o ≡ None → o ≡ None
none_next None e = refl
none_next (Some i) e = cc

-- what holds of each of a list holds of what is listed
all_listed : (Q : ℕ → Type 0) (xs : List ℕ) (k : ℕ) → AllByRecursion Q xs → is_listed xs k ≡ true → Q k
all_listed Q [] k h e = cc
all_listed Q (x ∷ xs) k h e = elim (cases_Bool (nat_eq x k)) [
  | inl is ↦ subst Q (eqb-true x k is) h.0
  | inr differs ↦ all_listed Q xs k h.1
      (sym (some_next (place_of k xs)) ∙ ap is_some (sym (cond-false (nat_eq x k) (Some 0) (option_map (λ i. i + 1) (place_of k xs)) differs)) ∙ e)
]

-- one of a list with one number more is one of the list, or that number
in_push : (xs : List ℕ) (k j : ℕ) → IsIn j (xs ++ k ∷ []) → IsIn j xs ⊎ (k ≡ j)
in_push [] k j (inl same) = inr same
in_push [] k j (inr none) = absurd none
in_push (x ∷ xs) k j (inl here) = inl (inl here)
in_push (x ∷ xs) k j (inr more) = elim (in_push xs k j more) [
  | inl there ↦ inl (inr there)
  | inr same ↦ inr same
]

-- a list with one more number that it lacks
once_push : (xs : List ℕ) (k : ℕ) → IsOnce xs → place_of k xs ≡ None → IsOnce (xs ++ k ∷ [])
once_push [] k once new = (λ none. none, tt)
once_push (x ∷ xs) k once new = elim (cases_Bool (nat_eq x k)) [
  | inl is ↦ let f : Some 0 ≡ None = sym (cond-true (nat_eq x k) (Some 0) (option_map (λ i. i + 1) (place_of k xs)) is) ∙ new in cc
  | inr differs ↦ (
    λ more. elim (in_push xs k x more) [
      | inl before ↦ once.0 before
      | inr same ↦ let f : true ≡ false = sym (eq-eqb x k (sym same)) ∙ differs in cc
    ],
    once_push xs k once.1 (none_next (place_of k xs) (sym (cond-false (nat_eq x k) (Some 0) (option_map (λ i. i + 1) (place_of k xs)) differs) ∙ new)),
  )
]

module _ (nodes : List Node) (root : ℕ) where
  abbrev AreReached : List ℕ → Type 0
  AreReached l = (j : ℕ) → is_listed l j ≡ true → Reaches nodes root j

  reached_push : (l : List ℕ) (k : ℕ) → AreReached l → Reaches nodes root k → AreReached (l ++ k ∷ [])
  reached_push l k h r j e = elim (cases_eq k j) [
    | inl is ↦ subst (λ (i : ℕ). Reaches nodes root i) is r
    | inr differs ↦ h j (ap is_some (sym (place_push_other j k l differs)) ∙ e)
  ]

  -- a walk from a node that is reached lists such nodes alone
  walk_reached : (d : ℕ) (l : List ℕ) (k : ℕ) → Reaches nodes root k → AreReached l → AreReached (walk nodes d l k)
  walk_reached zero l k r h = subst AreReached (sym (walk_none nodes l k)) h
  walk_reached (suc d) l k r h =
      subst AreReached (sym (walk_step nodes d l k))
      (cond_both (is_listed l k) l (fold (walk nodes d) l (names nodes k) ++ k ∷ []) AreReached (λ _. h)
      (λ _. reached_push (fold (walk nodes d) l (names nodes k)) k
      (fold_keeps (walk nodes d) AreReached (names nodes k) l
      (all_weaker (λ i. is_listed (names nodes k) i ≡ true) (λ i. (m : List ℕ) → AreReached m → AreReached (walk nodes d m i))
      (λ i e m q. walk_reached d m i (along k i r e) q) (names nodes k) (members_from [] (names nodes k))) h) r))

  pub order_reached : AreReached (post_order nodes root)
  order_reached = walk_reached (suc root) [] root itself (λ j e. cc)

  module _ (all : AreNodes nodes) (within : root < length nodes) where
    pub reached_order : (k : ℕ) → Reaches nodes root k → is_listed (post_order nodes root) k ≡ true
    reached_order k itself = walk_lists nodes root [] root
    reached_order k (along j k' r e) =
        all_listed (λ i. is_listed (post_order nodes root) i ≡ true) (named (node_at nodes j)) k
        ((good_order Pre nodes all root within).closed j (reached_order j r)) e

    pub order_once : IsOnce (post_order nodes root)
    order_once = walk_by nodes all IsOnce (suc root) (λ l k b once new _. once_push l k once new) (suc root) [] root (omega arith) (omega arith) tt

get_last : (xs : List ℕ) (x : ℕ) → slice_get (xs ++ x ∷ []) (length xs) ≡ Some x
get_last [] x = refl
get_last (y ∷ xs) x = get_last xs x

pub last_of : (order front : List ℕ) (x : ℕ) → order ≡ front ++ x ∷ [] → slice_get order (length order - 1) ≡ Some x
last_of order front x e =
    let count : length order - 1 ≡ length front = omega (arith, ap length e ∙ length_push front x) in
    ap (slice_get order) count ∙ ap (λ l. slice_get l (length front)) e ∙ get_last front x
