-- What a node names.
use Rattle.std.proofs.Common.{◌≡◌, ℕ, zero, suc, ◌<◌, ◌≤◌, List, [], ◌∷◌, ◌++◌, length, refl, sym, ap, subst, inl, inr}
use Rattle.std.specs.Prelude.{◌&&◌, ◌⊎◌, IsTrue, Option, None, Some, IfSome, option_to_list, slice_get}
use Rattle.std.specs.List.{AllByRecursion}
use Rattle.std.proofs.lemmas.Bool.{and_parts, and_from, cases_lt, ltb-true, lt-ltb}
use Rattle.std.proofs.lemmas.List.{get_or_past}
use Rattle.std.proofs.lemmas.Option.{same_Some, slice_get-get_or}
use Rattle.witness_graph.specs.declared.node.Node.{Node}
use Rattle.witness_graph.specs.declared.node.Node.TheVariants.{Start, Lower}
use Rattle.witness_graph.specs.Nodes.{node_at, named, EachNamed, is_earlier, is_orderly, IsNodeAt, AreNodes}

earlier_is : (k : ℕ) (o : Option ℕ) → IsTrue (is_earlier k o) → IfSome o (λ j. j < k)
earlier_is k None h = tt
earlier_is k (Some j) h = ltb-true j k h

earlier_from : (k : ℕ) (o : Option ℕ) → IfSome o (λ j. j < k) → IsTrue (is_earlier k o)
earlier_from k None h = refl
earlier_from k (Some j) h = lt-ltb j k h

-- the test says that each number that the node names is below the node's own
pub each_earlier : (k : ℕ) (n : Node) → IsTrue (is_orderly k n) → EachNamed (λ j. j < k) n
each_earlier k Start h = tt
each_earlier k (Lower before rule first second) h =
    let outer = and_parts (is_earlier k before) (is_earlier k first && is_earlier k second) h in
    let inner = and_parts (is_earlier k first) (is_earlier k second) outer.1 in
    (earlier_is k before outer.0, earlier_is k first inner.0, earlier_is k second inner.1)

pub orderly_from : (k : ℕ) (n : Node) → EachNamed (λ j. j < k) n → IsTrue (is_orderly k n)
orderly_from k Start h = refl
orderly_from k (Lower before rule first second) h =
    and_from (is_earlier k before) (is_earlier k first && is_earlier k second) (earlier_from k before h.0)
    (and_from (is_earlier k first) (is_earlier k second) (earlier_from k first h.1) (earlier_from k second h.2))

pub all_append : {X : Type 0} (P : X → Type 0) (xs ys : List X) → AllByRecursion P xs → AllByRecursion P ys → AllByRecursion P (xs ++ ys)
all_append P [] ys a b = b
all_append P (x ∷ xs) ys a b = (a.0, all_append P xs ys a.1 b)

all_part : (P : ℕ → Type 0) (o : Option ℕ) → IfSome o P → AllByRecursion P (option_to_list o)
all_part P None h = tt
all_part P (Some k) h = (h, tt)

-- a fact about each number that a node names, over the list of these
pub all_named : (P : ℕ → Type 0) (n : Node) → EachNamed P n → AllByRecursion P (named n)
all_named P Start h = tt
all_named P (Lower before rule first second) h =
    all_append P (option_to_list before) (option_to_list first ++ option_to_list second) (all_part P before h.0)
    (all_append P (option_to_list first) (option_to_list second) (all_part P first h.1) (all_part P second h.2))

all_left : {X : Type 0} (P : X → Type 0) (xs ys : List X) → AllByRecursion P (xs ++ ys) → AllByRecursion P xs
all_left P [] ys h = tt
all_left P (x ∷ xs) ys h = (h.0, all_left P xs ys h.1)

all_right : {X : Type 0} (P : X → Type 0) (xs ys : List X) → AllByRecursion P (xs ++ ys) → AllByRecursion P ys
all_right P [] ys h = h
all_right P (x ∷ xs) ys h = all_right P xs ys h.1

part_all : (P : ℕ → Type 0) (o : Option ℕ) → AllByRecursion P (option_to_list o) → IfSome o P
part_all P None h = tt
part_all P (Some k) h = h.0

pub each_named : (P : ℕ → Type 0) (n : Node) → AllByRecursion P (named n) → EachNamed P n
each_named P Start h = tt
each_named P (Lower before rule first second) h =
    let rest = all_right P (option_to_list before) (option_to_list first ++ option_to_list second) h in (
      part_all P before (all_left P (option_to_list before) (option_to_list first ++ option_to_list second) h),
      part_all P first (all_left P (option_to_list first) (option_to_list second) rest),
      part_all P second (all_right P (option_to_list first) (option_to_list second) rest),
    )

pub all_weaker : {X : Type 0} (P Q : X → Type 0) → ((x : X) → P x → Q x) → (xs : List X) → AllByRecursion P xs → AllByRecursion Q xs
all_weaker P Q f [] h = tt
all_weaker P Q f (x ∷ xs) h = (f x h.0, all_weaker P Q f xs h.1)

past_end : (nodes : List Node) (k : ℕ) → length nodes ≤ k → node_at nodes k ≡ Start
past_end nodes k past = get_or_past nodes k Start past

-- in a graph each number that is named is below the node's own
pub names_earlier : (nodes : List Node) → AreNodes nodes → (k : ℕ) → AllByRecursion (λ j. j < k) (named (node_at nodes k))
names_earlier nodes all k = elim (cases_lt k (length nodes)) [
  | inl within ↦ all_named (λ j. j < k) (node_at nodes k) (each_earlier k (node_at nodes k) (all.each k (node_at nodes k) (slice_get-get_or nodes k Start within)).orderly)
  | inr past ↦ subst (λ n. AllByRecursion (λ j. j < k) (named n)) (sym (past_end nodes k past)) tt
]

get_push : {X : Type 0} (xs : List X) (y x : X) (k : ℕ) → slice_get (xs ++ y ∷ []) k ≡ Some x → (slice_get xs k ≡ Some x) ⊎ ((k ≡ length xs) × (y ≡ x))
get_push [] y x zero e = inr (refl, same_Some y x e)
get_push [] y x (suc k) e = cc
get_push (z ∷ xs) y x zero e = inl e
get_push (z ∷ xs) y x (suc k) e = elim (get_push xs y x k e) [
  | inl h ↦ inl h
  | inr h ↦ inr (ap suc h.0, h.1)
]

-- one node more
pub nodes_push : (nodes : List Node) (n : Node) → AreNodes nodes → IsNodeAt (length nodes) n → AreNodes (nodes ++ n ∷ [])
nodes_push nodes n all new = record {
  each = λ k m at. elim (get_push nodes n m k at) [
    | inl old ↦ all.each k m old
    | inr is ↦
        let P : ℕ → Type 0 = λ i. IsNodeAt i m in
        let Q : Node → Type 0 = λ o. IsNodeAt (length nodes) o in
        subst P (sym is.0) (subst Q is.1 new)
  ];
}
