-- A listing made shorter has no more nodes than it had.
use Rattle.std.proofs.Common.{◌≡◌, ℕ, ◌<◌, ◌≤◌, true, false, List, [], ◌∷◌, ◌++◌, length, sym, ◌∙◌, inl, inr, arith}
use Rattle.std.specs.Prelude.{IsTrue, ◌↔◌, nat_eq}
use Rattle.std.specs.Cmp.{nat_eq_equiv}
use Rattle.std.specs.List.{AllByRecursion, IsDistinct}
use Rattle.std.proofs.lemmas.Bool.{cases_Bool, eqb-true}
use Rattle.std.proofs.lemmas.List.{length-map}
use Rattle.std.proofs.lemmas.Map.Made.{length-le_from_is_member}
use Rattle.wpds_base.specs.Lists.{IsIn, IsOnce}
use Rattle.witness_graph.specs.declared.node.Node.{Node}
use Rattle.witness_graph.specs.declared.node.Side.TheVariants.{Pre}
use Rattle.witness_graph.specs.Nodes.{node_at, AreNodes}
use Rattle.witness_graph.specs.Order.{place_of, is_listed, post_order, renamed, listing_of, Reaches}
use Rattle.witness_graph.specs.Shorter.{BeginsEmpty, made_short, stand, shortened}
use Rattle.witness_graph.proofs.ListedLemmas.{listed_any}
use Rattle.witness_graph.proofs.ReachLemmas.{reached_before}
use Rattle.witness_graph.proofs.ShorterLemmas.{sum_short}

unlisted : (x : ℕ) (xs : List ℕ) → (IsIn x xs → ⊥) → AllByRecursion (λ y. nat_eq x y ≡ false) xs
unlisted x [] out = tt
unlisted x (y ∷ ys) out = elim (cases_Bool (nat_eq x y)) [
  | inl is ↦ absurd (out (inl (sym (eqb-true x y is))))
  | inr differs ↦ (differs, unlisted x ys (λ more. out (inr more)))
]

distinct : (xs : List ℕ) → IsOnce xs → IsDistinct nat_eq xs
unfolding IsDistinct
distinct [] once = tt
distinct (x ∷ xs) once = (unlisted x xs once.0, distinct xs once.1)

-- numbers that are listed once, each of them one of others, are no more than those
few : (xs ys : List ℕ) → IsOnce xs → ((k : ℕ) → is_listed xs k ≡ true → is_listed ys k ≡ true) → length xs ≤ length ys
few xs ys once within = length-le_from_is_member nat_eq_equiv xs ys (distinct xs once) (λ k e. sym (listed_any k ys) ∙ within k (listed_any k xs ∙ e))

listing_size : (nodes : List Node) (root : ℕ) → length (listing_of nodes root) ≡ length (post_order nodes root)
listing_size nodes root = let order = post_order nodes root in length-map order (λ k. renamed (λ j. place_of j order) (node_at nodes k))

-- the orders have just what is reached, each once
module _ (reached : (nodes : List Node) (root k : ℕ) → AreNodes nodes → root < length nodes → IsTrue (is_listed (post_order nodes root) k) ↔ Reaches nodes root k)
    (once : (nodes : List Node) (root : ℕ) → AreNodes nodes → root < length nodes → IsOnce (post_order nodes root)) where
  pub no_longer : (graph added : List Node) (root : ℕ) → AreNodes (graph ++ added) → BeginsEmpty added → root < length (graph ++ added)
      → length (shortened graph added root) ≤ length (listing_of (graph ++ added) root)
  no_longer graph added root all begins within =
      let made = made_short graph added in
      let at = stand (length graph) made.1 root in
      let short = sum_short Pre graph added all begins in
      let low = short.low root within in
      let inside : at < length made.0 = omega (arith, short.new_len) in
      let fewer = few (post_order made.0 at) (post_order (graph ++ added) root) (once made.0 at short.valid inside)
      (λ k e. (reached (graph ++ added) root k all within).1 (reached_before graph added root k ((reached made.0 at k short.valid inside).0 e))) in
      omega (arith, fewer, listing_size made.0 at, listing_size (graph ++ added) root)
