-- A listing that is made shorter stays tight.
use Rattle.std.proofs.Common.{◌≡◌, ◌⊎◌, inl, inr, ℕ, zero, suc, ◌<◌, List, [], ◌∷◌, ◌++◌, length, map, Some, None, refl, sym, ap, subst, ◌∙◌, arith}
use Rattle.std.specs.Prelude.{slice_get, slice_index_or}
use Rattle.semiring_laws.specs.Semiring.{Operations}
use Rattle.semiring_laws.specs.Combination.{combination}
use Rattle.witness_graph.specs.declared.node.Node.{Node}
use Rattle.witness_graph.specs.declared.node.Node.TheVariants.{Start, Lower}
use Rattle.witness_graph.specs.declared.node.Side.{Side}
use Rattle.witness_graph.specs.Nodes.{EachNamed, AreNodes, node_at}
use Rattle.witness_graph.specs.Order.{post_order}
use Rattle.witness_graph.specs.Tight.{worth_of, IsTightNode, IsTight, AreTight}
use Rattle.witness_graph.proofs.ListingLemmas.{listing_tight}
use Rattle.witness_graph.proofs.NodeLemmas.{each_earlier}
use Rattle.witness_graph.specs.Shorter.{BeginsEmpty, stand, made_short, shortened}
use Rattle.witness_graph.proofs.PartLemmas.{SameBefore}
use Rattle.witness_graph.proofs.ShorterLemmas.{IsShort, sum_short, named_weaker, get_within}

get_there : (xs : List Node) (k : ℕ) → k < length xs → (x : Node) × (slice_get xs k ≡ Some x)
get_there [] k h = absurd (omega arith)
get_there (x ∷ xs) zero h = (x, refl)
get_there (x ∷ xs) (suc k) h = get_there xs k (omega arith)

at_get : (xs : List Node) (k : ℕ) → (slice_get xs k ≡ Some (slice_index_or xs k Start)) ⊎ (slice_index_or xs k Start ≡ Start)
at_get [] k = inr refl
at_get (x ∷ xs) zero = inl refl
at_get (x ∷ xs) (suc k) = at_get xs k

tight_from : {W : Type 0} (f : ℕ → ℕ) (worth shorter : ℕ → W) (nothing : W) (k : ℕ) (n m : Node) → SameBefore f n m → shorter k ≡ worth k → EachNamed (λ j. shorter (f j) ≡ worth j) n
    → IsTightNode worth nothing k n → IsTightNode shorter nothing k m
tight_from f worth shorter nothing k Start Start b same named h = tt
tight_from f worth shorter nothing k Start (Lower c r x y) b same named h = absurd b
tight_from f worth shorter nothing k (Lower None r x y) Start b same named h = absurd b
tight_from f worth shorter nothing k (Lower (Some c) r x y) Start b same named h = absurd b
tight_from f worth shorter nothing k (Lower None r x y) (Lower None r' x' y') b same named h = λ e. h (sym same ∙ e)
tight_from f worth shorter nothing k (Lower None r x y) (Lower (Some c) r' x' y') b same named h = absurd b
tight_from f worth shorter nothing k (Lower (Some c) r x y) (Lower None r' x' y') b same named h = absurd b
tight_from f worth shorter nothing k (Lower (Some c) r x y) (Lower (Some d) r' x' y') b same named h = λ e. h (sym same ∙ e ∙ ap shorter b ∙ named.0)

module _ {W Map : Type 0} (s : Operations W Map) (value : List ℕ → W) (side : Side) where
  tight_short : (g : ℕ) (pre new : List Node) (stands : List ℕ) → IsShort g side pre new stands → IsTight s value side pre → IsTight s value side new
  tight_short g pre new stands short tight = record { each = λ k m e. at k m e (get_there pre k (let h = get_within new k m e in omega (arith, short.new_len))) }
    where
      at : (k : ℕ) (m : Node) → slice_get new k ≡ Some m → (n : Node) × (slice_get pre k ≡ Some n) → IsTightNode (worth_of s value side new) s.zero k m
      at k m e (n, f) =
          let within = get_within pre k n f in
          tight_from (stand g stands) (worth_of s value side pre) (worth_of s value side new) s.zero k n m (short.before k n m f e)
          (ap (λ rs. combination s (map value rs)) (short.same k within))
          (named_weaker (λ j. j < k) (λ j. worth_of s value side new (stand g stands j) ≡ worth_of s value side pre j) (λ j l. ap (λ rs. combination s (map value rs)) (short.stood j (omega arith))) n (each_earlier k n (short.known.each k n f).orderly))
          (tight.each k n f)

  tight_all : (nodes : List Node) (order : List ℕ) → IsTight s value side nodes → AreTight s value side nodes order
  tight_all nodes order tight = λ k listed. at k (at_get nodes k)
    where
      at : (k : ℕ) → (slice_get nodes k ≡ Some (slice_index_or nodes k Start)) ⊎ (slice_index_or nodes k Start ≡ Start) → IsTightNode (worth_of s value side nodes) s.zero k (node_at nodes k)
      at k (inl e) = tight.each k (node_at nodes k) e
      at k (inr e) = subst (IsTightNode (worth_of s value side nodes) s.zero k) (sym e) tt

  pub stays_tight : (graph added : List Node) (root : ℕ) → AreNodes (graph ++ added) → BeginsEmpty added → root < length (graph ++ added) → IsTight s value side (graph ++ added)
      → IsTight s value side (shortened graph added root)
  stays_tight graph added root all begins within tight =
      let made = made_short graph added in
      let short = sum_short side graph added all begins in
      let at = stand (length graph) made.1 root in
      let low = short.low root within in
      listing_tight s value side made.0 at short.valid (omega (arith, short.new_len)) (tight_all made.0 (post_order made.0 at) (tight_short (length graph) (graph ++ added) made.0 made.1 short tight))
