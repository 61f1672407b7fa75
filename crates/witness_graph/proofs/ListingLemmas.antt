-- A listing has the runs of its root.
use Rattle.std.proofs.Common.{◌≡◌, ℕ, suc, ◌+◌, ◌-◌, ◌<◌, true, List, [], ◌∷◌, ◌++◌, length, get_or, take, drop, map, refl, sym, ap, ◌∙◌, subst, inl, inr, arith}
use Rattle.std.specs.Prelude.{Option, None, Some, IfSome, is_some, ◌||◌, option_map, option_and_then, slice_get, ◌⊎◌}
use Rattle.std.specs.List.{AllByRecursion}
use Rattle.std.specs.Prelude.{All}
use Rattle.std.proofs.lemmas.List.Elements.{All-from_recursion}
use Rattle.witness_graph.specs.private.Walking.{KnowsPlaces}
use Rattle.std.proofs.lemmas.List.{append-nil, append_assoc, length_push, length-take-le, take-append-drop, take_more, map-append, length-map, get_or_append_left, get_or_push}
use Rattle.std.proofs.lemmas.Bool.{cases_lt, cases_eq}
use Rattle.std.proofs.lemmas.Option.{same_Some, slice_get-map, slice_get_within, slice_get-get_or}
use Rattle.semiring_laws.specs.Semiring.{Operations}
use Rattle.semiring_laws.specs.Combination.{combination}
use Rattle.witness_graph.specs.declared.node.Node.{Node}
use Rattle.witness_graph.specs.declared.node.Node.TheVariants.{Start, Lower}
use Rattle.witness_graph.specs.declared.node.Side.{Side}
use Rattle.witness_graph.specs.Nodes.{node_at, named, EachNamed, has_part, AreNodes, IsListing}
use Rattle.witness_graph.specs.Runs.{runs_of, runs_over, part_runs, earlier_runs, rule_runs, parts_runs}
use Rattle.witness_graph.specs.Tight.{worth_of, IsTightNode, IsTight, AreTight}
use Rattle.witness_graph.specs.Order.{place_of, is_listed, post_order, renamed, listed, listing_of}
use Rattle.witness_graph.proofs.RunLemmas.{runs_of-push_old, runs_of-push_new}
use Rattle.witness_graph.proofs.NodeLemmas.{all_weaker, each_named, names_earlier, orderly_from, nodes_push}
use Rattle.witness_graph.proofs.PlaceLemmas.{place_push_other, place_push_old, place_within, some_is, listed_more, listed_new}
use Rattle.witness_graph.proofs.WalkLemmas.{walk_by, walk_ends}

-- the number has a new one, at which the runs are the same
abbrev Moves : (ℕ → Option ℕ) → (ℕ → List (List ℕ)) → (ℕ → List (List ℕ)) → ℕ → Type 0
Moves new old runs k = (j : ℕ) × (new k ≡ Some j) × (runs j ≡ old k)

module _ (new : ℕ → Option ℕ) (old runs : ℕ → List (List ℕ)) where
  moved_earlier : (o : Option ℕ) → IfSome o (Moves new old runs) → earlier_runs runs (option_and_then new o) ≡ earlier_runs old o
  moved_earlier None h = refl
  moved_earlier (Some k) h = ap (earlier_runs runs) h.1 ∙ h.2

  moved_part : (o : Option ℕ) → IfSome o (Moves new old runs) → part_runs runs (option_and_then new o) ≡ part_runs old o
  moved_part None h = refl
  moved_part (Some k) h = ap (part_runs runs) h.1 ∙ h.2

  -- a node with new numbers has the same runs, where the nodes that it names have
  moved_runs : (side : Side) (n : Node) → EachNamed (Moves new old runs) n → runs_over side runs (renamed new n) ≡ runs_over side old n
  moved_runs side Start h = refl
  moved_runs side (Lower before rule first second) h =
      ap (λ b. b ++ parts_runs side (rule_runs rule) (part_runs runs (option_and_then new first)) (part_runs runs (option_and_then new second))) (moved_earlier before h.0)
      ∙ ap (λ f. earlier_runs old before ++ parts_runs side (rule_runs rule) f (part_runs runs (option_and_then new second))) (moved_part first h.1)
      ∙ ap (λ s. earlier_runs old before ++ parts_runs side (rule_runs rule) (part_runs old first) s) (moved_part second h.2)

kept_option : (o : Option ℕ) → option_and_then (λ k. Some k) o ≡ o
kept_option None = refl
kept_option (Some k) = refl

kept_node : (n : Node) → renamed (λ k. Some k) n ≡ n
kept_node Start = refl
kept_node (Lower before rule first second) =
    ap (λ b. Lower b rule (option_and_then (λ k. Some k) first) (option_and_then (λ k. Some k) second)) (kept_option before)
    ∙ ap (λ f. Lower before rule f (option_and_then (λ k. Some k) second)) (kept_option first)
    ∙ ap (λ s. Lower before rule first s) (kept_option second)

-- more nodes leave the runs of those that were
pub runs_of-append : (side : Side) (ns ms : List Node) (k : ℕ) → k < length ns → runs_of side (ns ++ ms) k ≡ runs_of side ns k
runs_of-append side ns [] k within = ap (λ l. runs_of side l k) (append-nil ns)
runs_of-append side ns (m ∷ ms) k within =
    ap (λ l. runs_of side l k) (sym (append_assoc ns (m ∷ []) ms))
    ∙ runs_of-append side (ns ++ m ∷ []) ms k (omega (arith, length_push ns m))
    ∙ runs_of-push_old side ns m k within

-- the runs of a node in a graph are those over the graph's
pub runs_of-node : (side : Side) (nodes : List Node) → AreNodes nodes → (k : ℕ) → k < length nodes → runs_of side nodes k ≡ runs_over side (runs_of side nodes) (node_at nodes k)
runs_of-node side nodes all k within =
    let front : List Node = take k nodes in
    let n : Node = node_at nodes k in
    let size : length front ≡ k = omega (arith, length-take-le k nodes (omega arith)) in
    let split : nodes ≡ (front ++ n ∷ []) ++ drop (k + 1) nodes =
    sym (take-append-drop (k + 1) nodes) ∙ ap (λ f. f ++ drop (k + 1) nodes) (take_more nodes k Start within) in
    let old : (j : ℕ) → j < k → runs_of side nodes j ≡ runs_of side front j =
    λ j b. ap (λ l. runs_of side l j) (split ∙ append_assoc front (n ∷ []) (drop (k + 1) nodes)) ∙ runs_of-append side front (n ∷ drop (k + 1) nodes) j (omega arith) in
    ap (λ l. runs_of side l k) split
    ∙ runs_of-append side (front ++ n ∷ []) (drop (k + 1) nodes) k (omega (arith, length_push front n))
    ∙ ap (runs_of side (front ++ n ∷ [])) (sym size)
    ∙ runs_of-push_new side front n
    ∙ sym (moved_runs (λ j. Some j) (runs_of side front) (runs_of side nodes) side n
    (each_named (Moves (λ j. Some j) (runs_of side front) (runs_of side nodes)) n
    (all_weaker (λ j. j < k) (Moves (λ j. Some j) (runs_of side front) (runs_of side nodes)) (λ j b. (j, refl, old j b)) (named n) (names_earlier nodes all k))))
    ∙ ap (runs_over side (runs_of side nodes)) (kept_node n)

-- Lists of numbers: each of a list is listed, and nodes that name listed ones alone keep their new names.
-- as a graph's node at a number has it
pub runs_of-at : (side : Side) (nodes : List Node) → AreNodes nodes → (k : ℕ) (n : Node) → slice_get nodes k ≡ Some n → runs_of side nodes k ≡ runs_over side (runs_of side nodes) n
runs_of-at side nodes all k n at =
    let within : k < length nodes = slice_get_within nodes k n at in
    let is : node_at nodes k ≡ n = same_Some (node_at nodes k) n (sym (slice_get-get_or nodes k Start within) ∙ at) in
    runs_of-node side nodes all k within ∙ ap (runs_over side (runs_of side nodes)) is

pub members_from : (pre xs : List ℕ) → AllByRecursion (λ x. is_listed (pre ++ xs) x ≡ true) xs
members_from pre [] = tt
members_from pre (x ∷ xs) =
    let same : (pre ++ x ∷ []) ++ xs ≡ pre ++ (x ∷ xs) = append_assoc pre (x ∷ []) xs in (
      ap (λ l. is_listed l x) (sym same) ∙ listed_more (pre ++ x ∷ []) xs x (listed_new pre x),
      subst (λ (l : List ℕ). AllByRecursion (λ y. is_listed l y ≡ true) xs) same (members_from (pre ++ x ∷ []) xs),
    )

map_same : {X Y : Type 0} (f g : X → Y) (xs : List X) → AllByRecursion (λ x. f x ≡ g x) xs → map f xs ≡ map g xs
map_same f g [] h = refl
map_same f g (x ∷ xs) h = ap (λ y. y ∷ map f xs) h.0 ∙ ap (λ ys. g x ∷ ys) (map_same f g xs h.1)

module _ (new other : ℕ → Option ℕ) where
  same_option : (o : Option ℕ) → IfSome o (λ i. new i ≡ other i) → option_and_then new o ≡ option_and_then other o
  same_option None h = refl
  same_option (Some k) h = h

  pub renamed_same : (n : Node) → EachNamed (λ i. new i ≡ other i) n → renamed new n ≡ renamed other n
  renamed_same Start h = refl
  renamed_same (Lower before rule first second) h =
      ap (λ b. Lower b rule (option_and_then new first) (option_and_then new second)) (same_option before h.0)
      ∙ ap (λ f. Lower (option_and_then other before) rule f (option_and_then new second)) (same_option first h.1)
      ∙ ap (λ s. Lower (option_and_then other before) rule (option_and_then other first) s) (same_option second h.2)

-- the number has a new one, of which this holds
abbrev Goes : (ℕ → Option ℕ) → (ℕ → Type 0) → ℕ → Type 0
Goes new P i = (j : ℕ) × (new i ≡ Some j) × P j

module _ (new : ℕ → Option ℕ) (P : ℕ → Type 0) where
  goes_option : (o : Option ℕ) → IfSome o (Goes new P) → IfSome (option_and_then new o) P
  goes_option None h = tt
  goes_option (Some k) h = subst (λ (o : Option ℕ). IfSome o P) (sym h.1) h.2

  each_renamed : (n : Node) → EachNamed (Goes new P) n → EachNamed P (renamed new n)
  each_renamed Start h = tt
  each_renamed (Lower before rule first second) h = (goes_option before h.0, goes_option first h.1, goes_option second h.2)

  some_option : (o : Option ℕ) → IfSome o (Goes new P) → is_some (option_and_then new o) ≡ is_some o
  some_option None h = refl
  some_option (Some k) h = ap is_some h.1

  part_renamed : (n : Node) → EachNamed (Goes new P) n → has_part (renamed new n) ≡ has_part n
  part_renamed Start h = refl
  part_renamed (Lower before rule first second) h =
      ap (λ b. is_some rule || (b || is_some (option_and_then new second))) (some_option first h.1)
      ∙ ap (λ b. is_some rule || (is_some first || b)) (some_option second h.2)

-- Lists of numbers in which each node follows those that it names, and what their listing is.
module _ (side : Side) (nodes : List Node) (all : AreNodes nodes) where
  pub record IsGood (l : List ℕ) : Type 0 where
    pub inside : (j : ℕ) → is_listed l j ≡ true → j < length nodes
    pub closed : (j : ℕ) → is_listed l j ≡ true → AllByRecursion (λ i. is_listed l i ≡ true) (named (node_at nodes j))
    pub runs : (i : ℕ) → i < length l → runs_of side (listed nodes l) i ≡ runs_of side nodes (get_or l i 0)
    pub shape : AreNodes (listed nodes l)

  good_nil : IsGood []
  good_nil = record {
    inside = λ j e. cc;
    closed = λ j e. cc;
    runs = λ i b. absurd (omega arith);
    shape = record { each = λ k n e. cc };
  }

  -- a listed number stands at its place with the same runs
  goes_to : (l : List ℕ) → IsGood l → (i : ℕ) → is_listed l i ≡ true → (j : ℕ) × (place_of i l ≡ Some j) × ((j < length l) × (runs_of side (listed nodes l) j ≡ runs_of side nodes i))
  goes_to l good i e =
      let at = some_is (place_of i l) e in
      let stands = place_within i l at.0 0 at.1 in
      (at.0, at.1, (stands.0, good.runs at.0 stands.0 ∙ ap (runs_of side nodes) stands.1))

  module _ (l : List ℕ) (k : ℕ) (within : k < length nodes) (good : IsGood l) (names : AllByRecursion (λ j. is_listed l j ≡ true) (named (node_at nodes k))) where
    abbrev at_l : ℕ → Option ℕ
    at_l j = place_of j l

    abbrev at_more : ℕ → Option ℕ
    at_more j = place_of j (l ++ k ∷ [])

    abbrev added : Node
    added = renamed at_l (node_at nodes k)

    same_names : (n : Node) → AllByRecursion (λ j. is_listed l j ≡ true) (named n) → renamed at_more n ≡ renamed at_l n
    same_names n h = renamed_same at_more at_l n
        (each_named (λ i. at_more i ≡ at_l i) n
        (all_weaker (λ j. is_listed l j ≡ true) (λ i. at_more i ≡ at_l i) (λ i e. let at = some_is (place_of i l) e in place_push_old i l (k ∷ []) at.0 at.1 ∙ sym at.1) (named n) h))

    listed_push : listed nodes (l ++ k ∷ []) ≡ listed nodes l ++ added ∷ []
    listed_push =
        map-append (λ x. renamed at_more (node_at nodes x)) l (k ∷ [])
        ∙ ap (λ ns. ns ++ renamed at_more (node_at nodes k) ∷ [])
        (map_same (λ x. renamed at_more (node_at nodes x)) (λ x. renamed at_l (node_at nodes x)) l
        (all_weaker (λ x. is_listed l x ≡ true) (λ x. renamed at_more (node_at nodes x) ≡ renamed at_l (node_at nodes x)) (λ x e. same_names (node_at nodes x) (good.closed x e)) l (members_from [] l)))
        ∙ ap (λ n. listed nodes l ++ n ∷ []) (same_names (node_at nodes k) names)

    was_or_is : (j : ℕ) → is_listed (l ++ k ∷ []) j ≡ true → (is_listed l j ≡ true) ⊎ (k ≡ j)
    was_or_is j e = elim (cases_eq k j) [
      | inl is ↦ inr is
      | inr differs ↦ inl (ap is_some (sym (place_push_other j k l differs)) ∙ e)
    ]

    more_names : (ks : List ℕ) → AllByRecursion (λ i. is_listed l i ≡ true) ks → AllByRecursion (λ i. is_listed (l ++ k ∷ []) i ≡ true) ks
    more_names ks h = all_weaker (λ i. is_listed l i ≡ true) (λ i. is_listed (l ++ k ∷ []) i ≡ true) (λ i e. listed_more l (k ∷ []) i e) ks h

    size : length (listed nodes l) ≡ length l
    size = length-map l (λ x. renamed at_l (node_at nodes x))

    moves : EachNamed (Moves at_l (runs_of side nodes) (runs_of side (listed nodes l))) (node_at nodes k)
    moves = each_named (Moves at_l (runs_of side nodes) (runs_of side (listed nodes l))) (node_at nodes k)
        (all_weaker (λ j. is_listed l j ≡ true) (Moves at_l (runs_of side nodes) (runs_of side (listed nodes l)))
        (λ i e. let g = goes_to l good i e in (g.0, g.1, g.2.1)) (named (node_at nodes k)) names)

    goes : EachNamed (Goes at_l (λ j. j < length (listed nodes l))) (node_at nodes k)
    goes = each_named (Goes at_l (λ j. j < length (listed nodes l))) (node_at nodes k)
        (all_weaker (λ j. is_listed l j ≡ true) (Goes at_l (λ j. j < length (listed nodes l)))
        (λ i e. let g = goes_to l good i e in (g.0, g.1, omega (arith, g.2.0, size))) (named (node_at nodes k)) names)

    good_more : IsGood (l ++ k ∷ [])
    good_more = record {
      inside = λ j e. elim (was_or_is j e) [ inl was ↦ good.inside j was | inr is ↦ subst (λ (i : ℕ). i < length nodes) is within ];
      closed = λ j e. elim (was_or_is j e) [
        | inl was ↦ more_names (named (node_at nodes j)) (good.closed j was)
        | inr is ↦ subst (λ (i : ℕ). AllByRecursion (λ m. is_listed (l ++ k ∷ []) m ≡ true) (named (node_at nodes i))) is (more_names (named (node_at nodes k)) names)
      ];
      runs = λ i b. ap (λ ns. runs_of side ns i) listed_push ∙ elim (cases_lt i (length l)) [
        | inl old ↦ runs_of-push_old side (listed nodes l) added i (omega (arith, size)) ∙ good.runs i old ∙ ap (runs_of side nodes) (sym (get_or_append_left l (k ∷ []) 0 i old))
        | inr past ↦
            let is : i ≡ length l = omega (arith, length_push l k) in
            let last : i ≡ length (listed nodes l) = omega (arith, size) in
            ap (runs_of side (listed nodes l ++ added ∷ [])) last
            ∙ runs_of-push_new side (listed nodes l) added
            ∙ moved_runs at_l (runs_of side nodes) (runs_of side (listed nodes l)) side (node_at nodes k) moves
            ∙ sym (runs_of-node side nodes all k within)
            ∙ ap (runs_of side nodes) (sym (get_or_push l k 0 i (sym is)))
      ];
      shape = subst AreNodes (sym listed_push)
          (nodes_push (listed nodes l) added good.shape (record {
            orderly = orderly_from (length (listed nodes l)) added (each_renamed at_l (λ j. j < length (listed nodes l)) (node_at nodes k) goes);
            part = part_renamed at_l (λ j. j < length (listed nodes l)) (node_at nodes k) goes ∙ (all.each k (node_at nodes k) (slice_get-get_or nodes k Start within)).part;
          }));
    }

  pub good_order : (root : ℕ) → root < length nodes → IsGood (post_order nodes root)
  good_order root within = walk_by nodes all IsGood (length nodes) (λ l k b good new names. good_more l k b good names) (suc root) [] root (omega arith) within good_nil

  module _ (root : ℕ) (within : root < length nodes) where
    listing_size : length (listing_of nodes root) ≡ length (post_order nodes root)
    listing_size = length-map (post_order nodes root) (λ x. renamed (λ j. place_of j (post_order nodes root)) (node_at nodes x))

    -- the last node has the root's runs
    pub listing_runs : runs_of side (listing_of nodes root) (length (listing_of nodes root) - 1) ≡ runs_of side nodes root
    listing_runs =
        let ends = walk_ends nodes root in
        let order : List ℕ = post_order nodes root in
        let count : length order ≡ length ends.0 + 1 = ap length ends.1 ∙ length_push ends.0 root in
        let last : length (listing_of nodes root) - 1 ≡ length ends.0 = omega (arith, listing_size) in
        ap (runs_of side (listing_of nodes root)) last
        ∙ (good_order root within).runs (length ends.0) (omega arith)
        ∙ ap (runs_of side nodes) (ap (λ o. get_or o (length ends.0) 0) ends.1 ∙ get_or_push ends.0 root 0 (length ends.0) refl)

    pub listing_is : IsListing (listing_of nodes root)
    listing_is =
        let ends = walk_ends nodes root in
        let count : length (post_order nodes root) ≡ length ends.0 + 1 = ap length ends.1 ∙ length_push ends.0 root in
        record { some = omega (arith, listing_size); all = (good_order root within).shape }

    -- the order has nodes of the graph alone
    pub order_within : All (λ k. k < length nodes) (post_order nodes root)
    order_within = All-from_recursion (λ k. k < length nodes) (post_order nodes root)
        (all_weaker (λ k. is_listed (post_order nodes root) k ≡ true) (λ k. k < length nodes) (good_order root within).inside (post_order nodes root) (members_from [] (post_order nodes root)))

each_of : (P : ℕ → Type 0) → ((i : ℕ) → P i) → (n : Node) → EachNamed P n
each_of P f Start = tt
each_of P f (Lower before rule first second) = (part_of before, part_of first, part_of second) where
  part_of : (o : Option ℕ) → IfSome o P
  part_of None = tt
  part_of (Some k) = f k

-- what the code makes by its table of places
pub renumbered : (nodes : List Node) (order : List ℕ) (table : ℕ → Option ℕ) → KnowsPlaces table order
    → map (λ k. renamed (λ j. table j) (node_at nodes k)) order ≡ listed nodes order
renumbered nodes order table known =
    map_same (λ k. renamed (λ j. table j) (node_at nodes k)) (λ k. renamed (λ j. place_of j order) (node_at nodes k)) order
    (all_weaker (λ k. is_listed order k ≡ true) (λ k. renamed (λ j. table j) (node_at nodes k) ≡ renamed (λ j. place_of j order) (node_at nodes k))
    (λ k e. renamed_same (λ j. table j) (λ j. place_of j order) (node_at nodes k) (each_of (λ j. table j ≡ place_of j order) known (node_at nodes k)))
    order (members_from [] order))

pub made_listing : (nodes : List Node) (root : ℕ) (made : List Node) (order order' : List ℕ) (table : ℕ → Option ℕ) → made ≡ map (λ k. renamed (λ j. table j) (node_at nodes k)) order'
    → order' ≡ order → order ≡ post_order nodes root → KnowsPlaces table order → made ≡ listing_of nodes root
made_listing nodes root made order order' table e same is known =
    e ∙ ap (map (λ k. renamed (λ j. table j) (node_at nodes k))) same
    ∙ renumbered nodes order table known ∙ ap (listed nodes) is

-- A node with new numbers is as tight, where what it names has the same worth there.
tight_renamed : {W : Type 0} (worth worth' : ℕ → W) (bottom : W) (new : ℕ → Option ℕ) (k x : ℕ) (n : Node) → worth' k ≡ worth x
    → EachNamed (λ b. (j : ℕ) × (new b ≡ Some j) × (worth' j ≡ worth b)) n → IsTightNode worth bottom x n → IsTightNode worth' bottom k (renamed new n)
tight_renamed worth worth' bottom new k x Start same each t = tt
tight_renamed worth worth' bottom new k x (Lower None rule first second) same each t = λ e. t (sym same ∙ e)
tight_renamed worth worth' bottom new k x (Lower (Some b) rule first second) same each t =
    let P : Option ℕ → Type 0 = λ o. IsTightNode worth' bottom k (Lower o rule (option_and_then new first) (option_and_then new second)) in
    subst P (sym each.0.1) (λ e. t (sym same ∙ e ∙ each.0.2))

-- a listing is tight where the nodes reached are
pub listing_tight : {W Map : Type 0} (s : Operations W Map) (value : List ℕ → W) (side : Side) (nodes : List Node) (root : ℕ) → AreNodes nodes → root < length nodes
    → AreTight s value side nodes (post_order nodes root) → IsTight s value side (listing_of nodes root)
listing_tight {W = W} s value side nodes root all within tight = record {
  each = λ k n at.
      let order : List ℕ = post_order nodes root in
      let good = good_order side nodes all root within in
      let within_list : k < length order = omega (arith, slice_get_within (listing_of nodes root) k n at, listing_size side nodes all root within) in
      let x : ℕ = get_or order k 0 in
      let is_listed_x : is_listed order x ≡ true = All-from_recursion (λ y. is_listed order y ≡ true) order (members_from [] order) k 0 within_list in
      let new : ℕ → Option ℕ = λ j. place_of j order in
      let made : ℕ → Node = λ y. renamed new (node_at nodes y) in
      let is : made x ≡ n = same_Some (made x) n (ap (option_map made) (sym (slice_get-get_or order k 0 within_list)) ∙ sym (slice_get-map made order k) ∙ at) in
      let worth : List (List ℕ) → W = λ runs. combination s (map value runs) in
      let P : ℕ → Type 0 = λ b. (j : ℕ) × (new b ≡ Some j) × (worth_of s value side (listing_of nodes root) j ≡ worth_of s value side nodes b) in
      let Q : Node → Type 0 = λ m. IsTightNode (worth_of s value side (listing_of nodes root)) s.zero k m in
      subst Q is
      (tight_renamed (worth_of s value side nodes) (worth_of s value side (listing_of nodes root)) s.zero new k x (node_at nodes x)
      (ap worth (good.runs k within_list))
      (each_named P (node_at nodes x)
      (all_weaker (λ b. is_listed order b ≡ true) P (λ b e. let g = goes_to side nodes all order good b e in (g.0, g.1, ap worth g.2.1)) (named (node_at nodes x)) (good.closed x is_listed_x)))
      (tight x is_listed_x));
}
