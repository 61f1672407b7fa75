-- The diagram of a test is canonical, and has the values of the test.
use Rattle.std.proofs.Common.{◌≡◌, ℕ, zero, suc, ◌+◌, ◌<◌, ◌≤◌, Bool, true, false, ◌&&◌, List, [], ◌∷◌, ◌++◌, length, refl, sym, ap, ap₂, ◌∙◌, subst, inl, inr, arith}
use Rattle.std.specs.Prelude.{Option, None, Some, nat_eq, cond, slice_get, option_and_then}
use Rattle.std.proofs.lemmas.Bool.{cases_lt, cases_eq, cases_Bool, cond-true, cond-false, eqb-true, eq-eqb, and_parts, and_from, false_from_ne_true}
use Rattle.std.proofs.lemmas.Option.{same_Some}
use Rattle.std.proofs.lemmas.List.{length_push}
use Rattle.diagram_store.specs.declared.branch.Branch.{Branch}
use Rattle.diagram_store.specs.Nodes.{node_at, IsAbove, IsReduced, HasVariablesBelow}
use Rattle.diagram_store.specs.Meaning.{value_at, set_bit}
use Rattle.diagram_store.specs.Canonical.{IsCanonical}
use Rattle.diagram_store.specs.private.Turns.{turn_after, in_turn}
use Rattle.diagram_store.proofs.CallerLemmas.{node_within, node_there, no_node, one_node, value_at_end, value_at_node, same_cond, from_parts, reduced_from_fitting}
use Rattle.diagram_store.proofs.CallerLemmas.{turn_below, turn_by_branches, leaves, leaves_none, left_node, turn_stays, canonical_is_one, canonical_from_turned, reads_below}
use Rattle.diagram_ops.specs.private.Scratch.{Keeps}
use Rattle.diagram_ops.proofs.CallerLemmas.{keeps_same, keeps_both, keeps_within, keeps_above, keeps_value, node_push, node_last, keeps_push, reduced_push}
use Rattle.relation_laws.specs.States.{AgreeBelow}
use Rattle.relation_laws.specs.Building.{Parts, constant, same_node, find_from, at_found, with_node, chosen, none_set, built, diagram_of}

-- ---- finding

pub same_node_is : (m n : Branch) → same_node m n ≡ true → m ≡ n
same_node_is m n e =
    let a = and_parts (nat_eq m.var n.var) (nat_eq m.low n.low && nat_eq m.high n.high) e in
    let b = and_parts (nat_eq m.low n.low) (nat_eq m.high n.high) a.1 in
    from_parts m n (eqb-true m.var n.var a.0) (eqb-true m.low n.low b.0) (eqb-true m.high n.high b.1)

pub same_node_itself : (m n : Branch) → m ≡ n → same_node m n ≡ true
same_node_itself m n e =
    and_from (nat_eq m.var n.var) (nat_eq m.low n.low && nat_eq m.high n.high) (eq-eqb m.var n.var (ap (λ k. k.var) e))
    (and_from (nat_eq m.low n.low) (nat_eq m.high n.high) (eq-eqb m.low n.low (ap (λ k. k.low) e)) (eq-eqb m.high n.high (ap (λ k. k.high) e)))

found_from : (r : ℕ) (m : Branch) (ns : List Branch) (q : ℕ) → find_from r m ns ≡ Some q → (i : ℕ) × (q ≡ i + r) × (slice_get ns i ≡ Some m)
found_from r m [] q e = cc
found_from r m (n ∷ ns) q e = elim (cases_Bool (same_node n m)) [
  | inl is ↦
      let at : r ≡ q = same_Some r q (sym (cond-true (same_node n m) (Some r) (find_from (suc r) m ns) is) ∙ e) in
      (0, omega arith, ap Some (same_node_is n m is))
  | inr apart ↦
      let rest = found_from (suc r) m ns q (sym (cond-false (same_node n m) (Some r) (find_from (suc r) m ns) apart) ∙ e) in
      let at : q ≡ rest.0 + suc r = rest.1 in
      (suc rest.0, omega arith, rest.2)
]

not_found_from : (r : ℕ) (m : Branch) (ns : List Branch) → find_from r m ns ≡ None → (i : ℕ) → slice_get ns i ≡ Some m → ⊥
not_found_from r m [] e i f = cc
not_found_from r m (n ∷ ns) e zero f =
    let is : same_node n m ≡ true = same_node_itself n m (same_Some n m f) in
    let g : Some r ≡ None = sym (cond-true (same_node n m) (Some r) (find_from (suc r) m ns) is) ∙ e in
    cc
not_found_from r m (n ∷ ns) e (suc i) f = elim (cases_Bool (same_node n m)) [
  | inl is ↦ let g : Some r ≡ None = sym (cond-true (same_node n m) (Some r) (find_from (suc r) m ns) is) ∙ e in cc
  | inr apart ↦ not_found_from (suc r) m ns (sym (cond-false (same_node n m) (Some r) (find_from (suc r) m ns) apart) ∙ e) i f
]

pub found_at : (m : Branch) (nodes : List Branch) (q : ℕ) → find_from 2 m nodes ≡ Some q → node_at nodes q ≡ Some m
found_at m nodes q e =
    let f = found_from 2 m nodes q e in
    let is : q ≡ suc (suc f.0) = omega (arith, f.1) in
    ap (node_at nodes) is ∙ f.2

pub not_found_at : (m : Branch) (nodes : List Branch) → find_from 2 m nodes ≡ None → (q : ℕ) → node_at nodes q ≡ Some m → ⊥
not_found_at m nodes e zero f = cc
not_found_at m nodes e (suc zero) f = cc
not_found_at m nodes e (suc (suc i)) f = not_found_from 2 m nodes e i f

-- ---- walks among more nodes

pub turn_kept : (a b : List Branch) → Keeps a b → (d turn r t : ℕ) → turn_after a d turn r ≡ Some t → turn_after b d turn r ≡ Some t
turn_kept a b k zero turn r t e = elim (cases_lt r turn) [
  | inl below ↦ turn_below b zero turn r below ∙ ap Some (sym (turn_stays a zero turn r t below e))
  | inr above ↦ absurd (leaves_none a turn r t above e)
]
turn_kept a b k (suc d) turn r t e = elim (cases_lt r turn) [
  | inl below ↦ turn_below b (suc d) turn r below ∙ ap Some (sym (turn_stays a (suc d) turn r t below e))
  | inr above ↦
      let l = leaves a d turn r t above e in
      left_node b d turn r l.middle l.node (k.each r l.node l.there) above (turn_kept a b k d turn l.node.low l.middle l.low) (turn_kept a b k d l.middle l.node.high r l.high)
      ∙ ap Some (sym l.ends)
]

-- ---- building

-- k bits from v on, and no other
abbrev pub window : ℕ → ℕ → (ℕ → Bool) → ℕ → Bool
window v zero bits = none_set
window v (suc k) bits = set_bit (window (suc v) k bits) v (bits v)

-- What building adds to nodes. The nodes are added in the order of a walk, and their variables lie among the k from v on.
pub record Builds (out : List Branch) (v k : ℕ) (f : (ℕ → Bool) → Bool) (root : ℕ) (nodes : List Branch) : Type 0 where
  pub reduced : IsReduced nodes
  pub keeps : Keeps out nodes
  pub within : root < length nodes + 2
  pub means : (bits : ℕ → Bool) → value_at nodes root bits ≡ f (window v k bits)
  pub above : (u : ℕ) → u < v → IsAbove nodes u root
  pub among : (r : ℕ) (n : Branch) → length out + 2 ≤ r → node_at nodes r ≡ Some n → (v ≤ n.var) × (n.var < v + k)
  pub turn : turn_after nodes root (length out + 2) root ≡ Some (length nodes + 2)

constant_small : (b : Bool) → constant b < 2
constant_small true = omega arith
constant_small false = omega arith

constant_is : (b : Bool) → nat_eq (constant b) 1 ≡ b
constant_is true = refl
constant_is false = refl

builds_constant : (out : List Branch) → IsReduced out → (v : ℕ) (f : (ℕ → Bool) → Bool) → Builds out v 0 f (constant (f none_set)) out
builds_constant out whole v f =
    let small : constant (f none_set) < 2 = constant_small (f none_set) in
    record {
      reduced = whole;
      keeps = keeps_same out;
      within = omega arith;
      means = λ bits. value_at_end out (constant (f none_set)) bits (no_node out (constant (f none_set)) small) ∙ constant_is (f none_set);
      above = λ u b n e. let g : None ≡ Some n = sym (no_node out (constant (f none_set)) small) ∙ e in cc;
      among = λ r n above e. let w = node_within out r n e in absurd (omega (arith, w.1));
      turn = turn_below out (constant (f none_set)) (length out + 2) (constant (f none_set)) (omega arith);
    }

module _ (out : List Branch) (v k : ℕ) (f : (ℕ → Bool) → Bool) (l : ℕ) (mid : List Branch) (h : ℕ) (end : List Branch)
    (low : Builds out (suc v) k (λ bits. f (set_bit bits v false)) l mid) (high : Builds mid (suc v) k (λ bits. f (set_bit bits v true)) h end) where
  keeps2 : Keeps out end
  keeps2 = keeps_both out mid end low.keeps high.keeps

  low_within : l < length end + 2
  low_within = keeps_within mid end high.keeps l low.within

  low_means : (bits : ℕ → Bool) → value_at end l bits ≡ f (set_bit (window (suc v) k bits) v false)
  low_means bits = keeps_value mid low.reduced end high.reduced high.keeps l low.within bits ∙ low.means bits

  low_above : (u : ℕ) → u < suc v → IsAbove end u l
  low_above u b = keeps_above mid end high.keeps u l low.within (low.above u b)

  among2 : (r : ℕ) (n : Branch) → length out + 2 ≤ r → node_at end r ≡ Some n → (suc v ≤ n.var) × (n.var < suc v + k)
  among2 r n above e = elim (cases_lt r (length mid + 2)) [
    | inl below ↦
        let old = node_there mid r (omega arith) below in
        let is : old.0 ≡ n = one_node end r old.0 n (high.keeps.each r old.0 old.1) e in
        subst (λ (m : Branch). (suc v ≤ m.var) × (m.var < suc v + k)) is (low.among r old.0 above old.1)
    | inr past ↦ high.among r n past e
  ]

  wider : (m : Branch) → (suc v ≤ m.var) × (m.var < suc v + k) → (v ≤ m.var) × (m.var < v + suc k)
  wider m w = (omega (arith, w.0), omega (arith, w.1))

  value_by : (bits : ℕ → Bool) (b : Bool) → cond b (value_at end h bits) (value_at end l bits) ≡ f (set_bit (window (suc v) k bits) v b)
  value_by bits true = high.means bits
  value_by bits false = low_means bits

  -- where the branches are one reference
  module _ (same : l ≡ h) where
    means_same : (bits : ℕ → Bool) (b : Bool) → value_at end h bits ≡ f (set_bit (window (suc v) k bits) v b)
    means_same bits true = high.means bits
    means_same bits false = ap (λ r. value_at end r bits) (sym same) ∙ low_means bits

    pub builds_same : Builds out v (suc k) f h end
    builds_same =
        let stays : length end + 2 ≡ length mid + 2 = turn_stays end h (length mid + 2) h (length end + 2) (subst (λ (r : ℕ). r < length mid + 2) same low.within) high.turn in
        let T : ℕ → Type 0 = λ r. turn_after end r (length out + 2) r ≡ Some (length mid + 2) in
        record {
          reduced = high.reduced;
          keeps = keeps2;
          within = high.within;
          means = λ bits. means_same bits (bits v);
          above = λ u b. high.above u (omega arith);
          among = λ r n above e. wider n (among2 r n above e);
          turn = subst T same (turn_kept mid end high.keeps l (length out + 2) l (length mid + 2) low.turn) ∙ ap Some (sym stays);
        }

  abbrev m : Branch
  m = record { var = v; low = l; high = h }

  means_at : (nodes : List Branch) → IsReduced nodes → Keeps end nodes → (q : ℕ) → node_at nodes q ≡ Some m → (bits : ℕ → Bool) → value_at nodes q bits ≡ f (set_bit (window (suc v) k bits) v (bits v))
  means_at nodes whole keeps q at bits =
      value_at_node nodes whole q m bits at
      ∙ same_cond (bits v) (value_at nodes h bits) (value_at nodes l bits) (value_at end h bits) (value_at end l bits)
      (keeps_value end high.reduced nodes whole keeps h high.within bits)
      (keeps_value end high.reduced nodes whole keeps l low_within bits)
      ∙ value_by bits (bits v)

  above_at : (nodes : List Branch) (q : ℕ) → node_at nodes q ≡ Some m → (u : ℕ) → u < v → IsAbove nodes u q
  above_at nodes q at u b n e = let is : m ≡ n = one_node nodes q m n at e in subst (λ (x : Branch). u < x.var) is b

  -- where the node is there: it stood there before
  pub builds_found : (q : ℕ) → node_at end q ≡ Some m → Builds out v (suc k) f q end
  builds_found q at =
      let before : q < length out + 2 = elim (cases_lt q (length out + 2)) [
        | inl below ↦ below
        | inr past ↦ let w = among2 q m past at in absurd (omega (arith, w.0))
      ] in
      let less = high.reduced.earlier q m at in
      let stays : length mid + 2 ≡ length out + 2 = turn_stays mid l (length out + 2) l (length mid + 2) (omega (arith, less.0)) low.turn in
      let stays' : length end + 2 ≡ length mid + 2 = turn_stays end h (length mid + 2) h (length end + 2) (omega (arith, less.1)) high.turn in
      record {
        reduced = high.reduced;
        keeps = keeps2;
        within = (node_within end q m at).1;
        means = means_at end high.reduced (keeps_same end) q at;
        above = above_at end q at;
        among = λ r n above e. wider n (among2 r n above e);
        turn = turn_below end q (length out + 2) q before ∙ ap Some (omega arith);
      }

  -- where it is not
  module _ (differs : l ≡ h → ⊥) (fresh : (q : ℕ) → node_at end q ≡ Some m → ⊥) where
    abbrev more : List Branch
    more = end ++ m ∷ []

    abbrev p : ℕ
    p = length end + 2

    keeps3 : Keeps end more
    keeps3 = keeps_push end m

    reduced3 : IsReduced more
    reduced3 = reduced_push end high.reduced m low_within high.within (low_above v (omega arith)) (high.above v (omega arith)) differs fresh

    there : node_at more p ≡ Some m
    there = node_last end m p refl

    among3 : (r : ℕ) (n : Branch) → length out + 2 ≤ r → node_at more r ≡ Some n → (v ≤ n.var) × (n.var < v + suc k)
    among3 r n above e = elim (node_push end m n r e) [
      | inl old ↦ wider n (among2 r n above old)
      | inr new ↦ subst (λ (x : Branch). (v ≤ x.var) × (x.var < v + suc k)) new.1 (omega arith, omega arith)
    ]

    turn3 : turn_after more p (length out + 2) p ≡ Some (length more + 2)
    turn3 =
        let k01 = keeps_within out mid low.keeps in
        let k12 = keeps_within mid end high.keeps in
        let grows : length out + 2 ≤ p = let a = k01 (length out + 1) (omega arith) in let b = k12 (length out + 1) a in omega (arith, a, b) in
        let count : length more ≡ length end + 1 = length_push end m in
        turn_by_branches more reduced3 (length out + 2) p m grows there
        ∙ ap (λ o. option_and_then (in_turn p) (option_and_then (λ t. turn_after more h t h) o)) (turn_kept mid more (keeps_both mid end more high.keeps keeps3) l (length out + 2) l (length mid + 2) low.turn)
        ∙ ap (λ o. option_and_then (in_turn p) o) (turn_kept end more keeps3 h (length mid + 2) h (length end + 2) high.turn)
        ∙ cond-true (nat_eq p p) (Some (p + 1)) None (eq-eqb p p refl)
        ∙ ap Some (omega arith)

    pub builds_added : Builds out v (suc k) f p more
    builds_added = record {
      reduced = reduced3;
      keeps = keeps_both out end more keeps2 keeps3;
      within = (node_within more p m there).1;
      means = means_at more reduced3 keeps3 p there;
      above = above_at more p there;
      among = among3;
      turn = turn3;
    }

  abbrev Chooses : Parts → Type 0
  Chooses d = Builds out v (suc k) f d.root d.nodes

  builds_node : (l ≡ h → ⊥) → (o : Option ℕ) → find_from 2 m end ≡ o → Chooses (at_found m end o)
  builds_node differs (Some q) e = builds_found q (found_at m end q e)
  builds_node differs None e = builds_added differs (not_found_at m end e)

  builds_choice : (b : Bool) → nat_eq l h ≡ b → Chooses (cond b (record { root = h; nodes = end }) (with_node m end))
  builds_choice true e = builds_same (eqb-true l h e)
  builds_choice false e = builds_node (λ same. let g : true ≡ false = sym (eq-eqb l h same) ∙ e in cc) (find_from 2 m end) refl

  pub builds_chosen : Chooses (chosen v l (record { root = h; nodes = end }))
  builds_chosen = builds_choice (nat_eq l h) refl

pub builds : (k v : ℕ) (f : (ℕ → Bool) → Bool) (out : List Branch) → IsReduced out → Builds out v k f (built k v f out).root (built k v f out).nodes
unfolding built
builds zero v f out whole = builds_constant out whole v f
builds (suc k) v f out whole =
    let low = built k (suc v) (λ bits. f (set_bit bits v false)) out in
    let one = builds k (suc v) (λ bits. f (set_bit bits v false)) out whole in
    let high = built k (suc v) (λ bits. f (set_bit bits v true)) low.nodes in
    let two = builds k (suc v) (λ bits. f (set_bit bits v true)) low.nodes one.reduced in
    builds_chosen out v k f low.root low.nodes high.root high.nodes one two

no_nodes : IsReduced []
no_nodes = reduced_from_fitting [] (λ k n e. cc)

pub diagram_builds : (n : ℕ) (f : (ℕ → Bool) → Bool) → Builds [] 0 n f (diagram_of n f).root (diagram_of n f).nodes
diagram_builds n f = builds n 0 f [] no_nodes

-- ---- the diagram of a test

pub diagram_canonical : (n : ℕ) (f : (ℕ → Bool) → Bool) → IsCanonical (diagram_of n f).root (diagram_of n f).nodes
diagram_canonical n f = let b = diagram_builds n f in canonical_from_turned (diagram_of n f).root (diagram_of n f).nodes (record { reduced = b.reduced; post_order = b.turn })

pub diagram_below : (n : ℕ) (f : (ℕ → Bool) → Bool) → HasVariablesBelow n (diagram_of n f).nodes
diagram_below n f r m e =
    let w = node_within (diagram_of n f).nodes r m e in
    let a = (diagram_builds n f).among r m (omega (arith, w.0)) e in
    omega (arith, a.1)

pub diagram_value : (n : ℕ) (f : (ℕ → Bool) → Bool) (bits : ℕ → Bool) → value_at (diagram_of n f).nodes (diagram_of n f).root bits ≡ f (window 0 n bits)
diagram_value n f bits = (diagram_builds n f).means bits

-- a bit in the window
pub window_bit : (k v : ℕ) (bits : ℕ → Bool) (i : ℕ) → v ≤ i → i < v + k → window v k bits i ≡ bits i
window_bit zero v bits i low high = absurd (omega arith)
window_bit (suc k) v bits i low high = elim (cases_eq i v) [
  | inl is ↦ cond-true (nat_eq i v) (bits v) (window (suc v) k bits i) (eq-eqb i v is) ∙ ap bits (sym is)
  | inr apart ↦
      cond-false (nat_eq i v) (bits v) (window (suc v) k bits i) (false_from_ne_true (nat_eq i v) (λ e. apart (eqb-true i v e)))
      ∙ window_bit k (suc v) bits i (omega arith) (omega arith)
]

pub window_agrees : (n : ℕ) (bits : ℕ → Bool) → AgreeBelow n (window 0 n bits) bits
window_agrees n bits k below = window_bit n 0 bits k (omega arith) (omega arith)

-- a canonical diagram on the first n bits is that of its test
pub is_diagram_of : (n : ℕ) (root : ℕ) (nodes : List Branch) → IsCanonical root nodes → HasVariablesBelow n nodes → (f : (ℕ → Bool) → Bool)
    → ((bits : ℕ → Bool) → value_at nodes root bits ≡ f bits) → (root ≡ (diagram_of n f).root) × (nodes ≡ (diagram_of n f).nodes)
is_diagram_of n root nodes canonical below f means =
    canonical_is_one nodes (diagram_of n f).nodes root (diagram_of n f).root canonical (diagram_canonical n f) (λ bits.
    reads_below n nodes canonical.reduced root below bits (window 0 n bits) (λ k b. sym (window_agrees n bits k b))
    ∙ means (window 0 n bits)
    ∙ sym (diagram_value n f bits))

pub parts_same : (a b : Parts) → a.root ≡ b.root → a.nodes ≡ b.nodes → a ≡ b
parts_same a b r n = ap₂ (λ root nodes. record { root = root; nodes = nodes }) r n
